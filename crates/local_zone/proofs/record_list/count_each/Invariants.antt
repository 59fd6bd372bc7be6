use Rattle.std.proofs.Common.{◌≡◌, ◌+◌, take}
use Rattle.dns_name.specs.Labels.{Labels}
use Rattle.local_zone.specs.CountsBelow.{count_below, counted}
use Rattle.local_zone.proofs.record_list.count_each.Given as goal

-- those so far
abbrev pub invariant-loop-r : goal.invariant-loop-r
invariant-loop-r l = (name : Labels) → counted name l.counts ≡ counted name l.fn.counts + count_below name (take l.r-index l.records)
