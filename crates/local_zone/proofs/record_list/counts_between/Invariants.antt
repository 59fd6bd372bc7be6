use Rattle.std.proofs.Common.{◌≡◌, ◌≤◌, ◌<◌, ◌+◌, drop, get_or, length}
use Rattle.dns_name.specs.Labels.{Labels}
use Rattle.local_zone.specs.CountsBelow.{count_below, counted}
use Rattle.local_zone.specs.Gaps.{rest_of, AreWithin}
use Rattle.local_zone.proofs.record_list.counts_between.Given as goal

-- those so far, and those to come
abbrev pub invariant-loop-gap : goal.invariant-loop-gap
invariant-loop-gap l = record {
  place : l.place ≤ length l.list;
  next : l.gap-index < length l.gaps → l.place + get_or l.gaps l.gap-index 0 < length l.list;
  within : AreWithin (drop l.gap-index l.gaps) (drop l.place l.list);
  all : (name : Labels) → counted name l.counts + count_below name (rest_of (drop l.gap-index l.gaps) (drop l.place l.list)) ≡ count_below name (rest_of l.gaps l.list);
}
