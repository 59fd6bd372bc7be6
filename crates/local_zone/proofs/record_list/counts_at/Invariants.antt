use Rattle.std.proofs.Common.{◌≡◌, ◌+◌, drop}
use Rattle.dns_name.specs.Labels.{Labels}
use Rattle.local_zone.specs.CountsBelow.{count_below, counted}
use Rattle.local_zone.specs.Gaps.{at_gaps, records_of, AreWithin}
use Rattle.local_zone.proofs.record_list.counts_at.Given as goal

-- those so far, and those to come
abbrev pub invariant-loop-gap : goal.invariant-loop-gap
invariant-loop-gap l = record {
  within : AreWithin (drop l.gap-index l.gaps) (drop l.place l.list);
  all : (name : Labels) → counted name l.counts + count_below name (records_of (at_gaps (drop l.gap-index l.gaps) (drop l.place l.list))) ≡ count_below name (records_of (at_gaps l.gaps l.list));
}
