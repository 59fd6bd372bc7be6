use Rattle.std.proofs.Common.{◌≡◌, ◌-◌, ℕ, List, take}
use Rattle.local_zone.specs.CountsBelow.{count_under, AreAboveZero}
use Rattle.local_zone.proofs.Keyed.{spelled}
use Rattle.local_zone.proofs.counts_below.lower_first.Given as goal

abbrev pub invariant-loop-i : goal.invariant-loop-i
invariant-loop-i l = record {
  count : (other : List ℕ) → count_under spelled other l.counts.entries ≡ count_under spelled other l.fn.counts.entries - count_under spelled other (take l.i l.less.entries);
  above_zero : AreAboveZero spelled l.fn.counts.entries → AreAboveZero spelled l.counts.entries;
}
