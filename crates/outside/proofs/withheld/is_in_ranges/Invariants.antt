use Rattle.std.proofs.Common.{◌≡◌, ◌<◌, ℕ}
use Rattle.std.specs.Prelude.{slice_index_or}
use Rattle.system.specs.Ranges.{IsInRange}
use Rattle.system.specs.declared.range.AddressRange.{AddressRange}
use Rattle.outside.proofs.withheld.is_in_ranges.Given as goal

abbrev pub invariant-loop-range : goal.invariant-loop-range
invariant-loop-range l = (k : ℕ) → k < l.range-index → (range : AddressRange) → slice_index_or l.ranges k range ≡ range → IsInRange range l.ip → ⊥
