use Rattle.std.proofs.Common.{◌-◌, length}
use Rattle.cell_store.proofs.Release.{IsReleased}
use Rattle.cell_store.proofs.slots.release.Given as goal

abbrev pub invariant-loop-slot : goal.invariant-loop-slot
invariant-loop-slot l = IsReleased l.fn.versions.items l.fn.finds l.versions.items l.finds l.slot

abbrev pub decreases-loop-slot : goal.decreases-loop-slot
decreases-loop-slot l = length l.finds - l.slot
