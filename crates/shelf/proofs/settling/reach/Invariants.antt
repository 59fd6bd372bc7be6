use Rattle.std.proofs.Common.{◌≤◌, ℕ}
use Rattle.cell_store.specs.Store.{AreUpTo}
use Rattle.shelf.specs.Losing.{HaveGoneDown, LoseCells}
use Rattle.shelf.specs.Settling.{IsReaching}
use Rattle.shelf.proofs.settling.reach.Given as goal

-- the flush has reached the names from the place on
abbrev pub invariant-loop-place : goal.invariant-loop-place
invariant-loop-place l = record {
  low : l.place ≤ l.left;
  last : l.last ≤ l.place;
  reaching : (top : ℕ) → AreUpTo top l.fn.owners → IsReaching l.zone l.number top l.left l.place l.fn.owners l.owners;
  lost : LoseCells l.fn.owners l.fn.stored l.fn.ends l.owners l.stored l.ends;
  ended : HaveGoneDown l.left l.place l.fn.ends l.ends;
}

abbrev pub decreases-loop-place : goal.decreases-loop-place
decreases-loop-place l = l.place
