use Rattle.std.proofs.Common.{ℕ, ◌+◌, ◌<◌, ◌≤◌, vec_len}
use Rattle.front_workers.specs.FilledCells.{IsPassed}
use Rattle.front_workers.specs.declared.filled_cells.TheConstants.{ROW}
use Rattle.front_workers.proofs.filled_cells.FilledCells.place_of.Given as goal

-- The best so far is a place of the row, and ends first of those before.
abbrev pub invariant-loop-place : goal.invariant-loop-place
invariant-loop-place l = record {
  within : l.best < vec_len l.self.places;
  from_first : l.first ≤ l.best;
  in_row : l.best < l.first + ROW;
  passed : (other : ℕ) → l.first ≤ other → other < l.place → IsPassed l.self.places.items l.mark l.best other;
}
