use Rattle.std.proofs.Common.{◌≡◌, ◌+◌, ◌<◌, ◌≤◌, vec_len}
use Rattle.front_workers.specs.FilledCells.{AreCurrent, HaveEnded}
use Rattle.front_workers.proofs.filled_cells.FilledCells.retire.Given as goal

-- So far only cells have left that have ended, and none of the places that were looked at has such a cell.
abbrev pub invariant-loop-looked : goal.invariant-loop-looked
invariant-loop-looked l = record {
  ended : HaveEnded l.now l.fn.self.places.items l.self.places.items;
  current : AreCurrent l.now l.self.places.items l.fn.self.cursor l.looked;
  further : l.self.cursor ≡ l.fn.self.cursor + l.looked;
  within : 0 < l.looked → l.self.cursor ≤ vec_len l.fn.self.places;
}
