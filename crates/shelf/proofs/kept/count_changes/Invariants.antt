use Rattle.std.proofs.Common.{◌≤◌, take}
use Rattle.cell_store.specs.Same.{same_cell}
use Rattle.shelf.specs.Settling.{settled_cell}
use Rattle.shelf.specs.Sweep.{numbers_of}
use Rattle.shelf.proofs.KeptCellsLaws.{IsCounted}
use Rattle.shelf.proofs.kept.count_changes.Given as goal

-- those of the versions so far
abbrev pub invariant-loop-own : goal.invariant-loop-own
invariant-loop-own l = IsCounted same_cell (settled_cell l.settlings l.owners l.question) (numbers_of (take l.own-index l.kept) l.question) l.count l.last × (l.count ≤ l.own-index)
