use Rattle.std.proofs.Common.{◌≡◌, take}
use Rattle.std.specs.Prelude.{fold}
use Rattle.cell_store.specs.Ends.{cell_end, kind_earlier}
use Rattle.cell_store.specs.Owner.{whole_cell}
use Rattle.cell_store.proofs.owner.OwnerCells.first_end.Given as goal

-- the end by the columns so far
abbrev pub invariant-loop-own : goal.invariant-loop-own
invariant-loop-own l = l.end ≡ fold kind_earlier (cell_end (whole_cell l.self.whole)) (take l.own-index l.self.kinds.items)
