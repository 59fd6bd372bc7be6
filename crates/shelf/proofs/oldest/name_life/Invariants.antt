use Rattle.std.proofs.Common.{◌≡◌, take}
use Rattle.std.specs.Prelude.{fold}
use Rattle.cell_store.specs.Life.{life_end}
use Rattle.cell_store.specs.Owner.{whole_held}
use Rattle.shelf.specs.Settling.{settled_version}
use Rattle.shelf.specs.First.{later_kind}
use Rattle.shelf.proofs.oldest.name_life.Given as goal

-- the end by the columns so far
abbrev pub invariant-loop-own : goal.invariant-loop-own
invariant-loop-own l = l.end ≡ fold (later_kind l.settlings l.kept l.name l.cells) (life_end (whole_held l.cells.whole (settled_version l.settlings l.name 0))) (take l.own-index l.cells.kinds.items)
