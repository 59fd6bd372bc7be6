-- The cells that a shelf keeps for a question.
use Rattle.std.specs.Prelude.{ℕ, ◌||◌, Bool, List, [], ◌∷◌, Option, map, if◌then◌else◌}
use Rattle.dns_text.specs.declared.record.Question.{Question}
use Rattle.ranked.specs.declared.find.Find.{Find}
use Rattle.ranked.specs.declared.find.Scope.TheVariants.{One, Whole}
use Rattle.ranked.specs.declared.cell.Admitted.{Admitted}
use Rattle.cell_store.specs.Same.{same_cell}
use Rattle.shelf.specs.KeptCells.{changes}
use Rattle.shelf.specs.Sweep.{numbers_of}
use Rattle.store.specs.World.{Shelved, cell_at, counts_in}

-- whether a place of a question counts: that of its type, or of the whole name
abbrev pub counts_question : Shelved → Question → Bool
counts_question shelf q = counts_in shelf (q.owner, One q.kind) || counts_in shelf (q.owner, Whole)

-- the kept cells of a question: that of version 0, and of the versions of the kept flushes that cover it, in order, each that differs from the one before it
abbrev pub kept_in : Shelved → Question → List (Option (Admitted Find))
kept_in shelf q =
    let first : Option (Admitted Find) = cell_at shelf q 0 in
    if counts_question shelf q then first ∷ changes same_cell first (map (cell_at shelf q) (numbers_of shelf.flushes q)) else []
