-- The kept cells of a question.
use Rattle.std.specs.Prelude.{◌≡◌, ℕ, ◌||◌, Bool, false, List, [], ◌∷◌, Option, map, if◌then◌else◌}
use Rattle.indexmap.specs.IndexMap.{IndexMap}
use Rattle.dns_name.specs.Labels.{Labels}
use Rattle.dns_text.specs.declared.record.Question.{Question}
use Rattle.ranked.specs.declared.find.Find.{Find}
use Rattle.ranked.specs.declared.find.Scope.TheVariants.{One, Whole}
use Rattle.ranked.specs.declared.cell.Admitted.{Admitted}
use Rattle.cell_store.specs.declared.owner.OwnerCells.{OwnerCells}
use Rattle.cell_store.specs.Count.{has_pair}
use Rattle.cell_store.specs.Same.{same_cell}
use Rattle.shelf.specs.declared.settling.Settling.{Settling}
use Rattle.shelf.specs.declared.shelf.KeptFlush.{KeptFlush}
use Rattle.shelf.specs.declared.shelf.Shelf.{Shelf}
use Rattle.shelf.specs.Settling.{settled_cell}
use Rattle.shelf.specs.Sweep.{numbers_of}

-- after a first one, those that differ from the one before them
abbrev pub changes : {A : Type 0} → (A → A → Bool) → A → List A → List A
changes same x [] = []
changes same x (y ∷ ys) = if same x y then changes same x ys else y ∷ changes same y ys

-- Each differs from the one before it, and the first from another one.
abbrev pub AreApartFrom : {A : Type 0} → (A → A → Bool) → A → List A → Type 0
AreApartFrom same x [] = Unit {0}
AreApartFrom same x (y ∷ ys) = (same x y ≡ false) × AreApartFrom same y ys

-- No two neighbours are the same.
abbrev pub AreApart : {A : Type 0} → (A → A → Bool) → List A → Type 0
AreApart same [] = Unit {0}
AreApart same (x ∷ xs) = AreApartFrom same x xs

-- the cells of some versions of a question, whether or not the permanent flush has reached the name
abbrev pub cells_in : {S : Type 0} → List Settling → IndexMap Labels OwnerCells S → Question → List ℕ → List (Option (Admitted Find))
cells_in settlings owners question versions = map (settled_cell settlings owners question) versions

-- the cells of the versions of the kept flushes that cover a question, in order, each that differs from the one before it; the first comes after that of version 0
abbrev pub kept_changes : {S : Type 0} → List Settling → IndexMap Labels OwnerCells S → List KeptFlush → Question → List (Option (Admitted Find))
kept_changes settlings owners kept question =
    changes same_cell (settled_cell settlings owners question 0) (cells_in settlings owners question (numbers_of kept question))

-- whether a place of a question counts: that of its type, or of the whole name
abbrev pub has_question : {S : Type 0} → IndexMap Labels OwnerCells S → Question → Bool
has_question owners question = has_pair owners (question.owner, One question.kind) || has_pair owners (question.owner, Whole)

-- the kept cells of a question: that of version 0, and of the versions of the kept flushes that cover it, in order, each that differs from the one before it
abbrev pub kept_cells : Shelf → Question → List (Option (Admitted Find))
kept_cells shelf question =
    let first : Option (Admitted Find) = settled_cell shelf.settlings.items shelf.owners question 0 in
    if has_question shelf.owners question then first ∷ changes same_cell first (cells_in shelf.settlings.items shelf.owners question (numbers_of shelf.kept.items question)) else []
