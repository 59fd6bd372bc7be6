use Rattle.std.proofs.Common.{◌≡◌, true, cond, length, List, [], ◌∷◌, sym, ap, ◌∙◌, subst, arith}
use Rattle.cell_store.specs.Same.{same_cell}
use Rattle.shelf.specs.Settling.{settled_cell}
use Rattle.shelf.specs.declared.settling.Settling.{Settling}
use Rattle.shelf.specs.declared.shelf.KeptFlush.{KeptFlush}
use Rattle.shelf.specs.KeptCells.{cells_in, changes, has_question}
use Rattle.shelf.specs.Sweep.{numbers_of}
use Rattle.shelf.proofs.KeptCellsLaws.{changes_few, kept_apart, length_all}
use Rattle.shelf.proofs.shelf.Shelf.kept.Goals as goal

pub returns-then-has_question-clause-apart : goal.returns-then-has_question-clause-apart
returns-then-has_question-clause-apart c =
    let self = c.args.self.now in
    let q = c.args.question.now in
    kept_apart same_cell (has_question self.owners q) (settled_cell self.settlings.items self.owners q 0) (cells_in self.settlings.items self.owners q (numbers_of self.kept.items q))

pub returns-then-has_question-clause-few : goal.returns-then-has_question-clause-few
returns-then-has_question-clause-few c =
    let self = c.args.self.now in
    let q = c.args.question.now in
    let f = settled_cell self.settlings.items self.owners q in
    let numbers = numbers_of self.kept.items q in
    let count : c.count_changes.result ≡ length (changes same_cell (f 0) (cells_in self.settlings.items self.owners q numbers)) =
    subst (λ (s : List Settling). c.count_changes.result ≡ length (changes same_cell (settled_cell s self.owners q 0) (cells_in s self.owners q (numbers_of self.kept.items q)))) c.deref.ensures.value
    (subst (λ (l : List KeptFlush). c.count_changes.result ≡ length (changes same_cell (settled_cell c.deref.result.now self.owners q 0) (cells_in c.deref.result.now self.owners q (numbers_of l q)))) c.deref-then-has_question.ensures.value c.count_changes.ensures.value) in
    omega (arith, count, changes_few same_cell (f 0) (cells_in self.settlings.items self.owners q numbers), length_all f numbers)

pub returns-then-has_question-clause-value : goal.returns-then-has_question-clause-value
returns-then-has_question-clause-value c =
    let self = c.args.self.now in
    let q = c.args.question.now in
    let f = settled_cell self.settlings.items self.owners q in
    let numbers = numbers_of self.kept.items q in
    let count : c.count_changes.result ≡ length (changes same_cell (f 0) (cells_in self.settlings.items self.owners q numbers)) =
    subst (λ (s : List Settling). c.count_changes.result ≡ length (changes same_cell (settled_cell s self.owners q 0) (cells_in s self.owners q (numbers_of self.kept.items q)))) c.deref.ensures.value
    (subst (λ (l : List KeptFlush). c.count_changes.result ≡ length (changes same_cell (settled_cell c.deref.result.now self.owners q 0) (cells_in c.deref.result.now self.owners q (numbers_of l q)))) c.deref-then-has_question.ensures.value c.count_changes.ensures.value) in
    let has : has_question c.args.self.now.owners c.args.question.now ≡ true = sym c.has_question.ensures ∙ c.if-has_question.true in
    let all = ap (λ b. length (cond b (f 0 ∷ changes same_cell (f 0) (cells_in self.settlings.items self.owners q numbers)) [])) has in
    omega (arith, count, all)
