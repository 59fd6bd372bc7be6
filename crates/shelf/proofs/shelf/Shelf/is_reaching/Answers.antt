use Rattle.std.proofs.Common.{◌≡◌, ◌<◌, false, sym, ◌∙◌, arith}
use Rattle.std.specs.Prelude.{◌==◌, vec_len}
use Rattle.std.proofs.lemmas.Bool.{eqb-true}
use Rattle.std.proofs.lemmas.Bool.Decides.{nat_tests}
use Rattle.cell_store.specs.TestLaws.{not_false, not_true}
use Rattle.shelf.proofs.SettlingLaws.{nil_of}
use Rattle.shelf.proofs.shelf.Shelf.is_reaching.Goals as goal

pub returns-clause-some : goal.returns-clause-some
returns-clause-some c = λ yes.
    let settlings = c.args.self.now.settlings in
    let some : (vec_len c.args.self.now.settlings == 0) ≡ false = sym c.is_empty.ensures ∙ not_true c.is_empty.result yes in
    let low : 0 < vec_len c.args.self.now.settlings = grind (arith, nat_tests) in
    omega (arith, low, settlings.ok.0)

pub returns-clause-none : goal.returns-clause-none
returns-clause-none c = λ no.
    let settlings = c.args.self.now.settlings in
    let none = eqb-true (vec_len settlings) 0 (sym c.is_empty.ensures ∙ not_false c.is_empty.result no) in
    nil_of settlings.items (omega (arith, none, settlings.ok.0))
