use Rattle.std.proofs.Common.{◌≡◌, ◌<◌, ℕ, max, true, cond, ap, sym, ◌∙◌, arith}
use Rattle.std.specs.Prelude.{nat_lt}
use Rattle.std.proofs.lemmas.Bool.{false≢true}
use Rattle.std.proofs.lemmas.Bool.Decides.{nat_tests}
use Rattle.cell_store.specs.Version.{nothing, place_at}
use Rattle.cell_store.specs.Column.{Cells, place_in}
use Rattle.cell_store.proofs.column.Column.settle.Goals as goal

is_past : (a b : ℕ) → a < b → nat_lt a b ≡ true
is_past a b late = grind (arith, nat_tests)

past : (cells : Cells) (v : ℕ) → cells.upto < v → place_in cells v ≡ nothing
past cells v late = ap (λ b. cond b nothing (place_at cells.versions v)) (is_past cells.upto v late)

pub returns-then-self-number : goal.returns-then-self-number
returns-then-self-number c =
    let late : c.args.self.now.upto < c.args.number = omega (arith, ap (λ (s : Cells). s.upto) c.self.view_is, c.if-self-number.true) in
    record {
      places = λ v. c.clear.ensures.places v ∙ sym (past c.args.self.now (max c.args.number v) (omega (arith, late)));
      upto = omega (arith, c.clear.ensures.upto, ap (λ (s : Cells). s.upto) c.self.view_is);
      counted = λ is. absurd (false≢true (sym c.clear.ensures.counted ∙ is));
    }

pub returns-else-self-number : goal.returns-else-self-number
returns-else-self-number c = c.forget_before.ensures
