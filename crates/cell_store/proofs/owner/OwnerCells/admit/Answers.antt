use Rattle.std.proofs.Common.{◌≡◌, ◌≤◌, ◌+◌, ℕ, Bool, true, false, ap, sym, subst, ◌∙◌, arith}
use Rattle.std.specs.Prelude.{is_some, not}
use Rattle.ranked.specs.declared.find.Find.{Find}
use Rattle.ranked.specs.declared.find.Scope.{Scope}
use Rattle.ranked.specs.declared.find.Scope.TheVariants.{One, Whole}
use Rattle.cell_store.specs.Count.{count_kinds, one_if, AddsAtMost}
use Rattle.cell_store.proofs.owner.OwnerCells.admit.Goals as goal

whole_room : (b : Bool) (n : ℕ) → 1 ≤ one_if b + n + one_if (not b)
whole_room true n = omega arith
whole_room false n = omega arith

pub returns-in-One-clause-adds : goal.returns-in-One-clause-adds
returns-in-One-clause-adds c =
    let here : One c.in-One.kind ≡ c.args.find.scope = sym c.in-One.is ∙ ap (λ (f : Find). f.scope) c.find.ensures in
    subst (λ (s : Scope). AddsAtMost s c.args.self.now c.admit_kind.new.self) here c.admit_kind.ensures.adds

pub returns-in-Whole-clause-adds : goal.returns-in-Whole-clause-adds
returns-in-Whole-clause-adds c =
    let old = c.args.self.now in
    let here : Whole ≡ c.args.find.scope = sym c.in-Whole.is ∙ ap (λ (f : Find). f.scope) c.find.ensures in
    subst (λ (s : Scope). AddsAtMost s c.args.self.now c.admit_whole.new.self) here (record {
      count = omega (arith, c.admit_whole.ensures.count, whole_room (is_some old.whole) (count_kinds old.kinds.items));
      places = c.admit_whole.ensures.places;
      tidy = λ was. c.admit_whole.ensures.tidy;
    })
