use Rattle.std.proofs.Common.{◌≡◌, ℕ, List, [], length, refl, sym, ap, ◌∙◌, subst, arith}
use Rattle.shelf.specs.Clean.{evens_of, AreKeyed, IsEnd}
use Rattle.shelf.specs.Lasts.{AreLow}
use Rattle.shelf.proofs.ends.no_ends.Goals as goal

pub returns-clause-ends : goal.returns-clause-ends
returns-clause-ends c = λ kept.
    let none : c.new.result ≡ [] = c.new.ensures in
    let mixed = c.new-2.result.items in
    let lasts = c.new-3.result.ends.items in
    record {
      size = ap length none;
      now = subst (λ (l : List ℕ). AreKeyed (IsEnd kept) [] l) (sym none) (record { size = refl; each = λ i. tt });
      ever = subst (λ (l : List ℕ). AreKeyed (IsEnd []) [] (evens_of l mixed)) (sym none) (record { size = refl; each = λ i. tt });
      flags = ap length c.new-2.ensures.items ∙ sym (ap length none);
      low = subst (λ (l : List ℕ). AreLow kept [] l lasts) (sym none) (λ i some. absurd (omega (arith, some)));
      low_ever = subst (λ (l : List ℕ). AreLow [] [] (evens_of l mixed) lasts) (sym none) (λ i some. absurd (omega (arith, some)));
      winners = c.new-3.ensures;
    }
