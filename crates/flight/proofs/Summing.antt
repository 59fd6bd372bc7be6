-- Sums over the slots of a table, as slots are filled and emptied.
use Rattle.std.proofs.Common.{◌≡◌, ◌≢◌, ◌≤◌, ◌+◌, ℕ, zero, suc, List, [], ◌∷◌, get_or, Option, Some, None, refl, sym, ap, arith}
use Rattle.std.specs.List.{sum_by}
use Rattle.std.proofs.lemmas.List.Sums.{sum_by-cons}

after_first : (key : ℕ) → suc key ≢ 0
after_first key is = omega arith

before_others : (key : ℕ) → 0 ≢ suc key
before_others key is = omega arith

apart : (other key : ℕ) → other ≢ key → suc other ≢ suc key
apart other key differs is = differs (omega arith)

module _ {A : Type 0} (f : Option A → ℕ) (nothing : f None ≡ 0) where
  -- The sum is 0 if all are empty,
  none_summed : (slots : List (Option A)) → ((key : ℕ) → get_or slots key None ≡ None) → sum_by f slots ≡ 0
  none_summed [] none = refl
  none_summed (first ∷ rest) none = omega (arith, none_summed rest (λ key. none (suc key)), sum_by-cons f first rest, ap f (none 0), nothing)

  -- or if each adds nothing.
  pub zero_summed : (slots : List (Option A)) → ((key : ℕ) → f (get_or slots key None) ≤ 0) → sum_by f slots ≡ 0
  zero_summed [] none = refl
  zero_summed (first ∷ rest) none = omega (arith, zero_summed rest (λ key. none (suc key)), sum_by-cons f first rest, none 0)

  -- It is the same if the same are filled.
  same_summed : (old new : List (Option A)) → ((key : ℕ) → get_or new key None ≡ get_or old key None) → sum_by f new ≡ sum_by f old
  same_summed [] new same = none_summed new same
  same_summed (first ∷ rest) [] same = sym (none_summed (first ∷ rest) (λ key. sym (same key)))
  same_summed (first ∷ rest) (first' ∷ rest') same =
      omega (arith, same_summed rest rest' (λ key. same (suc key)), sum_by-cons f first rest, sum_by-cons f first' rest', ap f (same 0))

  -- One that is filled is added.
  pub one_summed : (old new : List (Option A)) (key : ℕ) (value : A) → get_or old key None ≡ None → get_or new key None ≡ Some value
      → ((other : ℕ) → other ≢ key → get_or new other None ≡ get_or old other None) → sum_by f new ≡ sum_by f old + f (Some value)
  one_summed old [] key value vacant begins others = absurd (cc begins)
  one_summed [] (first' ∷ rest') zero value vacant begins others =
      omega (arith, none_summed rest' (λ at. others (suc at) (after_first at)), sum_by-cons f first' rest', ap f begins)
  one_summed [] (first' ∷ rest') (suc key) value vacant begins others =
      omega (
        arith,
        one_summed [] rest' key value refl begins (λ at differs. others (suc at) (apart at key differs)),
        sum_by-cons f first' rest',
        ap f (others 0 (before_others key)),
        nothing,
      )
  one_summed (first ∷ rest) (first' ∷ rest') zero value vacant begins others =
      omega (
        arith,
        same_summed rest rest' (λ at. others (suc at) (after_first at)),
        sum_by-cons f first rest,
        sum_by-cons f first' rest',
        ap f vacant,
        ap f begins,
        nothing,
      )
  one_summed (first ∷ rest) (first' ∷ rest') (suc key) value vacant begins others =
      omega (
        arith,
        one_summed rest rest' key value vacant begins (λ at differs. others (suc at) (apart at key differs)),
        sum_by-cons f first rest,
        sum_by-cons f first' rest',
        ap f (others 0 (before_others key)),
      )

  -- What one adds is no more than the sum.
  pub part_of_sum : (slots : List (Option A)) (key : ℕ) → f (get_or slots key None) ≤ sum_by f slots
  part_of_sum [] key = omega (arith, nothing)
  part_of_sum (first ∷ rest) zero = omega (arith, sum_by-cons f first rest)
  part_of_sum (first ∷ rest) (suc key) = omega (arith, part_of_sum rest key, sum_by-cons f first rest)
