-- Counts under the keys of an index, one key after another.
use Rattle.std.proofs.Common.{◌≡◌, ℕ, zero, suc, ◌+◌, Bool, true, false, cond, List, [], ◌∷◌, map, take, slice_get, length, Some, refl, ap, sym, subst, ◌∙◌, arith}
use Rattle.std.specs.Prelude.{nat_eq, unwrap_or, OnErr, Result, Ok, Err}
use Rattle.std.specs.Cmp.Lexicographic.{pointwise}
use Rattle.std.specs.List.{AllByRecursion, IsDistinct}
use Rattle.std.proofs.lemmas.Bool.{false≢true}
use Rattle.std.proofs.lemmas.List.{take_all}
use Rattle.std.proofs.lemmas.Map.Keys.{IsDistinct-head, IsDistinct-tail}
use Rattle.std.proofs.lemmas.Slice.Eq.{bytes_eq-Decides}
use Rattle.local_zone.specs.CountsBelow.{count_under}
use Rattle.local_zone.specs.Index.{under}

pub if_err : {X E A B : Type 0} (r : Result X E) → (A → B) → OnErr r A → OnErr r B
if_err (Ok x) f h = h
if_err (Err e) f h = f h

swapped : (a b : List ℕ) → pointwise nat_eq a b ≡ pointwise nat_eq b a
swapped a b = by (pointwise nat_eq a b) refl (pointwise nat_eq b a) refl
  where
    by : (x : Bool) → pointwise nat_eq a b ≡ x → (y : Bool) → pointwise nat_eq b a ≡ y → x ≡ y
    by true e true f = refl
    by true e false f = absurd (false≢true (sym f ∙ (bytes_eq-Decides b a).1 (sym ((bytes_eq-Decides a b).0 e))))
    by false e true f = absurd (false≢true (sym e ∙ (bytes_eq-Decides a b).1 (sym ((bytes_eq-Decides b a).0 f))))
    by false e false f = refl

module _ {K : Type 0} (octets : K → List ℕ) where
  abbrev same_key : K → K → Bool
  same_key x y = pointwise nat_eq (octets x) (octets y)

  abbrev keys_in : List (K × ℕ) → List K
  keys_in es = map (λ e. e.0) es

  -- a key of the others is another one
  key_apart : (es : List (K × ℕ)) (i : ℕ) (k : K) (n : ℕ) (x : K) → AllByRecursion (λ y. same_key x y ≡ false) (keys_in es) → slice_get es i ≡ Some (k, n) → same_key x k ≡ false
  key_apart [] i k n x h at = absurd cc
  key_apart (e ∷ es) zero k n x h at = let is : e ≡ (k, n) = cc in subst (λ (p : K × ℕ). same_key x p.0 ≡ false) is h.0
  key_apart (e ∷ es) (suc i) k n x h at = key_apart es i k n x h.1 at

  count_first : (e : K × ℕ) (es : List (K × ℕ)) (other : List ℕ) → count_under octets other (e ∷ es) ≡ cond (pointwise nat_eq other (octets e.0)) e.1 (count_under octets other es)
  count_first e es other = by (pointwise nat_eq other (octets e.0))
    where
      by : (b : Bool) → unwrap_or (cond b (Some e.1) (under octets other es)) 0 ≡ cond b e.1 (count_under octets other es)
      by true = refl
      by false = refl

  pub none_yet : (es : List (K × ℕ)) (other : List ℕ) → count_under octets other (take 0 es) ≡ 0
  none_yet [] other = refl
  none_yet (e ∷ es) other = refl

  summed : (es : List (K × ℕ)) (i : ℕ) (k : K) (n : ℕ) (other : List ℕ) → IsDistinct same_key (keys_in es) → slice_get es i ≡ Some (k, n)
      → count_under octets other (take (suc i) es) ≡ count_under octets other (take i es) + cond (pointwise nat_eq (octets k) other) n 0
  summed [] i k n other h at = absurd cc
  summed (e ∷ es) zero k n other h at =
      let is : e ≡ (k, n) = cc in
      let key : pointwise nat_eq other (octets e.0) ≡ pointwise nat_eq (octets k) other = ap (λ (p : K × ℕ). pointwise nat_eq other (octets p.0)) is ∙ swapped other (octets k) in
      let number : e.1 ≡ n = ap (λ (p : K × ℕ). p.1) is in
      let here : count_under octets other (take (suc zero) (e ∷ es)) ≡ cond (pointwise nat_eq (octets k) other) n 0
      = count_first e (take 0 es) other ∙ (λ j. cond (key j) (number j) (none_yet es other j)) in
      omega (arith, here, none_yet (e ∷ es) other)
  summed (e ∷ es) (suc i) k n other h at =
      count_first e (take (suc i) es) other
      ∙ by (pointwise nat_eq other (octets e.0)) refl (summed es i k n other (IsDistinct-tail same_key e.0 (keys_in es) h) at)
      ∙ ap (λ m. m + cond (pointwise nat_eq (octets k) other) n 0) (sym (count_first e (take i es) other))
    where
      by : (b : Bool) → pointwise nat_eq other (octets e.0) ≡ b → count_under octets other (take (suc i) es) ≡ count_under octets other (take i es) + cond (pointwise nat_eq (octets k) other) n 0
          → cond b e.1 (count_under octets other (take (suc i) es)) ≡ cond b e.1 (count_under octets other (take i es)) + cond (pointwise nat_eq (octets k) other) n 0
      by true f rest =
          let apart : pointwise nat_eq (octets k) other ≡ false
          = ap (λ (s : List ℕ). pointwise nat_eq (octets k) s) ((bytes_eq-Decides other (octets e.0)).0 f) ∙ swapped (octets k) (octets e.0) ∙ key_apart es i k n e.0 (IsDistinct-head same_key e.0 (keys_in es) h) at in
          omega (arith, ap {B = ℕ} (λ c. cond c n 0) apart)
      by false f rest = rest

  -- the counts of one more key
  pub sum_step : (es : List (K × ℕ)) (i : ℕ) (k : K) (n : ℕ) (other : List ℕ) → IsDistinct same_key (keys_in es) → slice_get es i ≡ Some (k, n)
      → count_under octets other (take (i + 1) es) ≡ count_under octets other (take i es) + cond (pointwise nat_eq (octets k) other) n 0
  sum_step es i k n other h at =
      let next : suc i ≡ i + 1 = omega arith in
      subst (λ (m : ℕ). count_under octets other (take m es) ≡ count_under octets other (take i es) + cond (pointwise nat_eq (octets k) other) n 0) next (summed es i k n other h at)

  -- those of all
  pub sum_all : (es : List (K × ℕ)) (i : ℕ) (other : List ℕ) → i ≡ length es → count_under octets other (take i es) ≡ count_under octets other es
  sum_all es i other e = ap (count_under octets other) (take_all i es (omega (arith, e)))
