-- The order of names by the ends of their last finds, and the places at or below a node.
use Rattle.std.proofs.Common.{◌≡◌, ℕ, zero, suc, ◌+◌, ◌*◌, ◌/◌, ◌<◌, ◌≤◌, [], ◌∷◌, reverse, refl, sym, ap, ◌∙◌, subst, arith, ◌⊎◌, inl, inr}
use Rattle.std.specs.Prelude.{IsTrue}
use Rattle.std.specs.Ordering.{is_le}
use Rattle.dns_name.specs.Labels.{Labels}
use Rattle.dns_name.specs.Order.{labels_cmp, IsNotAfter}
use Rattle.winner_tree.specs.Tree.{up, IsBelow}
use Rattle.ranked.specs.Oldest.{IsSooner}

-- ---- names

none_first : (l : Labels) → IsTrue (is_le (labels_cmp [] l))
none_first [] = refl
none_first (x ∷ l) = refl

-- the root is the first name
pub root_first : (a : Labels) → IsNotAfter [] a
root_first a = none_first (reverse a)

-- ---- seconds and names

pub sooner_same : (a b c d : ℕ) (k m n o : Labels) → a ≡ b → k ≡ m → c ≡ d → n ≡ o → IsSooner a k c n → IsSooner b m d o
sooner_same a b c d k m n o p q r s is =
    subst (λ x. IsSooner x m d o) p (subst (λ (x : Labels). IsSooner a x d o) q (subst (λ x. IsSooner a k x o) r (subst (λ (x : Labels). IsSooner a k c x) s is)))

-- ---- the places at or below a node

pub up_last : (k n : ℕ) → up (suc k) n ≡ up k n / 2
up_last zero n = refl
up_last (suc k) n = up_last k (n / 2)

pub up_low : (k n : ℕ) → up k n ≤ n
up_low zero n = omega arith
up_low (suc k) n = omega (arith, up_low k (n / 2))

halves : (x n : ℕ) → x / 2 ≡ n + 1 → (x ≡ (2 * n + 1) + 1) ⊎ (x ≡ (2 * n + 2) + 1)
halves x n is = grind arith

pub below_split : (node i : ℕ) → IsBelow node i → (i ≡ node) ⊎ (IsBelow (2 * node + 1) i ⊎ IsBelow (2 * node + 2) i)
below_split node i (zero, at) = inl (omega (arith, at))
below_split node i (suc k, at) = inr (elim (halves (up k (i + 1)) node (sym (up_last k (i + 1)) ∙ at)) [
  | inl left ↦ inl (k, left)
  | inr right ↦ inr (k, right)
])

pub below_low : (node i : ℕ) → IsBelow node i → node ≤ i
below_low node i (k, at) = omega (arith, at, up_low k (i + 1))

root_of : (fuel n : ℕ) → n < fuel → (k : ℕ) × (up k (n + 1) ≡ 1)
root_of zero n low = absurd (omega arith)
root_of (suc fuel) zero low = (0, refl)
root_of (suc fuel) (suc n) low =
    let next = root_of fuel (n / 2) (omega arith) in
    let half : (suc n + 1) / 2 ≡ n / 2 + 1 = omega arith in
    (suc next.0, ap (up next.0) half ∙ next.1)

pub below_root : (i : ℕ) → IsBelow 0 i
below_root i = root_of (suc i) i (omega arith)
