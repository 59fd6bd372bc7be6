-- At or below, as a test and as a fact: lemmas for the crates above.
use Rattle.std.proofs.Common.{◌≡◌, Bool, true, false, [], ◌∷◌, ◌++◌, refl, sym, ap, inl, inr, ◌↔◌}
use Rattle.std.specs.Prelude.{IsTrue}
use Rattle.std.proofs.lemmas.Bool.{cases_Bool, or_cases, or_left, or_right, false≢true}
use Rattle.dns_name.specs.Labels.{Labels, IsAtOrBelow}
use Rattle.dns_name.specs.Order.{name_eq, name_eq_exact, name_eq_itself}
use Rattle.dns_name.specs.Below.{is_at_or_below}

-- a name is at or below itself
pub below_itself : (n : Labels) → is_at_or_below n n ≡ true
below_itself [] = name_eq_itself []
below_itself (l ∷ n) = or_left (name_eq (l ∷ n) (l ∷ n)) _ (name_eq_itself (l ∷ n))

below_front : (front n z : Labels) → n ≡ front ++ z → is_at_or_below n z ≡ true
below_front [] n z e = rw e (below_itself z)
below_front (l ∷ front) n z e = rw e (or_right (name_eq (l ∷ (front ++ z)) z) _ (below_front front (front ++ z) z refl))

-- the test finds each name that is at or below a zone
pub below_from_fact : (n z : Labels) → IsAtOrBelow n z → is_at_or_below n z ≡ true
below_from_fact n z h = below_front h.0 n z h.1

-- the test finds no other name
pub fact_from_below : (n z : Labels) → is_at_or_below n z ≡ true → IsAtOrBelow n z
fact_from_below [] z e = ([], name_eq_exact [] z e)
fact_from_below (l ∷ n) z e =
    elim (or_cases (name_eq (l ∷ n) z) (is_at_or_below n z) e) [
      | inl same ↦ ([], name_eq_exact (l ∷ n) z same)
      | inr below ↦ let more = fact_from_below n z below in (l ∷ more.0, ap (λ (x : Labels). l ∷ x) more.1)
    ]

-- the answer of a test of the fact
pub test_is : (answer : Bool) (n z : Labels) → (IsTrue answer ↔ IsAtOrBelow n z) → answer ≡ is_at_or_below n z
test_is true n z h = sym (below_from_fact n z (h.0 refl))
test_is false n z h =
    elim (cases_Bool (is_at_or_below n z)) [
      | inl below ↦ absurd (false≢true (h.1 (fact_from_below n z below)))
      | inr apart ↦ sym apart
    ]
