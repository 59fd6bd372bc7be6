-- Octets that are sought among names: equality, and what hashing them writes.
use Rattle.std.specs.Prelude.{◌≡◌, ℕ, Bool, IsTrue, List, [], ◌∷◌, nat_eq}
use Rattle.std.proofs.Common.{ap}
use Rattle.std.specs.Cmp.{IsEquivalence, IsPartialEquivalence, partial_equiv_from_equiv}
use Rattle.std.specs.Cmp.Lexicographic.{pointwise}
use Rattle.std.proofs.lemmas.Cmp.{on_equiv, nat_list_eq_equiv}
use Rattle.std.proofs.lemmas.Slice.Eq.{bytes_eq-Decides}

-- whether both are the same octets
abbrev pub spelled_eq : List ℕ → List ℕ → Bool
spelled_eq a b = pointwise nat_eq a b

-- that is an equivalence, by which things with octets may be compared
pub spelled_equiv : {S : Type 0} (octets : S → List ℕ) → IsEquivalence (λ a b. spelled_eq (octets a) (octets b))
spelled_equiv octets = on_equiv octets nat_list_eq_equiv

-- the same as `PartialEq` asks for it
pub spelled_per : {S : Type 0} (octets : S → List ℕ) → IsPartialEquivalence (λ a b. spelled_eq (octets a) (octets b))
spelled_per octets = partial_equiv_from_equiv (spelled_equiv octets)

-- what hashing writes: the octets at once
abbrev pub hash_of : List ℕ → List (List ℕ)
hash_of octets = octets ∷ []

-- the same octets are hashed alike
pub same_hash : (a b : List ℕ) → IsTrue (spelled_eq a b) → hash_of a ≡ hash_of b
same_hash a b same = ap hash_of ((bytes_eq-Decides a b).0 same)

-- the same octets are equal to the same others
pub same_test : (a b c : List ℕ) → IsTrue (spelled_eq a b) → spelled_eq a c ≡ spelled_eq b c
same_test a b c same = nat_list_eq_equiv.congr a b c same
