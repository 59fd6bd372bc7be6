-- Reads of lists after a change, and two choices.
use Rattle.std.proofs.Common.{◌≡◌, ℕ, zero, suc, ◌<◌, ◌≤◌, Option, Some, None, List, [], ◌∷◌, ◌++◌, length, take, get_or, refl, ap, arith, ◌⊎◌, inl, inr}
use Rattle.std.specs.Prelude.{slice_get, IfSome}
use Rattle.std.proofs.Math.ListN.{set, length-set}
use Rattle.std.proofs.lemmas.List.{get_or-set_same, get_or_past}

pub same_or : (a b : ℕ) → (a ≡ b) ⊎ (a ≡ b → ⊥)
same_or a b = grind arith

pub lt_or : (a b : ℕ) → (a < b) ⊎ (b ≤ a)
lt_or a b = grind arith

pub always_some : {A : Type 0} (P : A → Type 0) (o : Option A) → ((a : A) → P a) → IfSome o P
always_some P None all = tt
always_some P (Some a) all = all a

pub some_map : {A : Type 0} (P Q : A → Type 0) (o : Option A) → ((a : A) → P a → Q a) → IfSome o P → IfSome o Q
some_map P Q None step is = tt
some_map P Q (Some a) step is = step a is

pub get_take : {X : Type 0} (m : ℕ) (xs : List X) (j : ℕ) → j < m → slice_get (take m xs) j ≡ slice_get xs j
get_take zero xs j low = absurd (omega arith)
get_take (suc m) [] j low = refl
get_take (suc m) (x ∷ xs) zero low = refl
get_take (suc m) (x ∷ xs) (suc j) low = get_take m xs j (omega arith)

pub get_set_same : {X : Type 0} (xs : List X) (i : ℕ) (x : X) → i < length xs → slice_get (set xs i x) i ≡ Some x
get_set_same [] i x low = absurd (omega arith)
get_set_same (y ∷ xs) zero x low = refl
get_set_same (y ∷ xs) (suc i) x low = get_set_same xs i x (omega arith)

pub get_set_other : {X : Type 0} (xs : List X) (i j : ℕ) (x : X) → (j ≡ i → ⊥) → slice_get (set xs i x) j ≡ slice_get xs j
get_set_other [] i j x off = refl
get_set_other (y ∷ xs) zero zero x off = absurd (off refl)
get_set_other (y ∷ xs) zero (suc j) x off = refl
get_set_other (y ∷ xs) (suc i) zero x off = refl
get_set_other (y ∷ xs) (suc i) (suc j) x off = get_set_other xs i j x (λ e. off (ap suc e))

pub get_some : {X : Type 0} (xs : List X) (i : ℕ) (d : X) → i < length xs → slice_get xs i ≡ Some (get_or xs i d)
get_some [] i d low = absurd (omega arith)
get_some (x ∷ xs) zero d low = refl
get_some (x ∷ xs) (suc i) d low = get_some xs i d (omega arith)

pub append_zero : (xs : List ℕ) (i : ℕ) → get_or (xs ++ 0 ∷ []) i 0 ≡ get_or xs i 0
append_zero [] zero = refl
append_zero [] (suc i) = refl
append_zero (x ∷ xs) zero = refl
append_zero (x ∷ xs) (suc i) = append_zero xs i

pub set_zero : (xs : List ℕ) (i : ℕ) → get_or (set xs i 0) i 0 ≡ 0
set_zero xs i = elim (lt_or i (length xs)) [
  | inl low ↦ get_or-set_same xs i 0 0 low
  | inr high ↦ get_or_past (set xs i 0) i 0 (omega (arith, length-set xs i 0, high))
]
