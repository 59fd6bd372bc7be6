-- Walks: lists whose elements change one after the other.
use Rattle.std.specs.Prelude.{◌≡◌, ℕ, zero, suc, Bool, true, Option, Some, None, List, [], ◌∷◌}

-- The first elements have changed as the relation allows, and the rest is as it was.
abbrev pub IsWalked : {X : Type 0} → (X → X → Type 0) → ℕ → List X → List X → Type 0
IsWalked P zero olds news = news ≡ olds
IsWalked P (suc i) [] news = news ≡ []
IsWalked P (suc i) (old ∷ olds) [] = ⊥
IsWalked P (suc i) (old ∷ olds) (new ∷ news) = P old new × IsWalked P i olds news

-- Each element has changed as the relation allows.
abbrev pub IsEach : {X : Type 0} → (X → X → Type 0) → List X → List X → Type 0
IsEach P [] [] = Unit {0}
IsEach P (old ∷ olds) (new ∷ news) = P old new × IsEach P olds news
IsEach P _ _ = ⊥

-- An entry keeps its key, and its value has changed as the relation allows.
abbrev pub IsEntry : {K V : Type 0} → (K → V → V → Type 0) → K × V → K × V → Type 0
IsEntry Q old new = (new.0 ≡ old.0) × Q old.0 old.1 new.1

-- The value that a test finds has changed as the relation allows.
abbrev pub IsFound : {K V : Type 0} → (K → Bool) → (K → V → V → Type 0) → Option V → Option V → Type 0
IsFound test Q None None = Unit {0}
IsFound {K} test Q (Some old) (Some new) = (key : K) × ((test key ≡ true) × Q key old new)
IsFound test Q _ _ = ⊥
