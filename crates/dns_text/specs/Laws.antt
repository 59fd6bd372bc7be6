-- The uniqueness of meaning that every relation between texts and values has.
use Rattle.std.specs.Prelude.{◌≡◌, ℕ, List}

-- A text stands for one value at most.
abbrev pub StandsForOne : {X : Type 0} → (List ℕ → X → Type 0) → Type 0
StandsForOne {X} R = (text : List ℕ) (x y : X) → R text x → R text y → x ≡ y
