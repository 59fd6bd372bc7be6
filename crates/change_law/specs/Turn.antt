-- What a world would show, if one of its changes were undone, or redone.
use Rattle.std.specs.Prelude.{ℕ, Bool, Option, List, ◌∷◌, ◌++◌}
use Rattle.change_law.specs.declared.kept.KeptChange.{KeptChange}
use Rattle.change_law.specs.declared.kept.Standing.{Standing}
use Rattle.change_law.specs.Choice.{IsPresent, turned}
use Rattle.change_law.specs.Face.{Face}
use Rattle.change_law.specs.Row.{CanTurn, IsTurnable, kept_as}

-- Among the changes that the world keeps, this one can be undone, or it can be redone.
abbrev pub CanTurnOver : {W S : Type 0} → (S → Option ℕ) → (W → List (KeptChange S) → Type 0) → W → S → Type 0
CanTurnOver table keeps world saved = (from : Standing) × CanTurn table keeps from world saved

-- The face of the choice in which the change alone stands the other way has a property. All other changes stand as they do.
abbrev pub HoldsOver : {W S T : Type 0} → (S → Option ℕ) → (W → List (KeptChange S) → Type 0) → (W → List (KeptChange S) → (ℕ → Bool) → Face T) → W → S → (Face T → Type 0) → Type 0
HoldsOver {S = S} table keeps face world saved P =
    (from : Standing) (earlier : List (KeptChange S)) (ticket : ℕ) (later : List (KeptChange S)) → IsTurnable table keeps from world earlier ticket saved later →
    (chosen : ℕ → Bool) → IsPresent (earlier ++ kept_as (turned from) ticket saved ∷ later) chosen → P (face world (earlier ++ kept_as from ticket saved ∷ later) chosen)
