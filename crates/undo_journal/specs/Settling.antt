-- The first change of a ring goes to its end, or is settled.
use Rattle.std.specs.Prelude.{◌≡◌, ℕ, Bool, true, false, Option, List, [], ◌∷◌, ◌++◌}
use Rattle.circular_buffer.specs.Buffer.{Buffer, buffer}
use Rattle.change_law.specs.declared.kept.KeptChange.{KeptChange}
use Rattle.change_law.specs.declared.kept.Standing.{Standing}
use Rattle.change_law.specs.declared.kept.Standing.TheVariants.{Done, Cleared}
use Rattle.change_law.specs.Choice.{is_done}
use Rattle.change_law.specs.Face.{Face}
use Rattle.change_law.specs.Row.{IsRowAfter, kept_as, same_face}

-- A change that is in effect comes back at the end. Of another, once it is cleared, the world keeps no more, and each choice without it has the face that it had.
abbrev pub IsTurned : {W S T : Type 0} → (S → Option ℕ) → (W → List (KeptChange S) → Type 0) → (W → List (KeptChange S) → (ℕ → Bool) → Face T) →
    Bool → KeptChange S → W → List (KeptChange S) → W → List (KeptChange S) → Type 0
IsTurned table keeps face true first world rest after left = (left ≡ rest ++ first ∷ []) × (after ≡ world)
IsTurned {S = S} table keeps face false first world rest after left =
    (left ≡ rest) × ((earlier later : List (KeptChange S)) → keeps world (earlier ++ kept_as Cleared first.ticket first.saved ∷ later) →
    IsRowAfter table keeps face same_face (λ chosen. chosen first.ticket ≡ false)
    world (earlier ++ kept_as Cleared first.ticket first.saved ∷ later) after (earlier ++ later))

-- The first change of the ring is turned.
pub record TurnsFirst {W S T : Type 0} (table : S → Option ℕ) (keeps : W → List (KeptChange S) → Type 0) (face : W → List (KeptChange S) → (ℕ → Bool) → Face T)
    (world : W) (ring : Buffer (KeptChange S)) (after : W) (left : Buffer (KeptChange S)) : Type 0 where
  pub first : KeptChange S
  pub rest : List (KeptChange S)
  pub split : ring.items ≡ first ∷ rest
  pub turned : IsTurned table keeps face (is_done first.standing) first world rest after left.items
  pub capacity : left.capacity ≡ ring.capacity
