-- Two worlds as one: the first has the tables, the second the cells. Each keeps its own part of the changes.
use Rattle.std.specs.Prelude.{ℕ, Bool, Option, List}
use Rattle.change_law.specs.declared.kept.KeptChange.{KeptChange}
use Rattle.change_law.specs.Face.{Face}
use Rattle.table_changes.specs.Part.{part}

-- the tables of one face, and the cells of another
abbrev pub joined : {T U : Type 0} → Face T → Face U → Face T
joined first second = record { tables = first.tables; cell = second.cell }

-- Each part keeps its changes.
abbrev pub KeepsParts : {X W V S A B : Type 0} → (X → W) → (X → V) → (S → Option A) → (S → Option B) →
    (W → List (KeptChange A) → Type 0) → (V → List (KeptChange B) → Type 0) → X → List (KeptChange S) → Type 0
KeepsParts first second mine theirs keeps others world kept = keeps (first world) (part mine kept) × others (second world) (part theirs kept)

-- the tables of the first part, and the cells of the second
abbrev pub face_of_parts : {X W V S A B T U : Type 0} → (X → W) → (X → V) → (S → Option A) → (S → Option B) →
    (W → List (KeptChange A) → (ℕ → Bool) → Face T) → (V → List (KeptChange B) → (ℕ → Bool) → Face U) → X → List (KeptChange S) → (ℕ → Bool) → Face T
face_of_parts first second mine theirs face faces world kept chosen =
    joined (face (first world) (part mine kept) chosen) (faces (second world) (part theirs kept) chosen)
