-- Tables of bounded size, with a note under each key.
use Rattle.std.specs.Prelude.{◌≡◌, ◌≤◌, ◌⊎◌, ℕ, Bool, Some, None, slice_get, length}
use Rattle.indexmap.specs.IndexMap.{IndexMap, get, IsUnchanged, Updates}

-- The note under a key, if there is one, became what a function makes of it. Nothing else changed.
pub data Changes {K V S : Type 0} (eq : K → K → Bool) (change : V → V) (key : K) (old new : IndexMap K V S) : Type 0 where
  known : {note : V} → get eq old key ≡ Some note → Updates eq old new key (Some (change note)) → Changes eq change key old new
  unknown : get eq old key ≡ None → IsUnchanged old new → Changes eq change key old new

-- The note at a place matters no more.
pub record IsFree {K V S : Type 0} (eq : K → K → Bool) (until : V → ℕ) (now : ℕ) (kept : IndexMap K V S) (place : ℕ) : Type 0 where
  pub key : K
  pub note : V
  pub here : slice_get kept.entries place ≡ Some (key, note)
  pub held : get eq kept key ≡ Some note
  pub ended : until note ≤ now

-- Nothing changed; or the table was full, and one note that matters no more is gone.
pub data MakesRoom {K V S : Type 0} (eq : K → K → Bool) (until : V → ℕ) (most now : ℕ) (old new : IndexMap K V S) : Type 0 where
  same : IsUnchanged old new → MakesRoom eq until most now old new
  gone : {key : K} {note : V} → most ≤ length old.entries → get eq old key ≡ Some note → until note ≤ now → Updates eq old new key None
      → MakesRoom eq until most now old new

-- There is a note under one more key, or it is not remembered for want of room or memory.
pub record Adds {K V S : Type 0} (eq : K → K → Bool) (until : V → ℕ) (most now : ℕ) (key : K) (note : V) (old new : IndexMap K V S) : Type 0 where
  pub between : IndexMap K V S
  pub room : MakesRoom eq until most now old between
  pub adds : Updates eq between new key (Some note) ⊎ IsUnchanged between new

-- There is this note under a key from now on. Only a new one may be not remembered.
pub data Remembers {K V S : Type 0} (eq : K → K → Bool) (until : V → ℕ) (most now : ℕ) (key : K) (note : V) (old new : IndexMap K V S) : Type 0 where
  known : {last : V} → get eq old key ≡ Some last → Updates eq old new key (Some note) → Remembers eq until most now key note old new
  added : get eq old key ≡ None → Adds eq until most now key note old new → Remembers eq until most now key note old new
