-- The sequencing operator of steps that may find nothing, for every crate.
use Rattle.std.specs.Prelude.{Option, Some, None}

-- goes on with what a step found, if it found anything
infixl 10 ◌>>=◌
abbrev pub ◌>>=◌ : {A B : Type 0} → Option A → (A → Option B) → Option B
(Some x) >>= f = f x
None >>= f = None
