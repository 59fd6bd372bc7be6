-- The octets that a call has written when it returns, and whether it counts as failed.
use Rattle.std.specs.Prelude.{◌≡◌, ◌<◌, ◌≤◌, ℕ, ◌+◌, Result, Ok, Err, Option, List, MatchOption, length, take}
use Rattle.std.specs.Io.KnownBytes.{Appends, Keeps}

-- The first n octets of the text were written, and n is at least one.
abbrev pub Takes : ℕ → Option (List ℕ) → Option (List ℕ) → List ℕ → Type 0
Takes n old new text = (0 < n) × (n ≤ length text) × Appends old new (take n text)

-- The first octets of the text were written, at least one, or nothing was.
abbrev pub TakesOrKeeps : Option (List ℕ) → Option (List ℕ) → List ℕ → Option ℕ → Type 0
TakesOrKeeps old new text taken = MatchOption taken (Keeps old new) (λ n. Takes n old new text)

-- The whole text was written; after a failure, a front of it.
abbrev pub Sent : {X E : Type 0} → Result X E → Option (List ℕ) → Option (List ℕ) → List ℕ → Type 0
Sent (Ok _) old new text = Appends old new text
Sent (Err _) old new text = (n : ℕ) × Appends old new (take n text)

-- One more call has failed if the result is an error, and none otherwise.
abbrev pub CountsFailure : {X E : Type 0} → Result X E → ℕ → ℕ → Type 0
CountsFailure (Ok _) old new = new ≡ old
CountsFailure (Err _) old new = new ≡ old + 1
