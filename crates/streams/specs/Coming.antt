-- The octets that have come into a buffer when a call returns.
use Rattle.std.specs.Prelude.{◌≤◌, ℕ, Option, List, MatchOption, length, take}
use Rattle.std.specs.Io.KnownBytes.{Consumes, IsAtEnd, Keeps}

-- So many octets have come into the buffer, or the input was at its end.
abbrev pub Fills : Option (List ℕ) → Option (List ℕ) → List ℕ → Option ℕ → Type 0
Fills old new room came = MatchOption came (Keeps old new × IsAtEnd new) (λ n. (n ≤ length room) × Consumes old new (take n room))
