-- Reads of a connection.
use Rattle.std.specs.Prelude.{◌≡◌, ◌⊎◌, ◌≤◌, ℕ, Option, Some, None, Result, IfOk, List, MatchOption, length, take}
use Rattle.std.specs.Io.KnownBytes.{Consumes, IsAtEnd, Keeps}
use Rattle.plain_workers.specs.declared.spot.Spot.{Spot}
use Rattle.plain_workers.specs.declared.spot.Spot.TheVariants.{Beginning}

-- A read gave the connection's next octets at the front of the room. Or it gave none, since the connection is at its end, or the reader is to end it.
abbrev pub Reads : Option ℕ → Type 0 → Option (List ℕ) → Option (List ℕ) → List ℕ → Type 0
Reads (Some count) is_to_end left left' room = Consumes left left' (take count room)
Reads None is_to_end left left' room = is_to_end ⊎ IsAtEnd left

-- If a read of a connection did not fail, it went so. The reader is to end the connection if the stop flag is set where a message begins.
abbrev pub ReadsMessage : {S E : Type 0} → Result (Option ℕ) E → Spot → Type 0 → S → S → (S → Option (List ℕ)) → List ℕ → Type 0
ReadsMessage result spot stopped stream stream' left room = IfOk result (λ came. Reads came ((spot ≡ Beginning) × stopped) (left stream) (left stream') room)

-- Nothing is known of what a connection has. If a read did not fail, it gave octets at the front of the room, or the connection is at its end.
abbrev pub ReadsUnknown : {E : Type 0} → Result (Option ℕ) E → List ℕ → Type 0
ReadsUnknown result room =
    IfOk result (λ came. MatchOption came (Keeps None None × IsAtEnd None) (λ n. (n ≤ length room) × Consumes None None (take n room)))
