-- The sorts of a datagram, and the errors of taking one.
use Rattle.std.specs.Prelude.{◌≡◌, ◌≢◌, ◌<◌, ◌≤◌, ℕ, List, Option, Some, IfSome}
use Rattle.std.specs.IoError.{error_kind}
use Rattle.std.specs.declared.io.Error.{Error}
use Rattle.std.specs.declared.io.ErrorKind.TheVariants.{WouldBlock, Interrupted}
use Rattle.front.specs.Answerable.{IsAnswerable}
use Rattle.system.specs.declared.came.Came.{Came}
use Rattle.replies.specs.declared.limits.TheConstants.{MOST_DATAGRAM}
use Rattle.front.specs.declared.inbox.Arrival.{Arrival}
use Rattle.front.specs.declared.inbox.Arrival.TheVariants.{Passed, TooLong, Query}

-- Of the datagram at the front of a room: it cannot be answered, or there is none; or it is too long, from this peer; or it makes this client, which was taken before the desk knew of any later call than so many.
abbrev pub IsTakenFrom : {S : Type 0} → List ℕ → Option Came → ℕ → Arrival S → Type 0
IsTakenFrom room came since Passed = IfSome came (λ c. ¬ (IsAnswerable c.peer c.count))
IsTakenFrom room came since (TooLong peer) = (count : ℕ) × (MOST_DATAGRAM < count) × (came ≡ Some (record { peer = peer; count = count }))
IsTakenFrom room came since (Query client) = (client.room.value ≡ room) × (client.since ≡ since) × IsAnswerable client.came.peer client.came.count × (came ≡ Some client.came)

-- A datagram came that can be answered, and it was read whole.
abbrev pub IsQuery : Option Came → Type 0
IsQuery came = (c : Came) × (came ≡ Some c) × IsAnswerable c.peer c.count × (c.count ≤ MOST_DATAGRAM)

-- If the error says neither that the call would wait nor that a signal ended it, this fact holds.
abbrev pub OnFault : Type 0 → Error → Type 0
OnFault fact error = error_kind error ≢ WouldBlock → error_kind error ≢ Interrupted → fact
