-- The sizes of messages in octets, for contracts inside the crate.
use Rattle.std.specs.Prelude.{ℕ, ◌+◌, ◌<◌, ◌≤◌, List, length, Option, Some, None, MatchOption, nat_lt, if◌then◌else◌}
use Rattle.dns_name.specs.Labels.{Labels}
use Rattle.dns_wire.specs.declared.limits.TheConstants.{MOST_OCTETS}
use Rattle.dns_wire.specs.declared.message.Head.{Head}
use Rattle.dns_wire.specs.declared.message.Message.{Message}
use Rattle.dns_wire.specs.declared.server.query.Query.{Query}
use Rattle.dns_wire.specs.Lent.{Records, reply_of}
use Rattle.dns_wire.specs.Write.Message.{octets_with, IsTooLong}
use Rattle.dns_wire.specs.Write.Record.{records_octets}

-- a number of octets, if a message may have as many
abbrev pub within : ℕ → Option ℕ
within n = if nat_lt MOST_OCTETS n then None else Some n

-- the number of octets of the records of a message whose first question has this name, if it has a question
abbrev pub records_len : Option Labels → Records → ℕ
records_len first records =
    length (records_octets first records.answer) + length (records_octets first records.authority) + length (records_octets first records.additional)

-- There is room for these octets, or no room because a message may not have as many.
abbrev pub IsRoom : ℕ → Option ℕ → Type 0
IsRoom octets None = MOST_OCTETS < octets
IsRoom octets (Some room) = (octets ≤ room) × (room ≤ MOST_OCTETS)

-- There is room for the octets of a message, or it is too long.
abbrev pub IsRoomFor : Message → List ℕ → Option ℕ → Type 0
IsRoomFor message octets result = MatchOption result (IsTooLong message) (λ room. (length octets ≤ room) × ¬ (IsTooLong message))

-- There is room for a reply to a query with these records, whatever its head, or it is too long.
abbrev pub IsRoomForReply : Query → Records → Option ℕ → Type 0
IsRoomForReply query records result =
    (head : Head) → IsRoomFor (reply_of head query.question records) (octets_with query.octets (reply_of head query.question records)) result
