-- Messages as octets (RFC 1035, section 4.1).
use Rattle.std.specs.Prelude.{ℕ, ◌<◌, ◌⊎◌, List, ◌++◌, length, Option}
use Rattle.std.specs.List.{flat_map}
use Rattle.dns_name.specs.Labels.{Labels}
use Rattle.dns_wire.specs.declared.limits.TheConstants.{MOST_OCTETS, MOST_COUNT}
use Rattle.dns_wire.specs.declared.message.Message.{Message}
use Rattle.dns_wire.specs.Lent.{Records, records_of}
use Rattle.dns_wire.specs.Write.Header.{header_octets}
use Rattle.dns_wire.specs.Write.Question.{question_octets, first_name}
use Rattle.dns_wire.specs.Write.Record.{records_octets}

-- the records of the three sections of a message whose first question has this name, if it has a question
abbrev pub sections_octets : Option Labels → Records → List ℕ
sections_octets first records = records_octets first records.answer ++ records_octets first records.authority ++ records_octets first records.additional

-- a message with these octets of its questions
unfoldable pub octets_with : List ℕ → Message → List ℕ
octets_with questions v =
    header_octets v.head (length v.questions) (length v.answer) (length v.authority) (length v.additional) ++ questions ++ sections_octets (first_name v.questions) (records_of v)

-- a message as octets
abbrev pub message_octets : Message → List ℕ
message_octets v = octets_with (flat_map question_octets v.questions) v

-- The message has more than 65,535 octets or questions, or as many records in one section.
abbrev pub IsTooLong : Message → Type 0
IsTooLong v = (MOST_OCTETS < length (message_octets v)) ⊎ ((MOST_COUNT < length v.questions) ⊎ ((MOST_COUNT < length v.answer) ⊎ ((MOST_COUNT < length v.authority) ⊎ (MOST_COUNT < length v.additional))))
