-- The number of octets of a reply before it is written, and of RDATA.
use Rattle.std.specs.Prelude.{◌<◌, ◌+◌, ◌-◌, ◌^◌, ℕ, min, List, length, Some}
use Rattle.std.specs.List.{sum_by}
use Rattle.dns_name.specs.Labels.{Labels}
use Rattle.dns_text.specs.declared.record.Data.{Data}
use Rattle.dns_wire.specs.declared.message.Classed.{Classed}
use Rattle.dns_wire.specs.declared.message.Head.{Head}
use Rattle.dns_wire.specs.declared.server.query.Query.{Query}
use Rattle.dns_text.specs.declared.record.Record.{Record}
use Rattle.dns_wire.specs.Lent.{Parts, lent_reply}
use Rattle.dns_wire.specs.Write.Message.{octets_with, IsTooLong}
use Rattle.dns_wire.specs.Write.Rdata.{data_octets}
use Rattle.dns_wire.specs.Write.Record.{records_octets}
use Rattle.dns_query.specs.declared.over.Over.TheVariants.{Udp}
use Rattle.replies.specs.declared.limits.TheConstants.{MOST_UDP_REPLY}
use Rattle.replies.specs.Reply.{Written}

-- a count that stays at its last value
abbrev pub capped : ℕ → ℕ
capped n = min n (2 ^ 64 - 1)

-- how many octets the records of these data take, if each owner takes so many: type, class, TTL and length take ten
abbrev pub bodies_size : ℕ → List Data → ℕ
bodies_size owner bodies = sum_by (λ body. owner + 10 + length (data_octets body)) bodies

-- how many octets records take in a reply to a question with this name
abbrev pub records_size : Labels → List (Classed Record) → ℕ
records_size first records = length (records_octets (Some first) records)

-- A reply to the query with these records, whatever its head, is too long for UDP, but no message of its length is too long.
abbrev pub MustBeCut : Query → Parts → Parts → Type 0
MustBeCut query answer authority = (head : Head) →
    (MOST_UDP_REPLY < length (octets_with query.octets (lent_reply head query.question answer authority)))
    × ¬ (IsTooLong (lent_reply head query.question answer authority))

-- These octets are what goes out over UDP in place of each reply to the query with this head that must be cut.
abbrev pub IsCutReply : Query → Head → List ℕ → Type 0
IsCutReply query head out = (m : List ℕ) (answer authority : Parts) → MustBeCut query answer authority
    → Written Udp m query (lent_reply head query.question answer authority) out
