-- The reply of an answer, as octets (RFC 1035, section 4.1).
use Rattle.std.specs.Prelude.{◌≡◌, ◌<◌, ◌≤◌, ℕ, Bool, true, false, Option, Some, None, List, Vec, length}
use Rattle.dns_query.specs.declared.over.Over.{Over}
use Rattle.dns_query.specs.declared.over.Over.TheVariants.{Udp, Tcp}
use Rattle.dns_wire.specs.declared.message.Head.{Head}
use Rattle.dns_wire.specs.declared.message.Message.{Message}
use Rattle.dns_wire.specs.declared.server.query.Query.{Query}
use Rattle.dns_wire.specs.Lent.{lent_reply, Parts}
use Rattle.dns_wire.specs.Read.Header.{head_in}
use Rattle.dns_wire.specs.Server.Replying.{fault_head, cut_to}
use Rattle.dns_wire.specs.Write.Header.{header_octets}
use Rattle.dns_wire.specs.Write.Message.{octets_with, IsTooLong}
use Rattle.iterate.specs.declared.answer.Answer.{Answer}
use Rattle.iterate.specs.declared.answer.Answer.TheVariants.{Reply as Replies, Silent}
use Rattle.iterate.specs.declared.answer.Soa.{Soa}
use Rattle.iterate.specs.declared.answer.AnswerSet.{AnswerSet}
use Rattle.replies.specs.declared.limits.TheConstants.{MOST_MESSAGE, MOST_UDP_REPLY}
use Rattle.replies.specs.Lending.{answer_parts, authority_parts}

-- the most octets that a reply may have (RFC 1035, section 4.2)
abbrev pub most_octets : Over → ℕ
most_octets Udp = MOST_UDP_REPLY
most_octets Tcp = MOST_MESSAGE

-- the reply to a faulty query: a header with the RCODE, alone
abbrev pub fault_octets : List ℕ → ℕ → List ℕ
fault_octets m rcode = header_octets (fault_head (head_in m) rcode) 0 0 0 0

-- the head of a reply: RD is copied, RA is set, Z is 0
abbrev pub head_told : Query → ℕ → Bool → Head
head_told query rcode aa = record { id = query.id; qr = true; opcode = 0; aa = aa; tc = false; rd = query.rd; ra = true; z = 0; rcode = rcode }

-- the reply of an answer
abbrev pub reply_told : Query → ℕ → Bool → List AnswerSet → Option AnswerSet → Option Soa → Message
reply_told query rcode aa aliases last authority = lent_reply (head_told query rcode aa) query.question (answer_parts aliases last) (authority_parts authority)

-- Over UDP a reply of more than 512 octets is cut to its header, with TC set, and the question (RFC 2181, section 9).
abbrev pub IsSent : Over → Query → List ℕ → List ℕ → Type 0
IsSent Tcp query octets out = out ≡ octets
IsSent Udp query octets out = (length octets ≤ MOST_UDP_REPLY → out ≡ octets) × (MOST_UDP_REPLY < length octets → out ≡ octets_with query.octets (cut_to query octets))

-- The octets that go out for a reply to a query: those of the reply, or, if they are too many for any message, SERVFAIL (2) in a header alone.
pub data Written (over : Over) (m : List ℕ) (query : Query) (reply : Message) (out : List ℕ) : Type 0 where
  whole : ¬ (IsTooLong reply) → IsSent over query (octets_with query.octets reply) out → Written over m query reply out
  too_long : IsTooLong reply → out ≡ fault_octets m 2 → Written over m query reply out

-- These octets go out for the reply to a query with this head and these sections.
abbrev pub WritesReply : {A : Type 0} → Over → List ℕ → Query → Head → Parts → Parts → Vec ℕ A → Type 0
WritesReply over m query head answer authority out = Written over m query (lent_reply head query.question answer authority) out.items

-- The reply that an answer gives to a query: these octets, or none if the answer is silence.
abbrev pub Tells : Over → List ℕ → Query → Answer → Option (List ℕ) → Type 0
Tells over m query (Replies rcode aa aliases last authority) (Some out) = Written over m query (reply_told query rcode aa aliases last authority) out
Tells over m query Silent None = Unit {0}
Tells over m query _ _ = ⊥
