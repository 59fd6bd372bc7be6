-- Replies from a query's header and question alone (RFC 1035, section 4.1.1; RFC 2181, section 9).
use Rattle.std.specs.Prelude.{ℕ, true, false, List, [], ◌∷◌}
use Rattle.dns_text.specs.declared.record.Question.{Question}
use Rattle.dns_wire.specs.declared.message.Head.{Head}
use Rattle.dns_wire.specs.declared.message.Message.{Message}
use Rattle.dns_wire.specs.declared.server.query.Query.{Query}
use Rattle.dns_wire.specs.Read.Header.{head_in}
use Rattle.dns_wire.specs.Write.Message.{octets_with}
use Rattle.dns_wire.specs.Write.Question.{in_class_in}

-- the head of an error reply: the query's identifier, opcode and RD bit, and this RCODE
abbrev pub fault_head : Head → ℕ → Head
fault_head query rcode = record { id = query.id; qr = true; opcode = query.opcode; aa = false; tc = false; rd = query.rd; ra = true; z = 0; rcode = rcode }

-- a message with a header alone
abbrev pub head_alone : Head → Message
head_alone head = record { head = head; questions = []; answer = []; authority = []; additional = [] }

-- the truncated form of a reply that is too long for UDP: its head with TC set, and the question
abbrev pub cut_reply : Head → Question → Message
cut_reply head question = record { head = record head { tc = true }; questions = in_class_in question ∷ []; answer = []; authority = []; additional = [] }

-- the truncated form of a reply to a query, from the reply's octets
abbrev pub cut_to : Query → List ℕ → Message
cut_to query reply = cut_reply (head_in reply) query.question

-- the octets of that form, which repeat those of the query's question
abbrev pub cut_octets : Query → List ℕ → List ℕ
cut_octets query reply = octets_with query.octets (cut_to query reply)
