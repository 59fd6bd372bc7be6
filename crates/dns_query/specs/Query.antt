-- The query for a question (RFC 1034, section 5.3.3, step 3; RFC 1035, section 4.1).
use Rattle.std.specs.Prelude.{ℕ, false, List, [], ◌∷◌}
use Rattle.dns_name.specs.Labels.{Labels}
use Rattle.dns_text.specs.declared.record.Question.{Question}
use Rattle.dns_text.specs.declared.types.TheConstants as types
use Rattle.dns_wire.specs.declared.message.Head.{Head}
use Rattle.dns_wire.specs.declared.message.Message.{Message}
use Rattle.dns_wire.specs.Read.Message.{SpelledMessage}
use Rattle.dns_wire.specs.Write.Question.{in_class_in}

-- the head of a query: RD and all other bits are 0
abbrev pub query_head : ℕ → Head
query_head id = record { id = id; qr = false; opcode = 0; aa = false; tc = false; rd = false; ra = false; z = 0; rcode = 0 }

-- the query as a message: one question of class IN, and nothing else
abbrev pub query_message : ℕ → Question → Message
query_message id question = record {
  head = query_head id;
  questions = in_class_in question ∷ [];
  answer = [];
  authority = [];
  additional = [];
}

-- The octets are the query for a question, with this identifier.
abbrev pub IsQuery : List ℕ → ℕ → Question → Type 0
IsQuery octets id question = SpelledMessage octets (query_message id question)

-- the question for the CNAME record of a name
abbrev pub alias_question : Labels → Question
alias_question name = record { owner = name; kind = types.CNAME }

-- the question for the IPv4 addresses of a name
abbrev pub address_question : Labels → Question
address_question name = record { owner = name; kind = types.A }
