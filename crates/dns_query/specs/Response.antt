-- Responses to a query (RFC 1034, section 5.3.3, step 4; RFC 1035, sections 4.1.1 and 4.2.1).
use Rattle.std.specs.Prelude.{◌≡◌, ℕ, ◌⊎◌, true, false, List, [], ◌∷◌}
use Rattle.dns_text.specs.declared.record.Question.{Question}
use Rattle.dns_wire.specs.declared.message.Message.{Message}
use Rattle.dns_wire.specs.Read.Message.{SpelledMessage}
use Rattle.dns_wire.specs.WellFormed.{HasForms}
use Rattle.dns_wire.specs.Write.Question.{in_class_in}
use Rattle.dns_query.specs.declared.over.Over.{Over}
use Rattle.dns_query.specs.declared.over.Over.TheVariants.{Udp}

-- The message is a response with this identifier to this one question, of class IN.
pub record Meets (id : ℕ) (question : Question) (v : Message) : Type 0 where
  pub response : v.head.qr ≡ true
  pub standard : v.head.opcode ≡ 0
  pub same_id : v.head.id ≡ id
  pub same_question : v.questions ≡ in_class_in question ∷ []

-- The octets are such a response.
pub record IsResponse (id : ℕ) (question : Question) (octets : List ℕ) (v : Message) : Type 0 where
  pub spelled : SpelledMessage octets v
  pub meets : Meets id question v

-- The response was not truncated, and its RCODE is no error (0) or no such name (3).
pub record IsWhole (v : Message) : Type 0 where
  pub whole : v.head.tc ≡ false
  pub rcode : (v.head.rcode ≡ 0) ⊎ (v.head.rcode ≡ 3)

-- The response was truncated to fit a datagram, and is available whole over TCP.
pub record IsCut (over : Over) (v : Message) : Type 0 where
  pub cut : v.head.tc ≡ true
  pub udp : over ≡ Udp

-- The octets are this message and no other, and all its data has the form of its type.
pub record IsRead (octets : List ℕ) (v : Message) : Type 0 where
  pub spelled : SpelledMessage octets v
  pub forms : HasForms v
  pub only : (w : Message) → SpelledMessage octets w → w ≡ v
