-- The request in the octets that a server received (RFC 1035, section 4.1).
use Rattle.std.specs.Prelude.{◌≡◌, ℕ, ◌+◌, ◌<◌, ◌≤◌, ◌⊎◌, true, false, List, length, take, drop}
use Rattle.dns_name.specs.Labels.{Labels}
use Rattle.dns_text.specs.declared.record.Question.{Question}
use Rattle.dns_text.specs.Kind.{is_excluded}
use Rattle.dns_wire.specs.declared.message.TheConstants.{CLASS_IN}
use Rattle.dns_wire.specs.declared.fault.WireFault.{WireFault}
use Rattle.dns_wire.specs.declared.limits.TheConstants.{HEADER_OCTETS}
use Rattle.dns_wire.specs.declared.message.Classed.{Classed}
use Rattle.dns_wire.specs.declared.message.Message.{Message}
use Rattle.dns_wire.specs.declared.read.place.Next.TheVariants.{Label, Pointer}
use Rattle.dns_wire.specs.declared.server.query.Asked.{Asked}
use Rattle.dns_wire.specs.declared.server.query.Asked.TheVariants.{Drop, Fault, Good}
use Rattle.dns_wire.specs.declared.server.query.Query.{Query}
use Rattle.dns_wire.specs.Read.Decoding.{IsUnspelled}
use Rattle.dns_wire.specs.Read.Header.{head_in, question_count}
use Rattle.dns_wire.specs.Read.Message.{SpelledMessage}
use Rattle.dns_wire.specs.Read.Number.{u16_at}
use Rattle.dns_wire.specs.Read.Place.{next_at}
use Rattle.dns_wire.specs.Read.Name.{SpelledName, UnspelledName}
use Rattle.dns_wire.specs.Read.Question.{QuestionAt}

-- The name at a place has a pointer.
pub data HasPointer (m : List ℕ) : ℕ → Type 0 where
  here : {at to : ℕ} → next_at m at ≡ Pointer to → HasPointer m at
  behind_label : {at n : ℕ} → next_at m at ≡ Label n → HasPointer m (at + 1 + n) → HasPointer m at

-- At a place of a message is a name without a pointer, and `after` is the place after it.
abbrev pub HasWholeName : List ℕ → ℕ → ℕ → Type 0
HasWholeName m at after = (labels : Labels) × SpelledName m at after labels × ¬ (HasPointer m at)

-- The octets from a place of a message on spell no name, or one with a pointer.
abbrev pub LacksWholeName : List ℕ → ℕ → Type 0
LacksWholeName m at = ((fault : WireFault) × UnspelledName m at fault) ⊎ HasPointer m at

-- The octets have a whole header, which is that of a standard query and not of a response.
pub record IsStandardQuery (m : List ℕ) : Type 0 where
  pub header : HEADER_OCTETS ≤ length m
  pub request : (head_in m).qr ≡ false
  pub standard : (head_in m).opcode ≡ 0

-- The question count is not 1, or the octets are no message, or the question's name has a pointer.
pub data IsMalformed (m : List ℕ) : Type 0 where
  other_count : ¬ (question_count m ≡ 1) → IsMalformed m
  no_message : IsUnspelled m → IsMalformed m
  pointer : HasPointer m HEADER_OCTETS → IsMalformed m

-- The octets are a message with this one question, whose name has no pointer. `after` is the place after the question.
pub record AsksQuestion (m : List ℕ) (q : Classed Question) (after : ℕ) : Type 0 where
  pub one : question_count m ≡ 1
  pub message : Message
  pub spelled : SpelledMessage m message
  pub question : QuestionAt m HEADER_OCTETS q after
  pub whole : ¬ (HasPointer m HEADER_OCTETS)

-- The same with the labels of the question's name and the place after them, for contracts inside the crate.
pub record AsksName (m : List ℕ) (labels : Labels) (at : ℕ) : Type 0 where
  pub one : question_count m ≡ 1
  pub message : Message
  pub spelled : SpelledMessage m message
  pub owner : SpelledName m HEADER_OCTETS at labels
  pub within : at + 4 ≤ length m
  pub whole : ¬ (HasPointer m HEADER_OCTETS)

-- The question is of class IN and of a type that records may have.
pub record IsAnswerable (q : Classed Question) : Type 0 where
  pub class : q.class ≡ CLASS_IN
  pub kind : is_excluded q.item.kind ≡ false

-- The query has the identifier, the RD bit and the question of the octets, and a copy of the question's octets.
pub record IsQueryOf (m : List ℕ) (q : Classed Question) (after : ℕ) (query : Query) : Type 0 where
  pub id : query.id ≡ (head_in m).id
  pub rd : query.rd ≡ (head_in m).rd
  pub question : query.question ≡ q.item
  pub octets : query.octets ≡ drop HEADER_OCTETS (take after m)

-- the question with this name, whose type and class begin at a place
abbrev pub question_with : List ℕ → Labels → ℕ → Classed Question
question_with m labels at = record { item = record { owner = labels; kind = u16_at m at }; class = u16_at m (at + 2) }

-- The query is that of the octets, and its question has this name.
abbrev pub IsQueryFrom : List ℕ → Labels → ℕ → Query → Type 0
IsQueryFrom m labels at query = IsQueryOf m (question_with m labels at) (at + 4) query

-- The octets ask for no reply, for a header alone with an RCODE (1, malformed; 4, not implemented), or for an answer.
pub data AsksFor (m : List ℕ) : Asked → Type 0 where
  no_header : length m < HEADER_OCTETS → AsksFor m Drop
  reply : HEADER_OCTETS ≤ length m → (head_in m).qr ≡ true → AsksFor m Drop
  other_opcode : HEADER_OCTETS ≤ length m → (head_in m).qr ≡ false → ¬ ((head_in m).opcode ≡ 0) → AsksFor m (Fault 4)
  malformed : IsStandardQuery m → IsMalformed m → AsksFor m (Fault 1)
  unanswerable : {q : Classed Question} {after : ℕ} → IsStandardQuery m → AsksQuestion m q after → ¬ (IsAnswerable q) → AsksFor m (Fault 4)
  good : {q : Classed Question} {after : ℕ} {query : Query} → IsStandardQuery m → AsksQuestion m q after → IsAnswerable q
      → IsQueryOf m q after query → AsksFor m (Good query)

-- The octets ask for an answer.
pub record IsGood (m : List ℕ) : Type 0 where
  pub query : IsStandardQuery m
  pub q : Classed Question
  pub after : ℕ
  pub question : AsksQuestion m q after
  pub answerable : IsAnswerable q

-- Both are no reply, or the same RCODE, or queries with the same fields.
abbrev pub SameAsked : Asked → Asked → Type 0
SameAsked Drop Drop = Unit {0}
SameAsked (Fault a) (Fault b) = a ≡ b
SameAsked (Good a) (Good b) = (a.id ≡ b.id) × (a.rd ≡ b.rd) × (a.question ≡ b.question) × (a.octets ≡ b.octets)
SameAsked _ _ = ⊥

-- Octets ask for one thing at most.
abbrev pub AskedOnce : Type 0
AskedOnce = (m : List ℕ) (a b : Asked) → AsksFor m a → AsksFor m b → SameAsked a b
