-- The results of encoding, and the law that written messages are read back.
use Rattle.std.specs.Prelude.{◌≡◌, ◌≤◌, ◌⊎◌, ℕ, List, [], ◌∷◌, length, Result, Err, IfErr}
use Rattle.dns_text.specs.declared.record.Question.{Question}
use Rattle.dns_wire.specs.declared.limits.TheConstants.{MOST_OCTETS}
use Rattle.dns_wire.specs.declared.message.Head.{Head}
use Rattle.dns_wire.specs.declared.message.Message.{Message}
use Rattle.dns_wire.specs.declared.server.query.Query.{Query}
use Rattle.dns_wire.specs.declared.write.encoding.EncodeFault.{EncodeFault}
use Rattle.dns_wire.specs.declared.write.encoding.EncodeFault.TheVariants.{TooLong, NoMemory}
use Rattle.dns_wire.specs.Lent.{Parts, lent_reply}
use Rattle.dns_wire.specs.Read.Message.{SpelledMessage}
use Rattle.dns_wire.specs.WellFormed.{IsWellFormed}
use Rattle.dns_wire.specs.Write.Question.{in_class_in, IsQuestionOctets}
use Rattle.dns_wire.specs.Write.Message.{message_octets, octets_with, IsTooLong}

-- The output is the octets of a message that fits (RFC 1035, section 4.1): at most 65,535 (section 4.2.2).
pub record Encodes (spelling : List ℕ) (message : Message) (out : List ℕ) : Type 0 where
  pub octets : out ≡ spelling
  pub spelled : SpelledMessage out message
  pub short : length out ≤ MOST_OCTETS
  pub fits : ¬ (IsTooLong message)

-- A message that is too long gives TooLong. Any other gives its octets, unless memory runs out.
pub record FailsFor {A : Type 0} (message : Message) (result : Result A EncodeFault) : Type 0 where
  pub too_long : IsTooLong message → result ≡ Err TooLong
  pub only : IfErr result (λ fault. (fault ≡ NoMemory) ⊎ IsTooLong message)

-- The output is the octets of a reply to a query. Its question is in the upper and lower case of the query's.
abbrev pub EncodesReply : Query → Message → List ℕ → Type 0
EncodesReply query reply out = Encodes (octets_with query.octets reply) reply out

-- The same of a reply with this head and lent sections.
abbrev pub EncodesLent : Query → Head → Parts → Parts → List ℕ → Type 0
EncodesLent query head answer authority out = EncodesReply query (lent_reply head query.question answer authority) out

-- The octets spell this message, and no other.
pub record SpellsOnly (octets : List ℕ) (v : Message) : Type 0 where
  pub stands : SpelledMessage octets v
  pub only : (w : Message) → SpelledMessage octets w → w ≡ v

-- The octets of a message spell that message and no other.
abbrev pub WrittenIsRead : Type 0
WrittenIsRead = (v : Message) → IsWellFormed v → ¬ (IsTooLong v) → SpellsOnly (message_octets v) v

-- So do the octets of a reply, which repeats the octets of the query's question.
abbrev pub RepliesAreRead : Type 0
RepliesAreRead = (q : Question) (octets : List ℕ) (v : Message) → IsQuestionOctets octets q → IsWellFormed v → v.questions ≡ in_class_in q ∷ []
    → ¬ (IsTooLong v) → SpellsOnly (octets_with octets v) v
