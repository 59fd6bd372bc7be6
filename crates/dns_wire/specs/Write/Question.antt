-- Questions as octets (RFC 1035, section 4.1.2).
use Rattle.std.specs.Prelude.{◌≡◌, ℕ, ◌-◌, ◌^◌, ◌<◌, List, [], ◌∷◌, ◌++◌, length, take, drop, map, Option, Some, None}
use Rattle.std.specs.Char.{to_ascii_lowercase}
use Rattle.dns_name.specs.Labels.{Labels}
use Rattle.dns_text.specs.declared.record.Question.{Question}
use Rattle.dns_wire.specs.declared.message.TheConstants.{CLASS_IN}
use Rattle.dns_wire.specs.declared.message.Classed.{Classed}
use Rattle.dns_wire.specs.Write.Number.{u16_octets}
use Rattle.dns_wire.specs.Write.Name.{name_octets}

-- a question: its name, type and class
abbrev pub question_octets : Classed Question → List ℕ
question_octets q = name_octets q.item.owner ++ u16_octets q.item.kind ++ u16_octets q.class

-- the name of the first question, if there is one
abbrev pub first_name : List (Classed Question) → Option Labels
first_name [] = None
first_name (q ∷ questions) = Some q.item.owner

-- a question or a record of class IN
abbrev pub in_class_in : {A : Type 0} → A → Classed A
in_class_in item = record { item = item; class = CLASS_IN }

-- The octets are those of a question of class IN with a whole name, in any upper and lower case.
pub record IsQuestionOctets (octets : List ℕ) (q : Question) : Type 0 where
  pub owner : map to_ascii_lowercase (take (length octets - 4) octets) ≡ name_octets q.owner
  pub fixed : drop (length octets - 4) octets ≡ u16_octets q.kind ++ u16_octets CLASS_IN
  pub kind : q.kind < 2 ^ 16
