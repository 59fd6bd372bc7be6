-- Records as text, NAME [TTL] [IN] TYPE DATA (RFC 1035, section 5.1): the record that a text stands for, how it is read with its first
-- fault, and how a record is written.
use Rattle.std.specs.Prelude.{◌≡◌, ◌↔◌, ℕ, Bool, true, false, ◌||◌, ◌&&◌, List, [], ◌∷◌, ◌++◌, Option, Some, None, Result, Ok, ◌==◌, if◌then◌else◌, option_map, unwrap_or, decimal}
use Rattle.std.specs.Borrow.{Bor}
use Rattle.dns_name.specs.Text.{IsNameText, text_of}
use Rattle.dns_text.specs.declared.fault.TextFault.{TextFault}
use Rattle.dns_text.specs.declared.fault.TextFault.TheVariants.{BadName, BadTtl, BadType, BadData}
use Rattle.dns_text.specs.declared.record.Record.{Record}
use Rattle.dns_text.specs.declared.record_text.TheConstants.{DEFAULT_TTL}
use Rattle.dns_text.specs.declared.ttl.TheConstants.{MOST_TTL}
use Rattle.dns_name.specs.Results.{◌>>=◌, or_fault}
use Rattle.dns_text.specs.Number.{IsNumberText, is_digits, number_in}
use Rattle.dns_text.specs.Word.{BeginsWithWords, next_word}
use Rattle.dns_text.specs.Kind.{type_in, type_text}
use Rattle.dns_text.specs.Field.{named}
use Rattle.dns_text.specs.Data.{IsDataText, data_in, data_text}

-- ---- what a text stands for

-- whether a word is the class IN, without regard to case
abbrev pub is_class : List ℕ → Bool
is_class [] = false
is_class (a ∷ []) = false
is_class (a ∷ b ∷ []) = (a == 73 || a == 105) && (b == 78 || b == 110)
is_class (a ∷ b ∷ c ∷ word) = false

-- The words are [TTL] [IN] in either order. Either may be left out; without a TTL the TTL is an hour.
pub data AreTtlAndClass : List (List ℕ) → ℕ → Type 0 where
  neither : AreTtlAndClass [] DEFAULT_TTL
  ttl_alone : {word : List ℕ} {n : ℕ} → IsNumberText MOST_TTL word n → AreTtlAndClass (word ∷ []) n
  class_alone : {word : List ℕ} → is_class word ≡ true → AreTtlAndClass (word ∷ []) DEFAULT_TTL
  ttl_first : {first second : List ℕ} {n : ℕ} → IsNumberText MOST_TTL first n → is_class second ≡ true → AreTtlAndClass (first ∷ second ∷ []) n
  class_first : {first second : List ℕ} {n : ℕ} → is_class first ≡ true → IsNumberText MOST_TTL second n → AreTtlAndClass (first ∷ second ∷ []) n

-- The text stands for this record.
pub record IsRecordText (text : List ℕ) (r : Record) : Type 0 where
  pub name : List ℕ
  pub middle : List (List ℕ)
  pub type : List ℕ
  pub rest : List ℕ
  pub parts : BeginsWithWords text (name ∷ middle ++ type ∷ []) rest
  pub owner : IsNameText name r.owner
  pub ttl_and_class : AreTtlAndClass middle r.ttl
  pub kind : type_in type ≡ Some r.kind
  pub body : IsDataText r.kind rest r.body

-- ---- reading: the rest of a text is its first word and the text after that, if it has a word

-- a borrowed first word and the borrowed text after it, as lists of octets
abbrev pub first_now : Option (Bor (List ℕ) × Bor (List ℕ)) → Option (List ℕ × List ℕ)
first_now first = option_map (λ w. (w.0.now, w.1.now)) first

-- the TTL, if the first word is digits, and the first word after it
abbrev pub ttl_at : Option (List ℕ × List ℕ) → Result (Option ℕ × Option (List ℕ × List ℕ)) TextFault
ttl_at None = Ok (None, None)
ttl_at (Some first) = if is_digits first.0 then (or_fault BadTtl (number_in MOST_TTL first.0) >>= λ n. Ok (Some n, next_word first.1)) else Ok (None, Some first)

-- the first word after the class IN, if the first word is the class; else the first word
abbrev pub after_class : Option (List ℕ × List ℕ) → Option (List ℕ × List ℕ)
after_class None = None
after_class (Some first) = if is_class first.0 then next_word first.1 else Some first

-- the TTL before the class, or else the TTL after it, or else an hour
abbrev pub with_ttl : Option ℕ → Option (List ℕ × List ℕ) → Result (ℕ × Option (List ℕ × List ℕ)) TextFault
with_ttl (Some ttl) first = Ok (ttl, first)
with_ttl None first = ttl_at first >>= λ behind. Ok (unwrap_or behind.0 DEFAULT_TTL, behind.1)

-- [TTL] [IN] in either order: the TTL, and the first word after both
unfoldable pub ttl_and_class : Option (List ℕ × List ℕ) → Result (ℕ × Option (List ℕ × List ℕ)) TextFault
ttl_and_class first = ttl_at first >>= λ before. with_ttl before.0 (after_class before.1)

-- the record of a text, or its first fault from the left
unfoldable pub record_in : List ℕ → Result Record TextFault
record_in text = do
  first ← or_fault BadName (next_word text)
  owner ← or_fault BadName (named first.0)
  ttl ← ttl_and_class (next_word first.1)
  word ← or_fault BadType ttl.1
  kind ← or_fault BadType (type_in word.0)
  body ← or_fault BadData (data_in kind word.1)
  Ok (record { owner = owner; kind = kind; ttl = ttl.0; body = body })

-- A record is read from a text exactly if the text stands for it.
abbrev pub ReadsRecords : Type 0
ReadsRecords = (text : List ℕ) (r : Record) → (record_in text ≡ Ok r) ↔ IsRecordText text r

-- ---- writing

-- a record as text: NAME TTL TYPE DATA
abbrev pub record_text : Record → List ℕ
record_text r = text_of r.owner ++ 32 ∷ decimal r.ttl ++ 32 ∷ type_text r.kind ++ 32 ∷ data_text r.body
