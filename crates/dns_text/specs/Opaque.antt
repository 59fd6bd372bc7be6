-- Data of types without a form of their own (RFC 3597, section 5): the octets that a text stands for, how it is read, and how octets are written.
use Rattle.std.specs.Prelude.{◌≡◌, ℕ, List, [], ◌∷◌, ◌++◌, length, Option, Some, None, Result, Ok, Err, ◌==◌, if◌then◌else◌, codes, decimal}
use Rattle.std.specs.Str.{bytes_eq}
use Rattle.hex.specs.declared.error.FromHexError.{FromHexError}
use Rattle.hex.specs.Hex.{decode_of, encode_lower}
use Rattle.dns_text.specs.declared.number.TheConstants.{MOST_16}
use Rattle.dns_text.specs.Number.{IsNumberText}
use Rattle.dns_text.specs.Word.{AreWords, next_word, unless_more}
use Rattle.dns_text.specs.Field.{number_at}
use Rattle.dns_name.specs.Options.{◌>>=◌}

-- ---- what a text stands for

-- the octets that were decoded, if they were
abbrev pub ok_or_none : Result (List ℕ) FromHexError → Option (List ℕ)
ok_or_none (Ok octets) = Some octets
ok_or_none (Err fault) = None

-- the octets that pairs of hexadecimal digits stand for, in small letters or capitals
abbrev pub octets_of_hex : List ℕ → Option (List ℕ)
octets_of_hex digits = ok_or_none (decode_of digits)

-- The words are one word of hexadecimal digits, or none if there are no octets.
abbrev pub AreHexWords : List (List ℕ) → List ℕ → Type 0
AreHexWords [] octets = octets ≡ []
AreHexWords (digits ∷ []) octets = octets_of_hex digits ≡ Some octets
AreHexWords (digits ∷ more ∷ words) octets = ⊥

-- The text is the mark `\#`, the number of octets, and the octets as hexadecimal digits.
pub record IsOpaqueText (text octets : List ℕ) : Type 0 where
  pub count : List ℕ
  pub digits : List (List ℕ)
  pub parts : AreWords text (codes "\\#" ∷ count ∷ digits)
  pub number : IsNumberText MOST_16 count (length octets)
  pub hex : AreHexWords digits octets

-- ---- reading

-- the first word, if it is the only one; no octets of text if there is none
abbrev pub or_nothing : Option (List ℕ × List ℕ) → Option (List ℕ)
or_nothing None = Some []
or_nothing (Some first) = unless_more first.0 (next_word first.1)

-- the only word of a text, or no octets of text if it has none
abbrev pub word_or_nothing : List ℕ → Option (List ℕ)
word_or_nothing text = or_nothing (next_word text)

-- the text after the mark `\#`
abbrev pub behind_mark : List ℕ → List ℕ → Option (List ℕ)
behind_mark word rest = if bytes_eq word (codes "\\#") then Some rest else None

-- the octets, if there are as many as the count says
abbrev pub as_many_as : ℕ → List ℕ → Option (List ℕ)
as_many_as count octets = if length octets == count then Some octets else None

-- the octets of hexadecimal digits, if there are as many as the count says
abbrev pub counted_octets : ℕ → List ℕ → Option (List ℕ)
counted_octets count digits = octets_of_hex digits >>= as_many_as count

-- the octets that a text `\# N HEX` stands for
unfoldable pub octets_in : List ℕ → Option (List ℕ)
octets_in text = do
  mark ← next_word text
  rest ← behind_mark mark.0 mark.1
  count ← number_at MOST_16 rest
  digits ← word_or_nothing count.1
  counted_octets count.0 digits

-- ---- writing

-- a blank and the hexadecimal digits; nothing if there are no octets
abbrev pub hex_part : List ℕ → List ℕ
hex_part [] = []
hex_part (b ∷ octets) = 32 ∷ encode_lower (b ∷ octets)

-- octets as text: `\# N HEX`, or `\# 0`
abbrev pub opaque_text : List ℕ → List ℕ
opaque_text octets = codes "\\# " ++ decimal (length octets) ++ hex_part octets
