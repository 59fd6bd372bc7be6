-- Strings of TXT data as text (RFC 1035, section 5.1): the strings that a text stands for, how it is read, and how strings are written.
use Rattle.std.specs.Prelude.{◌≡◌, ◌≢◌, ◌⊎◌, ◌↔◌, ℕ, zero, suc, ◌+◌, ◌-◌, ◌/◌, ◌%◌, ◌<◌, ◌≤◌, ◌||◌, ◌&&◌, List, [], ◌∷◌, ◌++◌, length, Option, Some, None, nat_lt, ◌==◌, if◌then◌else◌, option_map, MatchOption}
use Rattle.std.specs.Borrow.{Bor}
use Rattle.std.specs.Char.{IsAsciiDigit, IsAsciiGraphic}
use Rattle.std.specs.List.{flat_map, concat, AllByRecursion}
use Rattle.dns_name.specs.Options.{◌>>=◌}
use Rattle.dns_name.specs.Reading.{escape_in}
use Rattle.dns_name.specs.Text.{decimal, EachPair}
use Rattle.dns_text.specs.declared.string.TheConstants.{MOST_STRING}
use Rattle.dns_text.specs.Word.{next_word, AreWords}

-- ---- what a text stands for

-- An octet of a string is written in one of three ways. An octet other than a quote (34) and a backslash (92) may be
-- written as itself. A printable octet other than a digit may be written after a backslash. Any octet may be written as
-- a backslash and the three digits of its number.
pub data IsStringOctet (text : List ℕ) (octet : ℕ) : Type 0 where
  itself : octet ≢ 34 → octet ≢ 92 → text ≡ octet ∷ [] → IsStringOctet text octet
  escaped : IsAsciiGraphic octet → ¬ IsAsciiDigit octet → text ≡ 92 ∷ octet ∷ [] → IsStringOctet text octet
  numbered : (x y z : ℕ) → IsAsciiDigit x → IsAsciiDigit y → IsAsciiDigit z → octet ≡ decimal x y z → octet < 256 → text ≡ 92 ∷ x ∷ y ∷ z ∷ [] → IsStringOctet text octet

-- A string is written octet by octet, with quotes around it or without, and has 255 octets at most.
pub record IsStringText (word : List ℕ) (octets : List ℕ) : Type 0 where
  pub inside : List ℕ
  pub pieces : List (List ℕ)
  pub quotes : (word ≡ inside) ⊎ (word ≡ 34 ∷ inside ++ 34 ∷ [])
  pub joined : inside ≡ concat pieces
  pub each : EachPair IsStringOctet pieces octets
  pub few : length octets ≤ MOST_STRING

-- Strings are written as words, so a blank in a string is in quotes or written as its number. There is one string at least.
pub record IsStringsText (text : List ℕ) (strings : List (List ℕ)) : Type 0 where
  pub words : List (List ℕ)
  pub parts : AreWords text words
  pub each : EachPair IsStringText words strings
  pub some : 0 < length strings

-- ---- reading

-- the octet at the front of a text, and how many octets of text it takes; none at a bare quote
abbrev pub octet_at : List ℕ → Option (ℕ × ℕ)
octet_at [] = None
octet_at (c ∷ text) = if c == 34 then None else if c == 92 then escape_in text else Some (c, 1)

-- the octets with one more, if the string has room: it has 255 octets at most
abbrev pub with_octet : List ℕ → ℕ → Option (List ℕ)
with_octet octets b = if nat_lt (length octets) MOST_STRING then Some (octets ++ b ∷ []) else None

-- the octets before, and those of the rest of a text; `skip` octets of its front belong to the octet before it
unfoldable pub octets_after : List ℕ → ℕ → List ℕ → Option (List ℕ)
octets_after before skip [] = Some before
octets_after before (suc skip) (c ∷ text) = octets_after before skip text
octets_after before zero (c ∷ text) = do
  octet ← octet_at (c ∷ text)
  more ← with_octet before octet.0
  octets_after more (octet.1 - 1) text

-- The text, after the octets before, is not that of a string.
abbrev pub IsNoString : List ℕ → List ℕ → Type 0
IsNoString before text = octets_after before 0 text ≡ None

-- Reading moved on by one octet of a string: the rest of the text gives the same string, and is shorter.
abbrev pub ReadsOn : List ℕ → List ℕ → List ℕ → List ℕ → Type 0
ReadsOn before text after rest = (octets_after before 0 text ≡ octets_after after 0 rest) × (length rest < length text)

-- Reading moved on so, with these octets after it, or the text is not that of a string.
abbrev pub TakesOctet : List ℕ → List ℕ → List ℕ → Option (Bor (List ℕ)) → Type 0
TakesOctet before text after found = MatchOption found (IsNoString before text) (λ rest. ReadsOn before text after rest.now)

-- the text before the quote at its end
abbrev pub before_last_quote : List ℕ → Option (List ℕ)
before_last_quote [] = None
before_last_quote (c ∷ []) = if c == 34 then Some [] else None
before_last_quote (c ∷ d ∷ text) = option_map (λ front. c ∷ front) (before_last_quote (d ∷ text))

-- the text inside the quotes of a word, or the word itself if it does not begin with a quote
abbrev pub inside_quotes : List ℕ → Option (List ℕ)
inside_quotes [] = Some []
inside_quotes (c ∷ word) = if c == 34 then before_last_quote word else Some (c ∷ word)

-- the string that a word stands for
unfoldable pub string_in : List ℕ → Option (List ℕ)
string_in word = inside_quotes word >>= octets_after [] 0

-- the strings before and that of the first word, then those of the text after it; or the strings before at the end
abbrev pub then_string : List (List ℕ) → (List (List ℕ) → List ℕ → Option (List (List ℕ))) → Option (List ℕ × List ℕ) → Option (List (List ℕ))
then_string before go None = Some before
then_string before go (Some first) = string_in first.0 >>= λ octets. go (before ++ octets ∷ []) first.1

-- the strings before, and those of a text that has `more` words at most
unfoldable pub strings_after : List (List ℕ) → ℕ → List ℕ → Option (List (List ℕ))
strings_after before zero text = Some before
strings_after before (suc more) text = then_string before (λ strings rest. strings_after strings more rest) (next_word text)

-- the strings, if there is one at least
abbrev pub some_strings : List (List ℕ) → Option (List (List ℕ))
some_strings [] = None
some_strings (octets ∷ strings) = Some (octets ∷ strings)

-- the strings that a text stands for, one or more
unfoldable pub strings_in : List ℕ → Option (List (List ℕ))
strings_in text = strings_after [] (length text) text >>= some_strings

-- Strings are read from a text exactly if the text stands for them.
abbrev pub ReadsStrings : Type 0
ReadsStrings = (text : List ℕ) (strings : List (List ℕ)) → (strings_in text ≡ Some strings) ↔ IsStringsText text strings

-- ---- writing

-- an octet of a string in quotes as text: itself, after a backslash, or as its number
abbrev pub quoted_octet : ℕ → List ℕ
quoted_octet b =
    if b == 34 || b == 92 then 92 ∷ b ∷ [] else if nat_lt 31 b && nat_lt b 127 then b ∷ [] else
    92 ∷ (b / 100 + 48) ∷ (b / 10 % 10 + 48) ∷ (b % 10 + 48) ∷ []

-- a string as text, in quotes
abbrev pub quoted_text : List ℕ → List ℕ
quoted_text octets = 34 ∷ flat_map quoted_octet octets ++ 34 ∷ []

-- strings as text, with a blank between each two
abbrev pub strings_text : List (List ℕ) → List ℕ
strings_text [] = []
strings_text (octets ∷ strings) = quoted_text octets ++ flat_map (λ s. 32 ∷ quoted_text s) strings

-- Each number of the list is an octet.
abbrev pub AreOctets : List ℕ → Type 0
AreOctets octets = AllByRecursion (λ b. b < 256) octets
