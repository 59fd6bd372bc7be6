-- IPv4 addresses as text: the address that a text stands for, how it is read, and how an address is written.
use Rattle.std.specs.Prelude.{◌≡◌, ◌≢◌, ◌⊎◌, ◌↔◌, ℕ, List, [], ◌∷◌, ◌++◌, Option, Some, slice_index, decimal}
use Rattle.std.specs.List.{join_with_byte}
use Rattle.dns_text.specs.declared.number.TheConstants.{MOST_8}
use Rattle.dns_text.specs.Number.{IsNumberText, short_number_in}
use Rattle.dns_text.specs.Word.{cut_at}
use Rattle.dns_name.specs.Options.{◌>>=◌}

-- ---- what a text stands for

-- The word is a number from 0 to 255 without leading zeros: the digit 0 (48) alone, or digits of which the first is not 0.
pub record IsOctetNumber (word : List ℕ) (n : ℕ) : Type 0 where
  pub number : IsNumberText MOST_8 word n
  pub short : (word ≡ 48 ∷ []) ⊎ (slice_index word 0 ≢ 48)

-- The text is four numbers joined by dots (46), the first octet first.
pub record IsIpv4Text (text octets : List ℕ) : Type 0 where
  pub one : List ℕ
  pub two : List ℕ
  pub three : List ℕ
  pub four : List ℕ
  pub first : ℕ
  pub second : ℕ
  pub third : ℕ
  pub fourth : ℕ
  pub joined : text ≡ join_with_byte 46 (one ∷ two ∷ three ∷ four ∷ [])
  pub value : octets ≡ first ∷ second ∷ third ∷ fourth ∷ []
  pub is_first : IsOctetNumber one first
  pub is_second : IsOctetNumber two second
  pub is_third : IsOctetNumber three third
  pub is_fourth : IsOctetNumber four fourth

-- ---- reading

-- the octet that a word stands for: 0 to 255, without leading zeros
abbrev pub octet_in : List ℕ → Option ℕ
octet_in word = short_number_in MOST_8 word

-- the IPv4 address that a text stands for
unfoldable pub ipv4_in : List ℕ → Option (List ℕ)
ipv4_in text = do
  a ← cut_at 46 text
  b ← cut_at 46 a.1
  c ← cut_at 46 b.1
  first ← octet_in a.0
  second ← octet_in b.0
  third ← octet_in c.0
  fourth ← octet_in c.1
  Some (first ∷ second ∷ third ∷ fourth ∷ [])

-- An IPv4 address is read from a text exactly if the text stands for it.
abbrev pub ReadsIpv4 : Type 0
ReadsIpv4 = (text octets : List ℕ) → (ipv4_in text ≡ Some octets) ↔ IsIpv4Text text octets

-- ---- writing

-- a number and the dot after it
abbrev pub dotted_text : ℕ → List ℕ
dotted_text n = decimal n ++ 46 ∷ []

-- an IPv4 address as text: four numbers joined by dots
abbrev pub ipv4_text : List ℕ → List ℕ
ipv4_text octets = dotted_text (slice_index octets 0) ++ dotted_text (slice_index octets 1) ++ dotted_text (slice_index octets 2) ++ decimal (slice_index octets 3)
