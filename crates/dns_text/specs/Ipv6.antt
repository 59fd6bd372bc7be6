-- IPv6 addresses as text (RFC 4291, section 2.2, without its third form, which ends as an IPv4 address): the address that a text
-- stands for, how it is read, and how an address is written.
use Rattle.std.specs.Prelude.{◌≡◌, ◌⊎◌, ◌↔◌, ℕ, ◌+◌, ◌-◌, ◌*◌, ◌/◌, ◌%◌, ◌<◌, ◌≤◌, Bool, ◌&&◌, List, [], ◌∷◌, ◌++◌, length, replicate, Option, Some, None, nat_lt, ◌==◌, if◌then◌else◌, option_map}
use Rattle.std.specs.List.{slice_split, join_with_byte}
use Rattle.std.specs.Char.{digit_value}
use Rattle.std.specs.Str.Parse.{IsNumeral, digits_value}
use Rattle.std.specs.Net.Text.{groups_text}
use Rattle.std.specs.Net.Addr.{segments_of, octets_of}
use Rattle.dns_name.specs.Text.{EachPair}
use Rattle.dns_text.specs.Word.{with_first}
use Rattle.dns_name.specs.Options.{◌>>=◌}

-- ---- what a text stands for

-- A group is written as one to four hexadecimal digits.
pub record IsGroupText (digits : List ℕ) (group : ℕ) : Type 0 where
  pub numeral : IsNumeral 16 digits
  pub few : length digits ≤ 4
  pub value : group ≡ digits_value 16 digits

-- Groups are written with a colon (58) between each two.
pub record AreGroups (text : List ℕ) (groups : List ℕ) : Type 0 where
  pub texts : List (List ℕ)
  pub joined : text ≡ join_with_byte 58 texts
  pub each : EachPair IsGroupText texts groups

-- The text is eight groups of 16 bits. In the octets, the high octet of each group is first.
pub record IsEightGroups (text octets : List ℕ) : Type 0 where
  pub groups : List ℕ
  pub written : AreGroups text groups
  pub eight : length groups ≡ 8
  pub value : octets ≡ octets_of groups

-- The text is some groups, `::`, and some groups, fewer than eight together. The gap stands for the groups of zero that
-- are missing.
pub record IsGapped (text octets : List ℕ) : Type 0 where
  pub front : List ℕ
  pub back : List ℕ
  pub before : List ℕ
  pub after : List ℕ
  pub parts : text ≡ front ++ 58 ∷ 58 ∷ back
  pub written_before : AreGroups front before
  pub written_after : AreGroups back after
  pub fewer : length before + length after < 8
  pub value : octets ≡ octets_of (before ++ replicate (8 - (length before + length after)) 0 ++ after)

-- The text stands for the address of these octets.
abbrev pub IsIpv6Text : List ℕ → List ℕ → Type 0
IsIpv6Text text octets = IsEightGroups text octets ⊎ IsGapped text octets

-- ---- reading

-- the value of a hexadecimal digit
abbrev pub hex_in : ℕ → Option ℕ
hex_in c = if nat_lt (digit_value c) 16 then Some (digit_value c) else None

-- the value of four hexadecimal digits
abbrev pub four_in : ℕ → ℕ → ℕ → ℕ → Option ℕ
four_in a b c d = do
  first ← hex_in a
  second ← hex_in b
  third ← hex_in c
  fourth ← hex_in d
  Some (((first * 16 + second) * 16 + third) * 16 + fourth)

-- one to four hexadecimal digits
unfoldable pub group_in : List ℕ → Option ℕ
group_in [] = None
group_in (d ∷ []) = four_in 48 48 48 d
group_in (c ∷ d ∷ []) = four_in 48 48 c d
group_in (b ∷ c ∷ d ∷ []) = four_in 48 b c d
group_in (a ∷ b ∷ c ∷ d ∷ []) = four_in a b c d
group_in (a ∷ b ∷ c ∷ d ∷ e ∷ word) = None

-- the octets with those of a group after them, if the address has room: it has sixteen octets
abbrev pub with_group : List ℕ → ℕ → Option (List ℕ)
with_group octets group = if nat_lt 14 (length octets) then None else Some (octets ++ (group / 256) ∷ (group % 256) ∷ [])

-- the octets with those of a group's word after them
abbrev pub with_word : List ℕ → List ℕ → Option (List ℕ)
with_word octets word = group_in word >>= with_group octets

-- the octets before, with those of each group's word after them
unfoldable pub octets_after : List ℕ → List (List ℕ) → Option (List ℕ)
octets_after before [] = Some before
octets_after before (word ∷ words) = with_word before word >>= λ octets. octets_after octets words

-- whether an octet of text is a colon
abbrev pub is_colon : ℕ → Bool
is_colon c = c == 58

-- The text is one group, without a colon.
abbrev pub IsOneGroup : List ℕ → Type 0
IsOneGroup text = slice_split is_colon text ≡ text ∷ []

-- The first group of the text is this word, and the other groups are those of the rest.
abbrev pub BeginsWithGroup : List ℕ → List ℕ → List ℕ → Type 0
BeginsWithGroup text word rest = slice_split is_colon text ≡ word ∷ slice_split is_colon rest

-- the octets of groups with a colon between each two, or of no group
unfoldable pub groups_in : List ℕ → Option (List ℕ)
groups_in [] = Some []
groups_in (c ∷ text) = octets_after [] (slice_split is_colon (c ∷ text))

-- the text before the first `::`, and the text after it
abbrev pub cut_at_gap : List ℕ → Option (List ℕ × List ℕ)
cut_at_gap [] = None
cut_at_gap (a ∷ []) = None
cut_at_gap (a ∷ b ∷ text) = if a == 58 && b == 58 then Some ([], text) else option_map (with_first a) (cut_at_gap (b ∷ text))

-- the text after a colon at its front
abbrev pub behind_colon : List ℕ → Option (List ℕ)
behind_colon [] = None
behind_colon (c ∷ text) = if c == 58 then Some text else None

-- the text after a `::` at its front
abbrev pub behind_gap : List ℕ → Option (List ℕ)
behind_gap [] = None
behind_gap (a ∷ []) = None
behind_gap (a ∷ b ∷ text) = if a == 58 && b == 58 then Some text else None

-- the octets of one group or more after those before, and the text after the first `::`, if the groups end at one
abbrev pub by_gap : List ℕ → List ℕ → Option (List ℕ × List ℕ) → Option (List ℕ × Option (List ℕ))
by_gap before text None = octets_after before (slice_split is_colon text) >>= λ octets. Some (octets, None)
by_gap before text (Some parts) = octets_after before (slice_split is_colon parts.0) >>= λ octets. Some (octets, Some parts.1)

-- the same, for a text whose first `::` is yet to be found
abbrev pub head_after : List ℕ → List ℕ → Option (List ℕ × Option (List ℕ))
head_after before text = by_gap before text (cut_at_gap text)

-- the octets of an address around `::`, which stands for one group of zero or more
abbrev pub with_zeros : List ℕ → List ℕ → Option (List ℕ)
with_zeros head tail = if nat_lt 14 (length head + length tail) then None else Some (head ++ replicate (16 - (length head + length tail)) 0 ++ tail)

-- sixteen octets, which are an address
abbrev pub whole_address : List ℕ → Option (List ℕ)
whole_address octets = if length octets == 16 then Some octets else None

-- the address of the groups before `::`, if the text has one, and of the groups after it
abbrev pub address_of : List ℕ → Option (List ℕ) → Option (List ℕ)
address_of head None = whole_address head
address_of head (Some back) = groups_in back >>= with_zeros head

-- the address of a text, from its two parts around the first `::`, if it has one
abbrev pub around_gap : List ℕ → Option (List ℕ × List ℕ) → Option (List ℕ)
around_gap text None = groups_in text >>= λ head. address_of head None
around_gap text (Some parts) = groups_in parts.0 >>= λ head. address_of head (Some parts.1)

-- the IPv6 address that a text stands for: eight groups, or fewer around `::`
unfoldable pub ipv6_in : List ℕ → Option (List ℕ)
ipv6_in text = around_gap text (cut_at_gap text)

-- An IPv6 address is read from a text exactly if the text stands for it.
abbrev pub ReadsIpv6 : Type 0
ReadsIpv6 = (text octets : List ℕ) → (ipv6_in text ≡ Some octets) ↔ IsIpv6Text text octets

-- ---- writing

-- an IPv6 address as text: eight groups, without `::`
abbrev pub ipv6_text : List ℕ → List ℕ
ipv6_text octets = groups_text (segments_of octets)
