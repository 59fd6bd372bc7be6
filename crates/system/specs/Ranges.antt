-- Ranges of IP addresses (RFC 4632, section 3.1): the addresses whose first bits are those of a given address.
use Rattle.std.specs.Prelude.{◌≡◌, ◌<◌, ◌≤◌, ◌+◌, ◌-◌, ◌/◌, ◌%◌, ◌^◌, ℕ, List, [], ◌∷◌, ◌++◌, slice_index, take}
use Rattle.dns_text.specs.declared.addr.Ip.{Ip}
use Rattle.dns_text.specs.declared.addr.Ip.TheVariants.{V4, V6}
use Rattle.system.specs.declared.range.AddressRange.{AddressRange}
use Rattle.system.specs.declared.range.TheConstants.{MAPPED_BITS}

-- the octets in an IPv4-mapped IPv6 address before its IPv4 address (RFC 4291, section 2.5.5.2)
abbrev pub mapped_front : List ℕ
mapped_front = 0 ∷ 0 ∷ 0 ∷ 0 ∷ 0 ∷ 0 ∷ 0 ∷ 0 ∷ 0 ∷ 0 ∷ 255 ∷ 255 ∷ []

-- the octets of an address as one of IPv6: an IPv4 address has those of its IPv4-mapped address
abbrev pub octets_of : Ip → List ℕ
octets_of (V4 octets) = mapped_front ++ octets
octets_of (V6 octets) = octets

-- how many first bits of an address a range fixes, if both are written as in IPv6
abbrev pub bits_in : Ip → ℕ → ℕ
bits_in (V4 octets) bits = MAPPED_BITS + bits
bits_in (V6 octets) bits = bits

-- a bit of octets: the first is the most significant one of the first octet, and behind the last octet each is 0
abbrev pub bit_at : List ℕ → ℕ → ℕ
bit_at octets place = slice_index octets (place / 8) / 2 ^ (7 - place % 8) % 2

-- So many first bits are the same.
abbrev pub Agree : ℕ → List ℕ → List ℕ → Type 0
Agree bits octets others = (place : ℕ) → place < bits → bit_at octets place ≡ bit_at others place

-- The octets are those of an IPv4 address: they are an IPv4-mapped address.
abbrev pub AreMapped : List ℕ → Type 0
AreMapped octets = take 12 octets ≡ mapped_front

-- The address lies in the range: both written as in IPv6, as many first bits are the same as the range says. An IPv4 address, mapped or not, lies in no range that has fewer bits than come before it in its mapped form.
pub record IsInRange (range : AddressRange) (ip : Ip) : Type 0 where
  pub agree : Agree (bits_in range.ip range.bits) (octets_of range.ip) (octets_of ip)
  pub family : AreMapped (octets_of ip) → MAPPED_BITS ≤ bits_in range.ip range.bits
