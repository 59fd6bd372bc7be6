-- Addresses of servers as text: `ip@port`, or `ip` alone for port 53.
use Rattle.std.specs.Prelude.{◌≡◌, ℕ, true, not, List, ◌∷◌, ◌++◌, Option, Some, None, option_map, ◌==◌, decimal}
use Rattle.std.specs.List.{list_all}
use Rattle.dns_text.specs.declared.addr.Ip.{Ip}
use Rattle.dns_text.specs.declared.addr.Ip.TheVariants.{V4, V6}
use Rattle.dns_text.specs.declared.addr.Addr.{Addr}
use Rattle.dns_text.specs.declared.addr.TheConstants.{DEFAULT_PORT}
use Rattle.dns_text.specs.declared.number.TheConstants.{MOST_16}
use Rattle.dns_text.specs.Number.{number_in, unless_zero}
use Rattle.dns_text.specs.Word.{cut_at}
use Rattle.dns_text.specs.Ipv4.{ipv4_in, ipv4_text}
use Rattle.dns_text.specs.Ipv6.{ipv6_in, ipv6_text}
use Rattle.dns_name.specs.Options.{◌>>=◌}

-- the IPv4 address, if the word is one; else the IPv6 address that the word stands for
abbrev pub v4_or_v6 : List ℕ → Option (List ℕ) → Option Ip
v4_or_v6 word (Some octets) = Some (V4 octets)
v4_or_v6 word None = option_map V6 (ipv6_in word)

-- the IP address that a word stands for
abbrev pub ip_in : List ℕ → Option Ip
ip_in word = v4_or_v6 word (ipv4_in word)

-- the port that a word stands for: a number from 1 to 65535
abbrev pub port_in : List ℕ → Option ℕ
port_in word = number_in MOST_16 word >>= unless_zero

-- the IP address that a word stands for, with this port
abbrev pub addr_of : List ℕ → ℕ → Option Addr
addr_of word port = option_map (λ ip. record { ip = ip; port = port }) (ip_in word)

-- the address of a text, or of its two parts around the `@`
abbrev pub by_parts : List ℕ → Option (List ℕ × List ℕ) → Option Addr
by_parts text None = addr_of text DEFAULT_PORT
by_parts text (Some parts) = port_in parts.1 >>= addr_of parts.0

-- the address that a text stands for
unfoldable pub addr_in : List ℕ → Option Addr
addr_in text = by_parts text (cut_at 64 text)

-- an IP address as text
abbrev pub ip_text : Ip → List ℕ
ip_text (V4 octets) = ipv4_text octets
ip_text (V6 octets) = ipv6_text octets

-- `ip@port`
abbrev pub addr_text : Addr → List ℕ
addr_text addr = ip_text addr.ip ++ 64 ∷ decimal addr.port

-- An address is read back from its text, which has no @.
pub record IpReads (ip : Ip) : Type 0 where
  pub value : ip_in (ip_text ip) ≡ Some ip
  pub plain : list_all (λ c. not (c == 64)) (ip_text ip) ≡ true
