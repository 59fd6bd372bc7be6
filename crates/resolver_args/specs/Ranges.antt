-- Ranges of addresses that words write: `192.0.2.0/24`, an address and a number of bits (RFC 4632, section 3.1), or an address alone.
use Rattle.std.specs.Prelude.{ℕ, Option, Some, None, option_map}
use Rattle.clap.specs.Walk.{Text}
use Rattle.dns_name.specs.Options.{◌>>=◌}
use Rattle.system.specs.declared.range.AddressRange.{AddressRange}
use Rattle.dns_text.specs.Addr.{ip_in}
use Rattle.dns_text.specs.Number.{number_in}
use Rattle.dns_text.specs.Word.{cut_at}
use Rattle.dns_text.specs.declared.addr.Ip.{Ip}
use Rattle.dns_text.specs.declared.addr.Ip.TheVariants.{V4, V6}

-- the IP address of a text, if no `@` cuts it into these parts
abbrev pub ip_unless_cut : Text → Option (Text × Text) → Option Ip
ip_unless_cut text None = ip_in text
ip_unless_cut text (Some parts) = None

-- the IP address of a text that names no port
unfoldable pub ip_alone : Text → Option Ip
ip_alone text = ip_unless_cut text (cut_at 64 text)

-- the number of bits of an address
abbrev pub most_bits : Ip → ℕ
most_bits (V4 octets) = 32
most_bits (V6 octets) = 128

-- the range of an address alone
abbrev pub whole_range : Ip → AddressRange
whole_range ip = record { ip = ip; bits = most_bits ip }

-- the range of an address and a text for its bits, which are no more than the address has
abbrev pub range_from : Text → Ip → Option AddressRange
range_from text ip = option_map (λ bits. record { ip = ip; bits = bits }) (number_in (most_bits ip) text)

-- the range of a word, or of its parts around a slash
abbrev pub range_by_parts : Text → Option (Text × Text) → Option AddressRange
range_by_parts word None = option_map whole_range (ip_alone word)
range_by_parts word (Some parts) = ip_alone parts.0 >>= range_from parts.1

-- the range that a word writes
unfoldable pub range_in : Text → Option AddressRange
range_in word = range_by_parts word (cut_at 47 word)
