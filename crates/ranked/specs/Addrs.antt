-- The addresses in the data of A and AAAA records (RFC 1035, section 3.4.1; RFC 3596, section 2.2).
use Rattle.std.specs.Prelude.{ℕ, List, [], ◌∷◌}
use Rattle.dns_text.specs.declared.addr.Addr.{Addr}
use Rattle.dns_text.specs.declared.addr.Ip.TheVariants.{V4, V6}
use Rattle.dns_text.specs.declared.record.Data.{Data}
use Rattle.dns_text.specs.declared.record.Data.TheVariants.{A, Aaaa}

-- the address in the data of an A or AAAA record, with this port; other data has none
abbrev pub addr_of : ℕ → Data → List Addr
addr_of port (A octets) = (record { ip = V4 octets; port = port }) ∷ []
addr_of port (Aaaa octets) = (record { ip = V6 octets; port = port }) ∷ []
addr_of port _ = []
