-- RDATA as octets (RFC 1035, sections 3.3 and 3.4; RFC 3596, section 2.2; RFC 2782). Each name is whole.
use Rattle.std.specs.Prelude.{ℕ, List, ◌++◌}
use Rattle.std.specs.List.{flat_map}
use Rattle.dns_name.specs.Labels.{Labels, with_length}
use Rattle.dns_text.specs.declared.record.Data.{Data}
use Rattle.dns_text.specs.declared.record.Data.TheVariants.{A, Aaaa, One, Mx, Soa, Txt, Srv, Opaque}
use Rattle.dns_wire.specs.Write.Number.{u16_octets, u32_octets}
use Rattle.dns_wire.specs.Write.Name.{name_octets}

-- RDATA of an SOA record: primary server, mailbox, serial, refresh, retry, expire and minimum
abbrev pub soa_octets : Labels → Labels → ℕ → ℕ → ℕ → ℕ → ℕ → List ℕ
soa_octets primary mailbox serial refresh retry expire minimum =
    name_octets primary ++ name_octets mailbox ++ u32_octets serial ++ u32_octets refresh ++ u32_octets retry ++ u32_octets expire ++ u32_octets minimum

-- the same, its times as one: refresh, retry, expire and minimum
abbrev pub soa_octets_timed : Labels → Labels → ℕ → ℕ × ℕ × ℕ × ℕ → List ℕ
soa_octets_timed primary mailbox serial times = soa_octets primary mailbox serial times.0 times.1 times.2 times.3

-- RDATA of each form
unfoldable pub data_octets : Data → List ℕ
data_octets (A octets) = octets
data_octets (Aaaa octets) = octets
data_octets (One name) = name_octets name
data_octets (Mx preference exchange) = u16_octets preference ++ name_octets exchange
data_octets (Soa primary mailbox serial refresh retry expire minimum) = soa_octets primary mailbox serial refresh retry expire minimum
data_octets (Txt strings) = flat_map with_length strings
data_octets (Srv priority weight port target) = u16_octets priority ++ u16_octets weight ++ u16_octets port ++ name_octets target
data_octets (Opaque octets) = octets
