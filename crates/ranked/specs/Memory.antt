-- The octets of memory that the data of a find take.
use Rattle.std.specs.Prelude.{ℕ, ◌+◌, List, length, nat_lt, if◌then◌else◌}
use Rattle.std.specs.List.{sum_by}
use Rattle.dns_name.specs.Labels.{Labels, spelled, wire_len}
use Rattle.dns_text.specs.declared.record.Data.{Data}
use Rattle.dns_text.specs.declared.record.Data.TheVariants.{A, Aaaa, One, Mx, Soa, Txt, Srv, Opaque}
use Rattle.ranked.specs.declared.find.Body.{Body}
use Rattle.ranked.specs.declared.find.Body.TheVariants.{Set, NoData, NoName}
use Rattle.ranked.specs.declared.memory.TheConstants.{BLOCK_OCTETS, DATUM_OCTETS, LONG_NAME_OCTETS, MOST_INLINE}

-- what a name takes beside its own place: nothing, or a block if it is long
abbrev pub name_memory : Labels → ℕ
name_memory name = if nat_lt MOST_INLINE (wire_len name) then LONG_NAME_OCTETS else 0

-- what octets take in a block of their own
abbrev pub block_memory : List ℕ → ℕ
block_memory octets = BLOCK_OCTETS + length octets

-- what the parts of a datum take beside the datum itself
abbrev pub parts_memory : Data → ℕ
parts_memory (A octets) = 0
parts_memory (Aaaa octets) = 0
parts_memory (One name) = name_memory name
parts_memory (Mx preference exchange) = name_memory exchange
parts_memory (Soa primary mailbox serial refresh retry expire minimum) = name_memory primary + name_memory mailbox
parts_memory (Txt strings) = block_memory (spelled strings)
parts_memory (Srv priority weight port target) = name_memory target
parts_memory (Opaque octets) = block_memory octets

-- what a datum takes: its place in a list, and its parts
abbrev pub datum_memory : Data → ℕ
datum_memory datum = DATUM_OCTETS + parts_memory datum

-- what the body of a find takes: its data, or those of the SOA record
abbrev pub body_memory : Body → ℕ
body_memory (Set found) = sum_by datum_memory found
body_memory (NoData soa) = datum_memory soa.body
body_memory (NoName soa) = datum_memory soa.body
