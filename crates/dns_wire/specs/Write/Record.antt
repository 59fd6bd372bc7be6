-- Records as octets (RFC 1035, section 4.1.3).
use Rattle.std.specs.Prelude.{ℕ, List, ◌++◌, length, Option}
use Rattle.std.specs.List.{flat_map}
use Rattle.dns_name.specs.Labels.{Labels}
use Rattle.dns_text.specs.declared.record.Record.{Record}
use Rattle.dns_wire.specs.declared.message.Classed.{Classed}
use Rattle.dns_wire.specs.Lent.{Parts, in_order, part_at}
use Rattle.dns_wire.specs.Write.Number.{u16_octets, u32_octets}
use Rattle.dns_wire.specs.Write.Name.{owner_octets}
use Rattle.dns_wire.specs.Write.Rdata.{data_octets}

-- the fields between the owner and the data: type, class, TTL and the length of the data
abbrev pub fields_octets : ℕ → ℕ → ℕ → ℕ → List ℕ
fields_octets kind class ttl len = u16_octets kind ++ u16_octets class ++ u32_octets ttl ++ u16_octets len

-- the fields after the owner: type, class, TTL, the length of the data, and the data
abbrev pub behind_owner_octets : Classed Record → List ℕ
behind_owner_octets r =
    u16_octets r.item.kind ++ u16_octets r.class ++ u32_octets r.item.ttl ++ u16_octets (length (data_octets r.item.body)) ++ data_octets r.item.body

-- a record in a message whose first question has this name, if it has a question
abbrev pub record_octets : Option Labels → Classed Record → List ℕ
record_octets first r = owner_octets first r.item.owner ++ behind_owner_octets r

-- records one after another, in such a message
abbrev pub records_octets : Option Labels → List (Classed Record) → List ℕ
records_octets first records = flat_map (λ r. record_octets first r) records

-- the records of a part of a section, in such a message
abbrev pub part_octets : Option Labels → Parts → ℕ → List ℕ
part_octets first parts i = records_octets first (part_at parts i)

-- the records of a section, in such a message
abbrev pub section_octets : Option Labels → Parts → List ℕ
section_octets first parts = records_octets first (in_order parts)
