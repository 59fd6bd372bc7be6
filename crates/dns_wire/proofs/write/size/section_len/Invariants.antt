use Rattle.std.proofs.Common.{◌≡◌, ◌+◌, ◌≤◌, length, take}
use Rattle.std.specs.List.{flat_map}
use Rattle.std.specs.Option.{option_copied}
use Rattle.dns_wire.specs.Write.Record.{records_octets}
use Rattle.dns_wire.proofs.write.size.section_len.Given as goal

abbrev pub invariant-loop-part : goal.invariant-loop-part
invariant-loop-part g l = record {
  told : l.total ≡ l.before + length (flat_map (λ part. records_octets (option_copied l.first) part) (take l.part (g.S.Section.parts l.section)));
  fits : l.total ≤ 65535;
}
