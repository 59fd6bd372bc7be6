use Rattle.std.proofs.Common.{◌≡◌, ◌+◌, ◌≤◌, length, take}
use Rattle.std.specs.Option.{option_copied}
use Rattle.dns_wire.specs.Lent.{part_at}
use Rattle.dns_wire.specs.Write.Record.{records_octets}
use Rattle.dns_wire.proofs.write.size.part_len.Given as goal

abbrev pub invariant-loop-place : goal.invariant-loop-place
invariant-loop-place g l = record {
  told : l.total ≡ l.before + length (records_octets (option_copied l.first) (take l.place (part_at (g.S.Section.parts l.section) l.part)));
  fits : l.total ≤ 65535;
}
