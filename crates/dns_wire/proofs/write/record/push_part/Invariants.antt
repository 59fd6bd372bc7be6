use Rattle.std.proofs.Common.{◌≡◌, ◌++◌, take}
use Rattle.std.specs.List.{AllByRecursion}
use Rattle.std.specs.Option.{option_copied}
use Rattle.dns_wire.specs.Lent.{part_at}
use Rattle.dns_wire.specs.WellFormed.{IsRecord}
use Rattle.dns_wire.specs.Write.Record.{records_octets}
use Rattle.dns_wire.proofs.write.record.push_part.Given as goal

abbrev pub invariant-loop-place : goal.invariant-loop-place
invariant-loop-place g l = record {
  told : l.out.items ≡ l.initial.out.items ++ records_octets (option_copied l.first) (take l.place (part_at (g.S.Section.parts l.section) l.part));
  each : AllByRecursion IsRecord (take l.place (part_at (g.S.Section.parts l.section) l.part));
}
