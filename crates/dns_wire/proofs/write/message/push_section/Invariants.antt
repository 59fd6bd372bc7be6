use Rattle.std.proofs.Common.{◌≡◌, ◌++◌, take}
use Rattle.std.specs.List.{flat_map, AllByRecursion}
use Rattle.std.specs.Option.{option_copied}
use Rattle.dns_wire.specs.WellFormed.{IsRecord}
use Rattle.dns_wire.specs.Write.Record.{records_octets}
use Rattle.dns_wire.proofs.write.message.push_section.Given as goal

abbrev pub invariant-loop-part : goal.invariant-loop-part
invariant-loop-part g l = record {
  told : l.out.items ≡ l.initial.out.items ++ flat_map (λ part. records_octets (option_copied l.first) part) (take l.part (g.S.Section.parts l.section));
  each : AllByRecursion (λ part. AllByRecursion IsRecord part) (take l.part (g.S.Section.parts l.section));
}
