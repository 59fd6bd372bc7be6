use Rattle.std.proofs.Common.{◌≡◌, length, take}
use Rattle.dns_wire.specs.Lent.{in_order}
use Rattle.dns_wire.proofs.write.header.count_of.Given as goal

abbrev pub invariant-loop-part : goal.invariant-loop-part
invariant-loop-part g l = record {
  told : l.count ≡ length (in_order (take l.part (g.S.Section.parts l.section)));
}
