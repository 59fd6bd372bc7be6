use Rattle.std.proofs.Common.{◌≡◌, map, take}
use Rattle.dns_wire.specs.Lent.{in_order}
use Rattle.replies.specs.Lending.{records_written}
use Rattle.replies.specs.Sizing.{capped, records_size}
use Rattle.replies.proofs.sizing.aliases_size.Given as goal

abbrev pub invariant-loop-set : goal.invariant-loop-set
invariant-loop-set l = l.total ≡ capped (records_size l.first (in_order (map records_written (take l.set-index l.aliases))))
