use Rattle.std.proofs.Common.{take}
use Rattle.iterate.specs.Joining.{Joins}
use Rattle.iterate.proofs.joining.join_few.Given as goal

abbrev pub invariant-loop-addr : goal.invariant-loop-addr
invariant-loop-addr l = Joins l.fn.known.items (take l.addr-index l.others) l.addrs.items
