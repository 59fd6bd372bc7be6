use Rattle.std.proofs.Common.{take}
use Rattle.iterate.specs.Joining.{AreAmong}
use Rattle.iterate.proofs.joining.set_of.Given as goal

abbrev pub invariant-loop-addr : goal.invariant-loop-addr
invariant-loop-addr l = AreAmong l.seen (take l.addr-index l.addrs)
