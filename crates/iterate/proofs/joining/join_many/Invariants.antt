use Rattle.std.proofs.Common.{take}
use Rattle.iterate.specs.Joining.{AreAmong, Joins}
use Rattle.iterate.proofs.joining.join_many.Given as goal

abbrev pub invariant-loop-addr : goal.invariant-loop-addr
invariant-loop-addr l = record {
  joined : Joins l.fn.known.items (take l.addr-index l.others) l.addrs.items;
  seen : AreAmong l.seen l.addrs.items;
}
