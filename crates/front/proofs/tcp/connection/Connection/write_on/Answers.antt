use Rattle.std.proofs.Common.{refl, arith}
use Rattle.front.proofs.Passing.{serves_none, serves_then}
use Rattle.front.proofs.tcp.connection.Connection.write_on.Goals as goal

pub returns-then-not-branch-clause-serves : goal.returns-then-not-branch-clause-serves
returns-then-not-branch-clause-serves g c = serves_then c.loop.invariant.serves c.in_ok-write_next.ensures.serves

pub loop-init : goal.loop-init
loop-init g c = record { serves = serves_none _ _ refl; no_more = omega arith }

pub loop-preserved : goal.loop-preserved
loop-preserved g c = record {
  serves = serves_then c.loop.invariant.serves c.in_ok-write_next.ensures.serves;
  no_more = omega (arith, c.loop.invariant.no_more, c.write_next.ensures.no_more);
}
