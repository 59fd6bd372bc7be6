use Rattle.std.proofs.Common.{refl}
use Rattle.front.specs.Connections.{stays}
use Rattle.front_workers.specs.Sockets.{asking_of}
use Rattle.front.proofs.Serving.{tends_then}
use Rattle.front_workers.proofs.Flowing.{kept_on, stream_of}
use Rattle.front_workers.proofs.tcp.turns.TcpTurns.accept_each.Goals as goal

pub returns-then-now-self-clause-tends : goal.returns-then-now-self-clause-tends
returns-then-now-self-clause-tends g c = stays

pub loop-init : goal.loop-init
loop-init g c = record { tended = stays; kept = refl }

pub returns-in-Err-clause-tends : goal.returns-in-Err-clause-tends
returns-in-Err-clause-tends g c =
    let went = rw (← c.self-in-loop-2.view_is) at c.accept.ensures.tends in
    tends_then c.loop.invariant.tended went

pub loop-preserved : goal.loop-preserved
loop-preserved g c =
    let went = rw (← c.self-in-loop-2.view_is) at c.accept.ensures.tends in
    let kept = rw (← c.self-in-loop-2.view_is) at c.accept.ensures.kept in
    let inside = c.self-in-loop-2.inside in
    let last = stream_of (asking_of inside.sockets) inside.taken inside.failures inside.sockets.outbox inside.sockets.counts inside.clock inside.events.inner.items in
    record { tended = tends_then c.loop.invariant.tended went; kept = kept_on c.args.self.now c.loop.self last c.loop.invariant.kept kept }
