use Rattle.flight.specs.Clients.{LosesNone}
use Rattle.flight.specs.FirstLook.{ListensToEach}
use Rattle.flight.specs.Waiting.{EarlyGoOn}
use Rattle.flight.proofs.Counting.{time_over}
use Rattle.flight.proofs.engine.Flight.expire.Given as goal

-- None has been lost so far.
abbrev pub invariant-loop-wait : goal.invariant-loop-wait
invariant-loop-wait g l = record {
  early : EarlyGoOn 2000 l.now l.fn.self l.self;
  anew : ListensToEach g.D.Desk.calls g.O.Sockets.listens g.O.Sockets.outbox l.fn.desk l.fn.self l.fn.sockets l.desk l.self l.sockets;
  so_far : LosesNone g.K.Client.sent g.O.Sockets.server_port g.O.Sockets.counts g.O.Sockets.outbox g.O.Sockets.posts l.now l.fn.self l.fn.sockets l.self l.sockets;
}

abbrev pub decreases-loop-wait : goal.decreases-loop-wait
decreases-loop-wait g l = time_over l.now l.self.begun
