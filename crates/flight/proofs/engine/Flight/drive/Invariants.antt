use Rattle.std.proofs.Common.{◌≡◌, ◌≤◌}
use Rattle.iterate.specs.Measure.{left_in}
use Rattle.flight.specs.Asking.{origin_in, FliesFor, IsAskedBy}
use Rattle.flight.specs.Told.{Keeps}
use Rattle.flight.specs.Waiting.{Stays}
use Rattle.flight.proofs.engine.Flight.drive.Given as goal

-- The question's steps lead here. Nothing else has changed, but it may have wanted to begin an exchange.
abbrev pub invariant-loop-want : goal.invariant-loop-want
invariant-loop-want g l = record {
  asked : IsAskedBy g.K.Client.sent l.asking.port l.octets l.asking.client l.asking.query l.asking.task;
  flies : FliesFor g.D.Desk.calls g.D.Numbered.seen g.L.InFlight.hears g.C.Clock.ticks g.K.Client.since l.asking l.input;
  port : l.asking.port ≡ g.O.Sockets.server_port l.sockets;
  known : l.asking.seen ≤ g.D.Numbered.seen l.desk;
  client_kept : l.asking.client ≡ l.fn.asking.client;
  origin_kept : origin_in g.K.Client.network l.asking ≡ origin_in g.K.Client.network l.fn.asking;
  keeps : Keeps g.O.Sockets.server_port g.O.Sockets.outbox l.fn.sockets l.sockets;
  counts_kept : g.O.Sockets.counts l.sockets ≡ g.O.Sockets.counts l.fn.sockets;
  stays : Stays l.fn.now (λ origin. origin ≡ origin_in g.K.Client.network l.fn.asking) l.fn.self l.self;
}

abbrev pub decreases-loop-want : goal.decreases-loop-want
decreases-loop-want g l = left_in l.asking.task.phase
