use Rattle.std.proofs.Common.{◌≡◌, ℕ}
use Rattle.flight.specs.Bounds.{AllGoOn, Relieves}
use Rattle.flight.specs.Clients.{LosesNone}
use Rattle.flight.specs.declared.kept.TheConstants.{MOST_AT_REST}
use Rattle.flight.specs.Waiting.{outstanding}
use Rattle.flight.proofs.engine.Flight.relieve.Given as goal

-- Those that kept most have ended so far, and none has been lost.
abbrev pub invariant-loop-self : goal.invariant-loop-self
invariant-loop-self g l = record {
  relieves : Relieves MOST_AT_REST l.fn.self l.self;
  go_on : AllGoOn l.fn.self l.self;
  so_far : (now : ℕ) → LosesNone g.K.Client.sent g.O.Sockets.server_port g.O.Sockets.counts g.O.Sockets.outbox g.O.Sockets.posts now l.fn.self l.fn.sockets l.self l.sockets;
  unheard : (g.O.Sockets.counts l.sockets).listened ≡ (g.O.Sockets.counts l.fn.sockets).listened;
  unexpired : (g.O.Sockets.counts l.sockets).expired ≡ (g.O.Sockets.counts l.fn.sockets).expired;
}

abbrev pub decreases-loop-self : goal.decreases-loop-self
decreases-loop-self g l = outstanding l.self
