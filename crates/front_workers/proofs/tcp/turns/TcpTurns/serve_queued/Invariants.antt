use Rattle.std.proofs.Common.{◌≡◌}
use Rattle.front_workers.specs.Streaming.{StreamGoesOn}
use Rattle.front_workers.proofs.tcp.turns.TcpTurns.serve_queued.Given as goal

abbrev pub invariant-loop : goal.invariant-loop
invariant-loop g l = record {
  goes_on : StreamGoesOn g.S.ClientStream.reads g.S.ClientStream.writes g.S.ClientStream.drained l.fn.questions l.fn.self l.questions l.self;
  reported : l.self.reported ≡ l.fn.self.reported;
}
