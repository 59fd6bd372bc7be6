use Rattle.std.proofs.Common.{◌≡◌}
use Rattle.front.specs.Connections.{Tends}
use Rattle.front_workers.proofs.tcp.turns.TcpTurns.accept_each.Given as goal

abbrev pub invariant-loop : goal.invariant-loop
invariant-loop g l = record {
  tended : Tends g.S.ClientStream.reads g.S.ClientStream.writes l.fn.self.connections l.self.connections;
  kept : l.self ≡ record l.fn.self { connections = l.self.connections };
}
