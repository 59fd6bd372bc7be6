use Rattle.std.proofs.Common.{◌≤◌, []}
use Rattle.front.specs.Connections.{Serves}
use Rattle.front.proofs.tcp.connection.Connection.write_on.Given as goal

abbrev pub invariant-loop : goal.invariant-loop
invariant-loop g l = record {
  serves : Serves g.S.ClientStream.reads g.S.ClientStream.writes [] [] l.initial.self l.self;
  no_more : l.self.kept ≤ l.initial.self.kept;
}
