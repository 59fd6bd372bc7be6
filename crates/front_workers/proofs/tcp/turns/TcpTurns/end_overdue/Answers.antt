use Rattle.front.specs.Connections.{stays}
use Rattle.front_workers.proofs.tcp.turns.TcpTurns.end_overdue.Goals as goal

pub returns-then-now-self-clause-tends : goal.returns-then-now-self-clause-tends
returns-then-now-self-clause-tends g c = stays
