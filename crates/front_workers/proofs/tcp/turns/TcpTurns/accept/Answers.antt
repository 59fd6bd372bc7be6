use Rattle.front.specs.Connections.{stays}
use Rattle.front_workers.proofs.tcp.turns.TcpTurns.accept.Goals as goal

pub returns-in_err-would_wait-in-Err-clause-tends : goal.returns-in_err-would_wait-in-Err-clause-tends
returns-in_err-would_wait-in-Err-clause-tends g c = stays

pub returns-in_ok-would_wait-in-Err-clause-tends : goal.returns-in_ok-would_wait-in-Err-clause-tends
returns-in_ok-would_wait-in-Err-clause-tends g c = stays
