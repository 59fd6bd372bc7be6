use Rattle.front.specs.Connections.{Tends}
use Rattle.front.proofs.tcp.tcp_front.TcpFront.expire.Given as goal

abbrev pub invariant-loop-key : goal.invariant-loop-key
invariant-loop-key g l = Tends g.S.ClientStream.reads g.S.ClientStream.writes l.initial.self l.self
