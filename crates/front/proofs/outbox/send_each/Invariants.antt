use Rattle.std.proofs.Common.{map, take}
use Rattle.front.specs.Moves.{AllMoved}
use Rattle.front.specs.Outgoing.{datagram_of}
use Rattle.front.proofs.outbox.send_each.Given as goal

-- those so far were sent
abbrev pub invariant-loop-outgoing : goal.invariant-loop-outgoing
invariant-loop-outgoing g l = AllMoved g.S.ServiceSocket.sends (map datagram_of (take l.outgoing-index l.waiting)) l.fn.socket l.socket
