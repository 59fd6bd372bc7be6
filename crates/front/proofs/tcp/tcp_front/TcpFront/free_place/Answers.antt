use Rattle.std.proofs.Common.{refl}
use Rattle.front.specs.Connections.{stays}
use Rattle.front.proofs.Serving.{tends_taken}
use Rattle.front.proofs.tcp.tcp_front.TcpFront.free_place.Goals as goal

pub returns-then-len-self : goal.returns-then-len-self
returns-then-len-self g c = stays

pub returns-in-Some : goal.returns-in-Some
returns-in-Some g c =
    rw (← c.self.view_is) (tends_taken c.in-Some.key c.take.result c.self.inside.table.connections c.take.new.self.connections c.self.inside.table.next c.take.new.self.next
    c.take.ensures.was c.take.ensures.updates c.take.ensures.none c.take.ensures.next)

pub returns-in_default : goal.returns-in_default
returns-in_default g c = stays
