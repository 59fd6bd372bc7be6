use Rattle.std.proofs.Common.{refl}
use Rattle.front.proofs.Serving.{of_ok, serves_kept, tends_ended, tends_kept, tends_one}
use Rattle.front.proofs.tcp.tcp_front.TcpFront.write_on.Goals as goal

pub returns-in_default-clause-tends : goal.returns-in_default-clause-tends
returns-in_default-clause-tends g c =
    rw (← c.self.view_is) (tends_kept c.self.inside.table.connections c.take.new.self.connections c.self.inside.table.next c.take.new.self.next c.in_default.ensures.none c.take.ensures.next)

pub returns-then-is_ok-clause-tends : goal.returns-then-is_ok-clause-tends
returns-then-is_ok-clause-tends g c =
    rw (← c.self.view_is) (tends_one c.args.key c.in-Some.connection.serial (serves_kept c.args.key c.in-Some.connection.serial c.in-Some.connection c.write_on.new.self
    c.self.inside.table.connections c.take.new.self.connections c.put_back.new.self.connections c.self.inside.table.next c.take.new.self.next c.put_back.new.self.next
    c.in-Some.ensures.was refl c.take.ensures.updates c.in-Some.ensures.room.1 c.take.ensures.next (of_ok c.write_on.result c.if-is_ok.ensures.value c.write_on.ensures.serves) c.put_back.ensures.updates c.put_back.ensures.next))

pub returns-else-is_ok-clause-tends : goal.returns-else-is_ok-clause-tends
returns-else-is_ok-clause-tends g c =
    rw (← c.self.view_is) (tends_ended c.args.key c.in-Some.connection c.self.inside.table.connections c.take.new.self.connections c.self.inside.table.next c.take.new.self.next
    c.in-Some.ensures.was c.take.ensures.updates c.take.ensures.next)
