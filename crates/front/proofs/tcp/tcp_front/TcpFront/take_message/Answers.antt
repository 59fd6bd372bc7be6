use Rattle.std.proofs.Common.{◌∙◌, [], ◌∷◌, inl, inr, refl, sym}
use Rattle.front.specs.Connections.{stays}
use Rattle.front.proofs.Passing.{serves_none}
use Rattle.front.proofs.Serving.{serves_kept, tends_ended, takes_message, tends_kept, tends_one}
use Rattle.front.proofs.tcp.tcp_front.TcpFront.take_message.Goals as goal
use Rattle.front.proofs.tcp.tcp_front.TcpFront.take_message.Goals.{then-is_wanted, else-is_wanted}

pub returns-in_default : goal.returns-in_default
returns-in_default g c =
    rw (← c.self.view_is) (tends_kept c.self.inside.table.connections c.take.new.self.connections c.self.inside.table.next c.take.new.self.next c.in_default.ensures.none c.take.ensures.next)

pub returns-then-not-may_read : goal.returns-then-not-may_read
returns-then-not-may_read g c =
    elim c.if-is_wanted.branch [
      | then-is_wanted w ↦ rw w.self-is (rw (← c.self.view_is) (tends_one c.args.key c.in-Some.connection.serial (serves_kept c.args.key c.in-Some.connection.serial c.in-Some.connection c.in-Some.connection
          c.self.inside.table.connections c.take.new.self.connections w.put_back.new.self.connections c.self.inside.table.next c.take.new.self.next w.put_back.new.self.next
          c.in-Some.ensures.was refl c.take.ensures.updates c.in-Some.ensures.room.1 c.take.ensures.next (serves_none _ _ refl) w.put_back.ensures.updates w.put_back.ensures.next)))
      | else-is_wanted w ↦ rw w.self-is (rw (← c.self.view_is) (tends_ended c.args.key c.in-Some.connection c.self.inside.table.connections c.take.new.self.connections c.self.inside.table.next c.take.new.self.next
          c.in-Some.ensures.was c.take.ensures.updates c.take.ensures.next))
    ]

pub returns-in_default-read_next : goal.returns-in_default-read_next
returns-in_default-read_next g c =
    rw (← c.self.view_is) (tends_ended c.args.key c.in-Some.connection c.self.inside.table.connections c.take.new.self.connections c.self.inside.table.next c.take.new.self.next
    c.in-Some.ensures.was c.take.ensures.updates c.take.ensures.next)

pub returns-then-not-may_keep : goal.returns-then-not-may_keep
returns-then-not-may_keep g c =
    rw (← c.self.view_is) (tends_ended c.args.key c.in-Some.connection c.self.inside.table.connections c.take.new.self.connections c.self.inside.table.next c.take.new.self.next
    c.in-Some.ensures.was c.take.ensures.updates c.take.ensures.next)

pub returns-in-Nothing : goal.returns-in-Nothing
returns-in-Nothing g c =
    rw (← c.self.view_is) (tends_one c.args.key c.in-Some.connection.serial (serves_kept c.args.key c.in-Some.connection.serial c.in-Some.connection c.read_next.new.self
    c.self.inside.table.connections c.take.new.self.connections c.put_back-2.new.self.connections c.self.inside.table.next c.take.new.self.next c.put_back-2.new.self.next
    c.in-Some.ensures.was refl c.take.ensures.updates c.in-Some.ensures.room.1 c.take.ensures.next (rw c.in-Nothing.is at c.in-Ok.ensures.arrives) c.put_back-2.ensures.updates c.put_back-2.ensures.next))

pub returns-in-Part : goal.returns-in-Part
returns-in-Part g c =
    rw (← c.self.view_is) (tends_one c.args.key c.in-Some.connection.serial (serves_kept c.args.key c.in-Some.connection.serial c.in-Some.connection c.read_next.new.self
    c.self.inside.table.connections c.take.new.self.connections c.put_back-2.new.self.connections c.self.inside.table.next c.take.new.self.next c.put_back-2.new.self.next
    c.in-Some.ensures.was refl c.take.ensures.updates c.in-Some.ensures.room.1 c.take.ensures.next (elim c.in-Part.is [ inl part ↦ rw part at c.in-Ok.ensures.arrives | inr end ↦ rw end at c.in-Ok.ensures.arrives ]) c.put_back-2.ensures.updates c.put_back-2.ensures.next))

pub returns-in-Message : goal.returns-in-Message
returns-in-Message g c =
    let arrives = rw c.in-Message.is at c.in-Ok.ensures.arrives in
    let serial = c.serial-serial.ensures ∙ arrives.1.serial in
    let network = c.network-network.ensures ∙ arrives.1.network in
    rw (← c.self.view_is) (takes_message c.args.key c.serial-serial.result c.network-network.result c.in-Message.message c.in-Some.connection c.read_next.new.self
    c.self.inside.table.connections c.take.new.self.connections c.put_back-2.new.self.connections c.self.inside.table.next c.take.new.self.next c.put_back-2.new.self.next
    c.in-Some.ensures.was (sym serial) (sym network) c.take.ensures.updates c.in-Some.ensures.room.1 c.take.ensures.next arrives.0 arrives.1 c.put_back-2.ensures.updates c.put_back-2.ensures.next)
