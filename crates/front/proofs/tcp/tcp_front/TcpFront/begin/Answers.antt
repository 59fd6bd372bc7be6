use Rattle.std.proofs.Common.{◌∙◌, ap, arith, refl, sym}
use Rattle.front.specs.Connections.{ConnectionState}
use Rattle.front.proofs.Serving.{tends_begun_after, tends_then}
use Rattle.front.proofs.tcp.tcp_front.TcpFront.begin.Goals as goal

pub begin-requires-2-clause-number : goal.begin-requires-2-clause-number
begin-requires-2-clause-number g c = ap (λ (connection : ConnectionState _). connection.serial) c.new.ensures ∙ c.in-Ok.ensures.serial ∙ sym c.make_room.ensures.next

pub begin-requires-2-clause-small : goal.begin-requires-2-clause-small
begin-requires-2-clause-small g c =
    omega (arith, c.make_room.new.self.within.sum, c.make_room.new.self.within.most, ap (λ (connection : ConnectionState _). connection.kept) c.new.ensures)

pub returns : goal.returns
returns g c =
    tends_then c.free_place.ensures
    (rw (← c.self.view_is) (tends_begun_after c.watch.new.self c.args.network c.in-Ok.serial c.new.result c.self.inside.table.connections c.make_room.new.self.connections c.begin-2.new.self.connections
    c.self.inside.table.next c.make_room.new.self.next c.begin-2.new.self.next c.make_room.ensures.kept c.make_room.ensures.next c.begin-2.ensures.free c.begin-2.ensures.updates c.new.ensures
    c.in-Ok.ensures.serial c.begin-2.ensures.next))
