use Rattle.std.proofs.Common.{◌≡◌, ap, refl, subst, sym}
use Rattle.std.specs.Prelude.{IsSomeAnd}
use Rattle.front.specs.Connections.{ConnectionState}
use Rattle.front.proofs.Serving.{of_not_err, of_ok, owes_ended, owes_kept}
use Rattle.front.proofs.tcp.tcp_front.TcpFront.owe.Goals as goal
use Rattle.front.proofs.tcp.tcp_front.TcpFront.owe.Goals.{else-is_ok-via-then-is_ok+else-may_keep, else-is_ok-via-else-is_ok}

pub returns-then-is_err : goal.returns-then-is_err
returns-then-is_err g c =
    let opened = rw (← c.self.view_is) at c.has.ensures.open in
    let number = subst (λ slot. IsSomeAnd slot (λ (connection : ConnectionState _). connection.serial ≡ c.args.serial)) (sym c.in-Some.ensures.was) (opened c.if-not-has.false) in
    rw (← c.self.view_is) (owes_ended _ c.args.key c.args.serial c.args.reply.now c.in-Some.connection c.self.inside.table.connections c.take.new.self.connections c.self.inside.table.next c.take.new.self.next
    c.in-Some.ensures.was number c.take.ensures.updates c.take.ensures.next)

pub returns-then-may_keep : goal.returns-then-may_keep
returns-then-may_keep g c =
    let opened = rw (← c.self.view_is) at c.has.ensures.open in
    let number = subst (λ slot. IsSomeAnd slot (λ (connection : ConnectionState _). connection.serial ≡ c.args.serial)) (sym c.in-Some.ensures.was) (opened c.if-not-has.false) in
    rw (← c.self.view_is) (owes_kept _ c.args.key c.args.serial c.args.reply.now c.in-Some.connection c.owe.new.self c.write_on.new.self
    c.self.inside.table.connections c.take.new.self.connections c.put_back.new.self.connections c.self.inside.table.next c.take.new.self.next c.put_back.new.self.next
    c.in-Some.ensures.was number c.take.ensures.updates c.in-Some.ensures.room.1 c.take.ensures.next (of_not_err c.owe.result c.if-is_err.ensures.value c.owe.ensures)
    (of_ok c.write_on.result c.if-is_ok.ensures.value c.write_on.ensures.serves) (of_ok c.write_on.result c.if-is_ok.ensures.value c.write_on.ensures.flushed) c.put_back.ensures.updates c.put_back.ensures.next)

pub returns-else-is_ok : goal.returns-else-is_ok
returns-else-is_ok g c =
    let opened = rw (← c.self.view_is) at c.has.ensures.open in
    let number = subst (λ slot. IsSomeAnd slot (λ (connection : ConnectionState _). connection.serial ≡ c.args.serial)) (sym c.in-Some.ensures.was) (opened c.if-not-has.false) in
    let over = owes_ended _ c.args.key c.args.serial c.args.reply.now c.in-Some.connection c.self.inside.table.connections c.take.new.self.connections c.self.inside.table.next c.take.new.self.next
    c.in-Some.ensures.was number c.take.ensures.updates c.take.ensures.next in
    elim c.else-is_ok.branch [
      | else-is_ok-via-then-is_ok+else-may_keep w ↦ rw w.self-is (rw (← c.self.view_is) over)
      | else-is_ok-via-else-is_ok w ↦ rw w.self-is (rw (← c.self.view_is) over)
    ]
