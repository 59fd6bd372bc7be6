use Rattle.std.proofs.Common.{refl}
use Rattle.front.specs.Connections.{stays}
use Rattle.front.proofs.Serving.{tends_taken, tends_then}
use Rattle.front.proofs.tcp.tcp_front.TcpFront.expire.Goals as goal
use Rattle.front.proofs.tcp.tcp_front.TcpFront.expire.Goals.{then-is_overdue, else-is_overdue}

pub loop-key-init : goal.loop-key-init
loop-key-init g c = stays

pub loop-key-preserved : goal.loop-key-preserved
loop-key-preserved g c =
    elim c.if-is_overdue.branch [
      | then-is_overdue w ↦ rw w.self-is (tends_then c.loop-key.invariant (rw (← c.self-in-loop-key.view_is) (tends_taken c.loop-key.key w.take.result c.self-in-loop-key.inside.table.connections w.take.new.self.connections
          c.self-in-loop-key.inside.table.next w.take.new.self.next w.take.ensures.was w.take.ensures.updates w.take.ensures.none w.take.ensures.next)))
      | else-is_overdue w ↦ rw w.self-is c.loop-key.invariant
    ]
