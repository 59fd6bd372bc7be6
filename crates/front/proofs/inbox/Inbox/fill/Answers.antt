use Rattle.std.proofs.Common.{arith}
use Rattle.std.proofs.lemmas.List.{take_more_set}
use Rattle.front.specs.Rooms.{arrived}
use Rattle.front.proofs.Taking.{taken_on}
use Rattle.front.proofs.inbox.Inbox.fill.Goals as goal

pub loop-self-preserved : goal.loop-self-preserved
loop-self-preserved g c =
    let inbox = c.loop-self.self in
    taken_on g.S.ServiceSocket.takes (λ slot. arrived slot.came slot.room) inbox.slots.items _ inbox.filled c.fill.new.self _ _ _ c.loop-self.invariant c.in-Ok.ensures.took
    (take_more_set inbox.slots.items inbox.filled c.fill.new.self (omega (arith, c.loop-self-test.true, inbox.whole)))
