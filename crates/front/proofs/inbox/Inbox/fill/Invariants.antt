use Rattle.std.proofs.Common.{◌-◌, map, take}
use Rattle.front.specs.Rooms.{arrived, fronts_of}
use Rattle.front.specs.Moves.{AllMoved}
use Rattle.front.proofs.inbox.Inbox.fill.Given as goal

-- those so far were taken
abbrev pub invariant-loop-self : goal.invariant-loop-self
invariant-loop-self g l = AllMoved g.S.ServiceSocket.takes (fronts_of (map (λ slot. arrived slot.came slot.room) (take l.self.filled l.self.slots.items))) l.fn.socket l.socket

abbrev pub decreases-loop-self : goal.decreases-loop-self
decreases-loop-self g l = 32 - l.self.filled
