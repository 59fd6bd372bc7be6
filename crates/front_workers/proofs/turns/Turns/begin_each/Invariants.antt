use Rattle.std.proofs.Common.{◌≡◌, map, take}
use Rattle.front_workers.specs.Accounts.{GoesOn}
use Rattle.front_workers.specs.Begun.{AllBegin}
use Rattle.front.specs.Rooms.{arrived}
use Rattle.front_workers.proofs.turns.Turns.begin_each.Given as goal

-- what has begun so far is accounted for, each datagram once
abbrev pub invariant-loop-slot : goal.invariant-loop-slot
invariant-loop-slot g l = record {
  so_far : GoesOn g.S.ServiceSocket.takes g.S.ServiceSocket.sends l.initial.questions l.initial.self l.questions l.self;
  begin : AllBegin g.S.ServiceSocket.takes g.S.ServiceSocket.sends (map (λ slot. arrived slot.came slot.room) (take l.slot-index l.slot-items)) l.initial.questions l.initial.self l.questions l.self;
  reported : l.self.reported ≡ l.initial.self.reported;
}
