use Rattle.std.proofs.Common.{◌≡◌, []}
use Rattle.front_workers.specs.Accounts.{GoesOn}
use Rattle.front_workers.specs.Begun.{Runs}
use Rattle.front_workers.proofs.turns.Turns.take_datagrams.Given as goal

-- what was taken so far is accounted for, and each datagram of it began once
abbrev pub invariant-loop : goal.invariant-loop
invariant-loop g l = record {
  so_far : GoesOn g.S.ServiceSocket.takes g.S.ServiceSocket.sends l.fn.questions l.fn.self l.questions l.self;
  ran : Runs g.S.ServiceSocket.takes g.S.ServiceSocket.sends l.fn.questions l.fn.self l.questions l.self;
  sent : l.fn.self.outbox.waiting ≡ [] → l.self.outbox.waiting ≡ [];
  reported : l.self.reported ≡ l.fn.self.reported;
}
