use Rattle.std.proofs.Common.{◌≡◌, ◌≤◌, ◌<◌, []}
use Rattle.plain_workers.specs.Working.{HasFailed}
use Rattle.flight.specs.Bounds.{IsBounded}
use Rattle.flight.specs.Waiting.{outstanding}
use Rattle.front_workers.specs.Accounts.{Accounts, KeepsTime}
use Rattle.front_workers.specs.Begun.{Runs, none_in_flight}
use Rattle.front_workers.proofs.udp_worker.fly_udp.Given as goal

-- what was taken so far is accounted for, and so many turns have failed in a row
abbrev pub invariant-loop : goal.invariant-loop
invariant-loop g l = record {
  so_far : Accounts g.S.ServiceSocket.takes g.S.ServiceSocket.sends 0 l.fn.worker (outstanding l.questions) l.worker-inside.turns;
  ran : Runs g.S.ServiceSocket.takes g.S.ServiceSocket.sends (none_in_flight l.fn.limit) l.fn.worker l.questions l.worker-inside.turns;
  time : KeepsTime l.fn.worker.clock (none_in_flight l.fn.limit) l.worker-inside.turns.clock l.questions;
  within : outstanding l.questions ≤ l.fn.limit;
  bounded : IsBounded l.questions;
  limit : l.questions.limit ≡ l.fn.limit;
  few : l.failed < 16;
  asks : l.worker-inside.turns.asking ≡ l.fn.worker.asking;
  counted : HasFailed l.failed l.fn.worker.failures l.worker-inside.turns.failures;
  sent : l.fn.worker.outbox.waiting ≡ [] → l.worker-inside.turns.outbox.waiting ≡ [];
}
