use Rattle.std.proofs.Common.{◌≡◌, ◌≤◌, ◌<◌}
use Rattle.plain_workers.specs.Working.{HasFailed}
use Rattle.flight.specs.Bounds.{IsBounded}
use Rattle.flight.specs.Waiting.{outstanding}
use Rattle.front_workers.specs.Accounts.{KeepsTime}
use Rattle.front_workers.specs.Begun.{none_in_flight}
use Rattle.front_workers.specs.Streaming.{AreAccounted, StreamRuns}
use Rattle.front_workers.proofs.tcp.worker.fly_tcp.Given as goal

-- what was taken so far is accounted for, and so many turns have failed in a row
abbrev pub invariant-loop : goal.invariant-loop
invariant-loop g l = record {
  so_far : AreAccounted 0 l.fn.worker.taken l.fn.worker.counts (outstanding l.questions) l.worker-inside.turns.taken l.worker-inside.turns.counts;
  ran : StreamRuns g.S.ClientStream.reads g.S.ClientStream.writes g.S.ClientStream.drained (none_in_flight l.fn.limit) l.fn.worker l.questions l.worker-inside.turns;
  time : KeepsTime l.fn.worker.clock (none_in_flight l.fn.limit) l.worker-inside.turns.clock l.questions;
  within : outstanding l.questions ≤ l.fn.limit;
  bounded : IsBounded l.questions;
  limit : l.questions.limit ≡ l.fn.limit;
  few : l.failed < 16;
  asks : l.worker-inside.turns.asking ≡ l.fn.worker.asking;
  counted : HasFailed l.failed l.fn.worker.failures l.worker-inside.turns.failures;
}
