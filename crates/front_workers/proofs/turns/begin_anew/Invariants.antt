use Rattle.std.proofs.Common.{◌≤◌, max}
use Rattle.flight.specs.Waiting.{IsPatient, IsTimely, JoinsNone}
use Rattle.front_workers.specs.Accounts.{QuestionsGoOn}
use Rattle.front_workers.specs.Asking.{PostsBy}
use Rattle.front_workers.specs.Sockets.{sockets_of}
use Rattle.front_workers.proofs.turns.begin_anew.Given as goal

-- none is lost so far
abbrev pub invariant-loop : goal.invariant-loop
invariant-loop g l = record {
  so_far : QuestionsGoOn g.K.Client.sent (PostsBy g.B.ReplySender.posts) l.initial.questions l.initial.sockets.counts (sockets_of l.initial.sockets) l.questions l.sockets.counts (sockets_of l.sockets);
  joins : JoinsNone l.initial.questions l.questions;
  patient : IsPatient 2000 l.now l.questions;
  timely : IsTimely 10000 l.now l.questions;
  latest : l.questions.latest ≤ max l.now l.initial.questions.latest;
}
