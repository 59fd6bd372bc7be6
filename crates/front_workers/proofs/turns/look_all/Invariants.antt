use Rattle.std.proofs.Common.{◌≡◌, map}
use Rattle.front_workers.specs.Accounts.{KeepsTime, QuestionsGoOn}
use Rattle.front_workers.specs.Looked.{AllLookedAt}
use Rattle.front_workers.specs.Patience.{AreRead}
use Rattle.front_workers.specs.Asking.{PostsBy}
use Rattle.front_workers.specs.Sockets.{sockets_of}
use Rattle.front_workers.proofs.turns.look_all.Given as goal

-- none is lost so far
abbrev pub invariant-loop-event : goal.invariant-loop-event
invariant-loop-event g l = record {
  so_far : QuestionsGoOn g.K.Client.sent (PostsBy g.B.ReplySender.posts) l.initial.questions l.initial.sockets.counts (sockets_of l.initial.sockets) l.questions l.sockets.counts (sockets_of l.sockets);
  in_time : l.sockets.counts.expired ≡ l.initial.sockets.counts.expired;
  read : AreRead g.R.Elapsing.passed l.initial.clock l.clock;
  looked : AllLookedAt (map (λ event. event.now) l.yielded) l.initial.questions l.initial.sockets.counts l.questions l.sockets.counts;
  time : KeepsTime l.initial.clock l.initial.questions l.clock l.questions;
}
