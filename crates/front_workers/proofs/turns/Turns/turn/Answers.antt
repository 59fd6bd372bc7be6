use Rattle.std.proofs.Common.{refl}
use Rattle.front_workers.specs.Begun.{goes_on, stays}
use Rattle.front_workers.proofs.Accounting.{gone_on, stayed}
use Rattle.front_workers.proofs.Beginning.{rests, runs_then}
use Rattle.front_workers.proofs.Posting.{endings_none}
use Rattle.front.proofs.Sending.{posts_none}
use Rattle.front_workers.proofs.Reading.{onward_on, read_after}
use Rattle.front_workers.proofs.turns.Turns.turn.Goals as goal

pub returns-in_err-wait-clause-goes_on : goal.returns-in_err-wait-clause-goes_on
returns-in_err-wait-clause-goes_on g c =
    let waited = c.wait.ensures in
    stayed _ _ _ (endings_none (posts_none waited.outbox) refl) waited.taken waited.counts waited.failures waited.asks (onward_on waited.read)

pub returns-in_err-wait-clause-runs : goal.returns-in_err-wait-clause-runs
returns-in_err-wait-clause-runs g c = goes_on stays (rests _ _ _ c.wait.ensures.outbox c.wait.ensures.taken)

pub returns-clause-goes_on : goal.returns-clause-goes_on
returns-clause-goes_on g c =
    let waited = c.wait.ensures in
    gone_on _ _ _ _ _ _ (stayed _ _ _ (endings_none (posts_none waited.outbox) refl) waited.taken waited.counts waited.failures waited.asks (onward_on waited.read))
    (gone_on _ _ _ _ _ _ c.go_on.ensures.goes_on c.take_datagrams.ensures.goes_on)

pub returns-clause-runs : goal.returns-clause-runs
returns-clause-runs g c =
    runs_then (goes_on (goes_on stays (rests _ _ _ c.wait.ensures.outbox c.wait.ensures.taken)) c.go_on.ensures.takes_none) c.take_datagrams.ensures.runs

pub returns-in_err-more-clause-goes_on : goal.returns-in_err-more-clause-goes_on
returns-in_err-more-clause-goes_on g c =
    let waited = c.wait.ensures in
    gone_on _ _ _ _ _ _ (stayed _ _ _ (endings_none (posts_none waited.outbox) refl) waited.taken waited.counts waited.failures waited.asks (onward_on waited.read))
    (gone_on _ _ _ _ _ _ c.go_on.ensures.goes_on c.take_datagrams.ensures.goes_on)

pub returns-in_err-more-clause-runs : goal.returns-in_err-more-clause-runs
returns-in_err-more-clause-runs g c =
    runs_then (goes_on (goes_on stays (rests _ _ _ c.wait.ensures.outbox c.wait.ensures.taken)) c.go_on.ensures.takes_none) c.take_datagrams.ensures.runs

pub returns-clause-overdue : goal.returns-clause-overdue
returns-clause-overdue g c = record {
  between = c.go_on.new.questions;
  mid = c.go_on.new.self;
  before = goes_on (goes_on stays (rests _ _ _ c.wait.ensures.outbox c.wait.ensures.taken)) c.go_on.ensures.takes_none;
  read = read_after c.wait.ensures.read c.go_on.ensures.read;
  patient = c.go_on.ensures.in_time.0;
  timely = c.go_on.ensures.in_time.1;
  relieved = c.go_on.ensures.looks.relieved;
  looks = rw (← c.wait.ensures.counts, c.take_datagrams.ensures.reported, c.go_on.ensures.reported) c.go_on.ensures.looks;
  listened = c.take_datagrams.ensures.goes_on.accounts.never_fall.listened;
  after = c.take_datagrams.ensures.runs;
}
