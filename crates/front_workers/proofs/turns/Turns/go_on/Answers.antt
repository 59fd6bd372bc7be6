use Rattle.std.proofs.Common.{arith, refl, subst, sym}
use Rattle.clock.specs.Moments.{ClockState, IsRead, millis_at}
use Rattle.flight.specs.Waiting.{EarlyGoOn, IsPatient, IsTimely}
use Rattle.front_workers.proofs.Accounting.{gone_on, looked_on, stayed, worker_of}
use Rattle.front_workers.specs.Sockets.{asking_of}
use Rattle.front_workers.proofs.Outboxes.{asking_kept, ends_of}
use Rattle.front_workers.proofs.Beginning.{takes_none_then}
use Rattle.front_workers.proofs.Posting.{endings_none, endings_of}
use Rattle.front_workers.proofs.Relieving.{patient_on, timely_on}
use Rattle.front_workers.proofs.turns.Turns.go_on.Goals as goal

pub returns-clause-goes_on : goal.returns-clause-goes_on
returns-clause-goes_on g c =
    let inside = c.self.inside in
    let looks = c.look_all.ensures.go_on in
    let between = c.look_all.new.questions in
    let left = c.expire.new.questions in
    let done = c.relieve.new.questions in
    let looked = worker_of (asking_of c.look_all.new.sockets) inside.taken inside.failures c.look_all.new.sockets.outbox c.look_all.new.sockets.counts c.look_all.new.clock inside.events.inner.items in
    let relieved = rw (← c.self-2.view_is) at c.relieve.ensures.goes_on in
    rw (← c.self.view_is) (gone_on _ between done _ looked _ (looked_on _ between _ looked refl looks.accounted (endings_of (ends_of looks.ends)) looks.no_more looks.bounded looks.limit refl (asking_kept looks.ends) c.look_all.ensures.time)
    (gone_on between left done looked _ _ c.expire.ensures.goes_on
    (gone_on left done done _ _ _ relieved (stayed done _ _ (endings_none c.flush.ensures.posts refl) refl c.flush.ensures.counts refl c.flush.ensures.asks (omega arith)))))

pub returns-clause-no_more : goal.returns-clause-no_more
returns-clause-no_more g c = omega (arith, c.look_all.ensures.go_on.no_more, c.expire.ensures.no_more, c.relieve.ensures.no_more)

pub returns-clause-takes_none : goal.returns-clause-takes_none
returns-clause-takes_none g c =
    let inside = c.self.inside in
    let looks = c.look_all.ensures.go_on in
    let between = c.look_all.new.questions in
    let left = c.expire.new.questions in
    let done = c.relieve.new.questions in
    let looked = worker_of (asking_of c.look_all.new.sockets) inside.taken inside.failures c.look_all.new.sockets.outbox c.look_all.new.sockets.counts c.look_all.new.clock inside.events.inner.items in
    let relieved = rw (← c.self-2.view_is) at c.relieve.ensures.takes_none in
    rw (← c.self.view_is) (takes_none_then _ between done _ looked _ (record { taken = refl; ends = endings_of (ends_of looks.ends) })
    (takes_none_then between left done looked _ _ c.expire.ensures.takes_none
    (takes_none_then left done done _ _ _ relieved (record { taken = refl; ends = endings_none c.flush.ensures.posts refl }))))

pub returns-clause-read : goal.returns-clause-read
returns-clause-read g c =
    let clock = rw (← c.self-2.view_is) at c.relieve.ensures.clock in
    rw (← c.self.view_is) (c.look_all.new.clock, c.look_all.ensures.read, subst (λ (new : ClockState). IsRead g.R.Elapsing.passed c.look_all.new.clock new) (sym clock) c.expire.ensures.read)

pub returns-clause-in_time : goal.returns-clause-in_time
returns-clause-in_time g c =
    let clock = rw (← c.self-2.view_is) at c.relieve.ensures.clock in (
      patient_on 2000 _ c.expire.new.questions c.relieve.new.questions c.relieve.ensures.others
          (subst (λ (new : ClockState). IsPatient 2000 (millis_at new.last) c.expire.new.questions) (sym clock) c.expire.ensures.patient),
      timely_on 10000 _ c.expire.new.questions c.relieve.new.questions c.relieve.ensures.others
          (subst (λ (new : ClockState). IsTimely 10000 (millis_at new.last) c.expire.new.questions) (sym clock) c.expire.ensures.timely),
    )

pub returns-clause-looks : goal.returns-clause-looks
returns-clause-looks g c =
    let clock = rw (← c.self-2.view_is) at c.relieve.ensures.clock in
    let relieved = rw (← c.self-2.view_is) at c.relieve.ensures.goes_on in
    rw (← c.self.view_is) (record {
      between = c.look_all.new.questions;
      mid = c.look_all.new.sockets.counts;
      looked = c.look_all.ensures.looked;
      left = c.expire.ensures.early.0;
      early = subst (λ (new : ClockState). EarlyGoOn 2000 (millis_at new.last) c.look_all.new.questions c.expire.ensures.early.0) (sym clock) c.expire.ensures.early.1;
      anew = c.expire.new.questions;
      joins_none = c.expire.ensures.early.2;
      relieves = c.relieve.ensures.relieves;
      relieved = c.relieve.ensures.relieved;
      listened = rw c.flush.ensures.counts (omega (arith, c.expire.ensures.goes_on.accounts.never_fall.listened, relieved.accounts.never_fall.listened));
    })
