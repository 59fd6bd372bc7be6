use Rattle.std.proofs.Common.{◌≤◌, ℕ, arith, refl, subst}
use Rattle.clock.specs.Moments.{millis_at}
use Rattle.flight.specs.Waiting.{EarlyGoOn}
use Rattle.front_workers.proofs.Accounting.{gone_on, latest_on, looked_on, stayed, time_at, worker_of}
use Rattle.front_workers.specs.Sockets.{asking_of}
use Rattle.front_workers.proofs.Outboxes.{asking_kept, ends_of}
use Rattle.front_workers.proofs.Beginning.{rests, takes_none_then}
use Rattle.front_workers.proofs.Posting.{endings_none, endings_of}
use Rattle.front.proofs.Sending.{posts_none}
use Rattle.front_workers.proofs.Reading.{onward_by}
use Rattle.front_workers.proofs.turns.Turns.expire.Goals as goal

pub returns-clause-goes_on : goal.returns-clause-goes_on
returns-clause-goes_on g c =
    let inside = c.self.inside in
    let ends = c.expire.ensures.loses_none in
    let anew = c.begin_anew.ensures.go_on in
    let between = c.args.questions.now in
    let left = c.expire.new.self in
    let done = c.begin_anew.new.questions in
    let clock = c.millis-now.new.self in
    let now_is : c.millis-now.result ≤ millis_at clock.last = omega (arith, c.millis-now.ensures.millis) in
    let before = worker_of (asking_of c.set_now.new.self) inside.taken inside.failures c.set_now.new.self.outbox c.set_now.new.self.counts clock inside.events.inner.items in
    let after = worker_of (asking_of c.expire.new.sockets) inside.taken inside.failures c.expire.new.sockets.outbox c.expire.new.sockets.counts clock inside.events.inner.items in
    let last = worker_of (asking_of c.begin_anew.new.sockets) inside.taken inside.failures c.begin_anew.new.sockets.outbox c.begin_anew.new.sockets.counts clock inside.events.inner.items in
    rw (← c.self.view_is) (gone_on between between done _ before last (stayed between _ before (endings_none (posts_none c.set_now.ensures.kept) refl) refl c.set_now.ensures.counts refl c.set_now.ensures.asks (onward_by inside.clock clock c.millis-now.ensures.read))
    (gone_on between left done before after last (looked_on between left before after refl ends.accounted (endings_of (ends_of ends.ends)) ends.no_more ends.bounded ends.limit refl (asking_kept ends.ends)
    (time_at c.millis-now.result between left clock now_is (latest_on c.millis-now.result between left ends.begins)))
    (looked_on left done after last refl anew.accounted (endings_of (ends_of anew.ends)) anew.no_more anew.bounded anew.limit refl (asking_kept anew.ends)
    (time_at c.millis-now.result left done clock now_is c.begin_anew.ensures.latest))))

pub returns-clause-no_more : goal.returns-clause-no_more
returns-clause-no_more g c = omega (arith, c.begin_anew.ensures.go_on.no_more, c.expire.ensures.loses_none.no_more)

pub returns-clause-takes_none : goal.returns-clause-takes_none
returns-clause-takes_none g c =
    let inside = c.self.inside in
    let between = c.args.questions.now in
    let left = c.expire.new.self in
    let done = c.begin_anew.new.questions in
    let clock = c.millis-now.new.self in
    let before = worker_of (asking_of c.set_now.new.self) inside.taken inside.failures c.set_now.new.self.outbox c.set_now.new.self.counts clock inside.events.inner.items in
    let after = worker_of (asking_of c.expire.new.sockets) inside.taken inside.failures c.expire.new.sockets.outbox c.expire.new.sockets.counts clock inside.events.inner.items in
    let last = worker_of (asking_of c.begin_anew.new.sockets) inside.taken inside.failures c.begin_anew.new.sockets.outbox c.begin_anew.new.sockets.counts clock inside.events.inner.items in
    rw (← c.self.view_is) (takes_none_then between between done _ before last (rests between _ before c.set_now.ensures.kept refl)
    (takes_none_then between left done before after last (record { taken = refl; ends = endings_of (ends_of c.expire.ensures.loses_none.ends) })
    (record { taken = refl; ends = endings_of (ends_of c.begin_anew.ensures.go_on.ends) })))

pub returns-clause-early : goal.returns-clause-early
returns-clause-early g c =
    let early = subst (λ (now : ℕ). EarlyGoOn 2000 now c.args.questions.now c.expire.new.self) c.millis-now.ensures.millis c.expire.ensures.early in
    (c.expire.new.self, early, c.begin_anew.ensures.joins_none)
