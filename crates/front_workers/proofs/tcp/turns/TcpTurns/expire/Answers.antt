use Rattle.std.proofs.Common.{◌≤◌, ℕ, arith, refl, subst}
use Rattle.clock.specs.Moments.{millis_at}
use Rattle.flight.specs.Waiting.{EarlyGoOn}
use Rattle.front_workers.proofs.Accounting.{latest_on, time_at}
use Rattle.front_workers.specs.Sockets.{asking_of}
use Rattle.front_workers.proofs.Outboxes.{asking_kept, ends_of}
use Rattle.front.proofs.Serving.{tends_none}
use Rattle.front_workers.proofs.Flowing.{stream_of, streams_settle, streams_tend, streams_then}
use Rattle.front_workers.proofs.tcp.turns.TcpTurns.expire.Goals as goal

pub returns-clause-goes_on : goal.returns-clause-goes_on
returns-clause-goes_on g c =
    let inside = c.self.inside in
    let set = c.set_now-now.ensures in
    let expires = c.expire.ensures.loses_none in
    let anew = c.begin_anew.ensures.go_on in
    let reported = inside.events.inner.items in
    let read = rw (← c.self.view_is) at set.now in
    let now_is : c.set_now-now.result ≤ millis_at inside.clock.last = omega (arith, read) in
    let ready = stream_of (asking_of inside.sockets) inside.taken inside.failures inside.sockets.outbox inside.sockets.counts inside.clock reported in
    let left = stream_of (asking_of c.expire.new.sockets) inside.taken inside.failures c.expire.new.sockets.outbox c.expire.new.sockets.counts inside.clock reported in
    let done = stream_of (asking_of c.begin_anew.new.sockets) inside.taken inside.failures c.begin_anew.new.sockets.outbox c.begin_anew.new.sockets.counts inside.clock reported in
    let before = c.args.questions.now in
    let between = c.expire.new.self in
    let last = c.begin_anew.new.questions in
    streams_then before before last c.args.self.now c.set_now-now.new.self done (streams_tend before c.args.self.now c.set_now-now.new.self (tends_none set.kept) set.taken set.counts set.failures set.asks set.onward)
    (rw (← c.self.view_is) (streams_then before between last ready left done (streams_settle before between ready left (ends_of expires.ends) expires.accounted expires.no_more expires.bounded expires.limit refl refl (asking_kept expires.ends)
    (time_at c.set_now-now.result before between inside.clock now_is (latest_on c.set_now-now.result before between expires.begins)))
    (streams_settle between last left done (ends_of anew.ends) anew.accounted anew.no_more anew.bounded anew.limit refl refl (asking_kept anew.ends) (time_at c.set_now-now.result between last inside.clock now_is c.begin_anew.ensures.latest))))

pub returns-clause-early : goal.returns-clause-early
returns-clause-early g c =
    let now = rw (← c.self.view_is) at c.set_now-now.ensures.now in
    let early = subst (λ (now : ℕ). EarlyGoOn 2000 now c.args.questions.now c.expire.new.self) now c.expire.ensures.early in
    (c.expire.new.self, early, c.begin_anew.ensures.joins_none)

pub returns-clause-reported : goal.returns-clause-reported
returns-clause-reported g c = rw (← c.self.view_is) at c.set_now-now.ensures.reported
