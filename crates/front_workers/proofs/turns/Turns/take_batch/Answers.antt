use Rattle.std.proofs.Common.{arith, refl}
use Rattle.front_workers.proofs.Accounting.{gone_on, received, stayed, worker_of}
use Rattle.front_workers.specs.Sockets.{asking_of}
use Rattle.front_workers.proofs.Beginning.{batch_begins}
use Rattle.front_workers.proofs.Posting.{endings_none}
use Rattle.front.proofs.Sending.{posts_none}
use Rattle.front_workers.proofs.turns.Turns.take_batch.Goals as goal

pub returns-clause-goes_on : goal.returns-clause-goes_on
returns-clause-goes_on g c =
    let inside = c.self.inside in
    let took = c.receive-received.ensures in
    let with = c.receive-received.new.self in
    let got = worker_of (asking_of with) inside.taken inside.failures with.outbox with.counts inside.clock inside.events.inner.items in
    let ready = worker_of (asking_of c.set_now.new.self) inside.taken inside.failures c.set_now.new.self.outbox c.set_now.new.self.counts inside.clock inside.events.inner.items in
    let begun = rw (← c.self-2.view_is) at c.begin_each.ensures.goes_on in
    rw (← c.self.view_is) (gone_on _ _ _ _ got _ (received _ _ got _ took.took took.waiting refl took.counts refl took.asks (omega arith))
    (gone_on _ _ _ got ready _ (stayed _ got ready (endings_none (posts_none c.set_now.ensures.kept) refl) refl c.set_now.ensures.counts refl c.set_now.ensures.asks (omega arith))
    (gone_on _ _ _ ready _ _ begun (stayed _ _ _ (endings_none c.flush.ensures.posts refl) refl c.flush.ensures.counts refl c.flush.ensures.asks (omega arith)))))

pub returns-in_err-received-clause-goes_on : goal.returns-in_err-received-clause-goes_on
returns-in_err-received-clause-goes_on g c =
    let inside = c.self.inside in
    let took = c.receive-received.ensures in
    let with = c.receive-received.new.self in
    let got = worker_of (asking_of with) inside.taken inside.failures with.outbox with.counts inside.clock inside.events.inner.items in
    let ready = worker_of (asking_of c.set_now.new.self) inside.taken inside.failures c.set_now.new.self.outbox c.set_now.new.self.counts inside.clock inside.events.inner.items in
    let begun = rw (← c.self-2.view_is) at c.begin_each.ensures.goes_on in
    rw (← c.self.view_is) (gone_on _ _ _ _ got _ (received _ _ got _ took.took took.waiting refl took.counts refl took.asks (omega arith))
    (gone_on _ _ _ got ready _ (stayed _ got ready (endings_none (posts_none c.set_now.ensures.kept) refl) refl c.set_now.ensures.counts refl c.set_now.ensures.asks (omega arith))
    (gone_on _ _ _ ready _ _ begun (stayed _ _ _ (endings_none c.flush.ensures.posts refl) refl c.flush.ensures.counts refl c.flush.ensures.asks (omega arith)))))

pub returns-in_err-received-clause-begun : goal.returns-in_err-received-clause-begun
returns-in_err-received-clause-begun g c =
    let inside = c.self.inside in
    let took = c.receive-received.ensures in
    let ready = worker_of (asking_of c.set_now.new.self) inside.taken inside.failures c.set_now.new.self.outbox c.set_now.new.self.counts inside.clock inside.events.inner.items in
    let begun = rw (← c.self-2.view_is) at c.begin_each.ensures.begin in
    rw (← c.self.view_is) (batch_begins ready _ (rw c.set_now.ensures.kept took.took) (rw c.set_now.ensures.kept took.waiting) refl (rw c.set_now.ensures.counts took.counts) begun refl c.flush.ensures.counts c.flush.ensures.posts)

pub returns-clause-begun : goal.returns-clause-begun
returns-clause-begun g c =
    let inside = c.self.inside in
    let took = c.receive-received.ensures in
    let ready = worker_of (asking_of c.set_now.new.self) inside.taken inside.failures c.set_now.new.self.outbox c.set_now.new.self.counts inside.clock inside.events.inner.items in
    let begun = rw (← c.self-2.view_is) at c.begin_each.ensures.begin in
    rw (← c.self.view_is) (batch_begins ready _ (rw c.set_now.ensures.kept took.took) (rw c.set_now.ensures.kept took.waiting) refl (rw c.set_now.ensures.counts took.counts) begun refl c.flush.ensures.counts c.flush.ensures.posts)
