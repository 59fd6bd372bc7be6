use Rattle.std.proofs.Common.{arith, refl}
use Rattle.front_workers.proofs.Accounting.{latest_on, looked_on, time_at, worker_of}
use Rattle.front_workers.specs.Sockets.{asking_of}
use Rattle.front_workers.proofs.Outboxes.{asking_kept, ends_of}
use Rattle.front_workers.proofs.Posting.{endings_of}
use Rattle.front_workers.proofs.turns.Turns.relieve.Goals as goal

pub returns-clause-goes_on : goal.returns-clause-goes_on
returns-clause-goes_on g c =
    let inside = c.self.inside in
    let loses = c.relieve.ensures.loses_none 0 in
    let before = worker_of (asking_of inside.sockets) inside.taken inside.failures inside.sockets.outbox inside.sockets.counts inside.clock inside.events.inner.items in
    let after = worker_of (asking_of c.relieve.new.sockets) inside.taken inside.failures c.relieve.new.sockets.outbox c.relieve.new.sockets.counts inside.clock inside.events.inner.items in
    rw (← c.self.view_is) (looked_on c.args.questions.now c.relieve.new.self before after refl loses.accounted (endings_of (ends_of loses.ends)) loses.no_more loses.bounded loses.limit refl (asking_kept loses.ends)
    (time_at 0 c.args.questions.now c.relieve.new.self inside.clock (omega arith) (latest_on 0 c.args.questions.now c.relieve.new.self loses.begins)))

pub returns-clause-no_more : goal.returns-clause-no_more
returns-clause-no_more g c = (c.relieve.ensures.loses_none 0).no_more

pub returns-clause-takes_none : goal.returns-clause-takes_none
returns-clause-takes_none g c = rw (← c.self.view_is) (record { taken = refl; ends = endings_of (ends_of (c.relieve.ensures.loses_none 0).ends) })
