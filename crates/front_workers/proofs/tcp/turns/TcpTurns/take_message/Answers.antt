use Rattle.std.proofs.Common.{arith, refl}
use Rattle.front_workers.specs.Sockets.{asking_of}
use Rattle.front_workers.proofs.Flowing.{message_begins, stream_of, streams_begin, streams_tend}
use Rattle.front_workers.proofs.tcp.turns.TcpTurns.take_message.Goals as goal

pub returns-in-Nothing-clause-goes_on : goal.returns-in-Nothing-clause-goes_on
returns-in-Nothing-clause-goes_on g c = rw (← c.self.view_is) (streams_tend _ _ _ (rw c.in-Nothing.is at c.take_message.ensures) refl refl refl refl (omega arith))

pub returns-in-More-clause-goes_on : goal.returns-in-More-clause-goes_on
returns-in-More-clause-goes_on g c = rw (← c.self.view_is) (streams_tend _ _ _ (rw c.in-More.is at c.take_message.ensures) refl refl refl refl (omega arith))

pub returns-in-Message-clause-goes_on : goal.returns-in-Message-clause-goes_on
returns-in-Message-clause-goes_on g c =
    let inside = c.self.inside in
    let took = rw c.in-Message.is at c.take_message.ensures in
    let old = stream_of (asking_of inside.sockets) inside.taken inside.failures inside.sockets.outbox inside.sockets.counts inside.clock inside.events.inner.items in
    let mid = stream_of (asking_of inside.sockets) inside.taken inside.failures c.take_message.new.self inside.sockets.counts inside.clock inside.events.inner.items in
    let made = c.new-client.ensures in
    let begins = message_begins c.new-client.result _ _ _ _ _ _ old mid c.begin.new.self made.key made.serial made.network made.message took refl c.begin.ensures.ends in
    rw (← c.self.view_is) (streams_begin c.args.questions.now c.begin.new.questions old mid c.begin.new.self refl refl refl refl refl begins.0 begins.1)

pub returns-in-Message-clause-reported : goal.returns-in-Message-clause-reported
returns-in-Message-clause-reported g c = rw (← c.self.view_is) c.begin.ensures.reported
