use Rattle.shared_book.proofs.CallLaws.{locked, replied, refused}
use Rattle.shared_book.proofs.lock.LockHold.call.Goals as goal

pub returns-clause-ok : goal.returns-clause-ok
returns-clause-ok g c =
    let b = g.B.Book in
    replied b.stands_for b.settings b.stored g.L.CallLedger.settings c.deref_mut.result.now c.call.new.self c.args.pass.now c.call.new.pass c.args.event c.call.result
    c.call.ensures.there c.call.ensures.call

pub returns-clause-err : goal.returns-clause-err
returns-clause-err g c =
    let b = g.B.Book in
    refused b.stands_for b.settings b.stored g.L.CallLedger.settings c.deref_mut.result.now c.call.new.self c.args.pass.now c.call.new.pass c.args.event c.call.result
    c.call.ensures.there c.call.ensures.call

pub returns-clause-locked : goal.returns-clause-locked
returns-clause-locked g c =
    let b = g.B.Book in
    locked b.stands_for b.settings b.stored b.is_free g.L.CallLedger.settings c.deref_mut.result.now c.call.new.self c.args.pass.now c.call.new.pass c.args.event c.call.result
    c.call.ensures.there c.call.ensures.call c.call.ensures.free c.call.ensures.own
