-- Why an event is not timely.
use Rattle.std.proofs.Common.{arith}
use Rattle.shared_book.proofs.RecordLaws.{count_ended, too_late}
use Rattle.shared_book.proofs.kept.Kept.timely.Goals as goal

pub returns-then-moment-ge-MOMENT_END-clause-err : goal.returns-then-moment-ge-MOMENT_END-clause-err
returns-then-moment-ge-MOMENT_END-clause-err g c = λ pass.
    let b = g.B.Book in
    too_late b.stands_for b.settings b.stored c.args.self.now pass c.args.event.now (omega (arith, c.if-moment-ge-MOMENT_END.true, c.moment.ensures))

pub returns-then-self-clause-err : goal.returns-then-self-clause-err
returns-then-self-clause-err g c =
    let b = g.B.Book in
    rw (← c.self.view_is) (λ pass. count_ended b.stands_for b.settings b.stored g.met.B.Book.one_count _ c.self.invariant.2 pass c.args.event.now
    (omega (arith, c.if-moment-ge-MOMENT_END.false, c.moment.ensures)) (omega (arith, c.if-self.true)))
