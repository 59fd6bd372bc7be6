use Rattle.std.proofs.Common.{Err, ap}
use Rattle.history.specs.declared.book.StepFault.{StepFault}
use Rattle.shared_book.proofs.RecordLaws.{only_memory, untimely}
use Rattle.shared_book.proofs.opening.take_in.Goals as goal

pub only_memory-requires : goal.only_memory-requires
only_memory-requires g c =
    let some = c.requires.some in
    only_memory (Unit {0}) (g.B.Book.settings c.args.opening.now) some.0 c.args.event c.in-Err.fault c.requires.lags (c.requires.timely some.0 some.1) (c.in-Err.ensures.answers some.0 some.1)

-- Only want of memory refuses the event, and an event that is free meets none.
pub returns-in-Err-clause-free : goal.returns-in-Err-clause-free
returns-in-Err-clause-free g c = λ free.
    let some = c.requires.some in
    let lack = only_memory (Unit {0}) (g.B.Book.settings c.args.opening.now) some.0 c.args.event c.in-Err.fault c.requires.lags (c.requires.timely some.0 some.1) (c.in-Err.ensures.answers some.0 some.1) in
    absurd (untimely {T = Unit {0}} c.in-Err.fault (c.in-Err.ensures.free free) (ap (λ (fault : StepFault). Err fault) lack))
