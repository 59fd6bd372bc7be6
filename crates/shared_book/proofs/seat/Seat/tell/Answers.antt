use Rattle.shared_book.proofs.CallLaws.{sweeps_on}
use Rattle.shared_book.proofs.seat.Seat.tell.Goals as goal

pub returns-in-Ok-clause-goes_on : goal.returns-in-Ok-clause-goes_on
returns-in-Ok-clause-goes_on g c =
    let b = g.B.Book in
    sweeps_on b.stands_for b.settings b.stored b.unswept g.L.CallLedger.settings c.args.self.now.is_thorough c.in-Ok.reply c.go_on.ensures
