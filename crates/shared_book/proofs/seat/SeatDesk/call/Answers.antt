-- A caller without a receipt knows what a receipt would say.
use Rattle.std.proofs.Common.{refl, inl}
use Rattle.std.proofs.lemmas.Bool.{false≢true}
use Rattle.shared_book.proofs.CallLaws.{seat_call}
use Rattle.shared_book.proofs.seat.SeatDesk.call.Goals as goal

pub returns : goal.returns
returns g c =
    let b = g.B.Book in
    let stepped = c.step-answer.ensures in (
      seat_call b.stands_for b.settings b.stored b.is_free g.L.CallLedger.settings c.args.self.now.pass c.step-answer.new.pass c.args.event c.step-answer.result c.tell.result
          c.tell.ensures.told stepped.ok stepped.err stepped.locked,
      c.tell.ensures.goes_on,
    )

-- Only an event that is more than a moment and a ticket may find no memory for its copy.
pub returns-in-Err : goal.returns-in-Err
returns-in-Err g c = ((refl, tt, inl (λ plain. false≢true (c.in-Err.ensures.plain plain), refl)), tt)
