use Rattle.shared_book.proofs.seat.Seat.call_soon.Goals as goal

pub returns-clause-called : goal.returns-clause-called
returns-clause-called g c = c.call.ensures.0

pub returns-clause-goes_on : goal.returns-clause-goes_on
returns-clause-goes_on g c = c.call.ensures.1
