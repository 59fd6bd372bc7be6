use Rattle.std.proofs.Common.{sym, subst}
use Rattle.history.specs.Desk.{IsStep}
use Rattle.history.specs.declared.event.Event.{Event}
use Rattle.shared_book.specs.Told.{answer_told}
use Rattle.shared_book.proofs.next_reply.tell_silent.Goals as goal

pub returns-in-Sweep-clause-step : goal.returns-in-Sweep-clause-step
returns-in-Sweep-clause-step g c =
    let b = g.B.Book in
    subst (λ (e : Event). IsStep b.stands_for b.settings b.stored c.args.book.now e (answer_told c.tell_swept.result) c.tell_swept.new.book) (sym c.in-Sweep.is) c.tell_swept.ensures.step

pub returns-in-Sweep-clause-free : goal.returns-in-Sweep-clause-free
returns-in-Sweep-clause-free g c = λ free. c.tell_swept.ensures.free (subst (λ (e : Event). g.B.Book.is_free c.args.book.now e) c.in-Sweep.is free)
