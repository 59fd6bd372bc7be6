use Rattle.std.proofs.Common.{ap, refl, inl}
use Rattle.std.proofs.lemmas.Bool.{false≢true}
use Rattle.shared_book.specs.Pass.{PassState}
use Rattle.shared_book.proofs.CallLaws.{seat_call}
use Rattle.shared_book.proofs.seat.Seat.look_soon.Goals as goal

-- Only an event that is more than a moment and a ticket may find no memory for its copy.
pub returns-in-Err-clause-called : goal.returns-in-Err-clause-called
returns-in-Err-clause-called g c = (refl, tt, inl (λ plain. false≢true (c.in-Err.ensures.plain plain), refl))

pub returns-in-Some-clause-called : goal.returns-in-Some-clause-called
returns-in-Some-clause-called g c =
    let b = g.B.Book in
    let looked = c.in-Some.ensures in
    seat_call b.stands_for b.settings b.stored b.is_free g.L.CallLedger.settings c.args.self.now.pass c.look_soon.new.pass c.args.event c.in-Some.answer c.tell.result
    c.tell.ensures.told looked.ok looked.err looked.locked

pub returns-in-None-clause-put_off : goal.returns-in-None-clause-put_off
returns-in-None-clause-put_off g c = (c.requires.oldest, c.in-None.ensures.turn)

pub returns-in-None-clause-same : goal.returns-in-None-clause-same
returns-in-None-clause-same g c = ap (λ (pass : PassState). record c.args.self.now { pass = pass }) c.in-None.ensures.same_pass
