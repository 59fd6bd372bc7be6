-- Only an event that is more than a moment and a ticket may find no memory for its copies.
use Rattle.std.proofs.Common.{◌≡◌, true, inl, refl, subst, sym}
use Rattle.std.proofs.lemmas.Bool.{false≢true}
use Rattle.history.specs.declared.event.Event.{Event}
use Rattle.history.specs.Event.{is_plain}
use Rattle.shared_book.proofs.shared.SharedBook.call.Goals as goal

pub returns-in-Err-clause-shared : goal.returns-in-Err-clause-shared
returns-in-Err-clause-shared g c = inl (λ plain. false≢true (c.in-Err.ensures.plain (subst (λ (e : Event). is_plain e ≡ true) (sym c.get.ensures) plain)), refl)
