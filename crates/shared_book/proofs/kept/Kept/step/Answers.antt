-- An event that is not timely, or whose copies find no memory, changes nothing.
use Rattle.std.proofs.Common.{◌≡◌, Err, true, refl, subst, sym, ◌∙◌, inl, inr}
use Rattle.std.proofs.lemmas.Bool.{false≢true}
use Rattle.std.specs.Prelude.{IsErrOf}
use Rattle.history.specs.declared.book.StepFault.TheVariants.{NoMemory}
use Rattle.history.specs.declared.event.Event.{Event}
use Rattle.history.specs.Answers.{IsTimely}
use Rattle.history.specs.Event.{is_plain}
use Rattle.shared_book.specs.Kept.{IsFreeCall, IsStep}
use Rattle.shared_book.proofs.RecordLaws.{untimely}
use Rattle.shared_book.proofs.kept.Kept.step.Goals as goal

pub take-requires-clause-timely : goal.take-requires-clause-timely
take-requires-clause-timely g c = subst (λ (e : Event). IsTimely c.args.self.now.total e) (c.get.ensures ∙ sym (c.in-Ok-copies.ensures.first ∙ c.get-2.ensures)) c.in-Ok.ensures.ok

pub returns-in-Ok-copies-clause-step : goal.returns-in-Ok-copies-clause-step
returns-in-Ok-copies-clause-step g c =
    let b = g.B.Book in
    inr (subst (λ (e : Event). IsStep b.stands_for b.settings b.stored c.args.self.now c.args.pass.now e c.take.result c.take.new.self c.take.new.pass) (c.in-Ok-copies.ensures.first ∙ c.get-2.ensures) c.take.ensures.step)

pub returns-in-Err-clause-step : goal.returns-in-Err-clause-step
returns-in-Err-clause-step g c =
    let b = g.B.Book in
    let before = c.args.self.now in
    let pass = c.args.pass.now in
    inr (subst (λ (e : Event). IsStep b.stands_for b.settings b.stored before pass e (Err c.in-Err.fault) before pass) c.get.ensures (c.in-Err.ensures.err pass))

pub returns-clause-step : goal.returns-clause-step
returns-clause-step g c = inl (
  λ plain. false≢true (c.in-Err-copies.ensures.plain (subst (λ (e : Event). is_plain e ≡ true) (sym c.get-2.ensures) plain)),
  record { timely = subst (λ (e : Event). IsTimely c.args.self.now.total e) c.get.ensures c.in-Ok.ensures.ok; told = refl; same = refl; same_pass = refl },
)

pub returns-in-Ok-copies-clause-free : goal.returns-in-Ok-copies-clause-free
returns-in-Ok-copies-clause-free g c =
    let b = g.B.Book in
    subst (λ (e : Event). IsFreeCall b.is_free c.args.self.now e → ¬ (IsErrOf c.take.result NoMemory)) (c.in-Ok-copies.ensures.first ∙ c.get-2.ensures) c.take.ensures.free

pub returns-in-Err-clause-free : goal.returns-in-Err-clause-free
returns-in-Err-clause-free g c = λ free. untimely c.in-Err.fault c.in-Err.ensures.untimely

-- An event that is but a moment and a ticket is copied without memory.
pub returns-clause-free : goal.returns-clause-free
returns-clause-free g c = λ free. absurd (false≢true (c.in-Err-copies.ensures.plain (subst (λ (e : Event). is_plain e ≡ true) (sym c.get-2.ensures) free.plain)))
