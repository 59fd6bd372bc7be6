use Rattle.std.proofs.Common.{◌+◌, ◌++◌, ◌∷◌, [], refl, sym, ap, ◌∙◌, arith}
use Rattle.history.specs.declared.event.Event.{Event}
use Rattle.history.specs.Counts.{counted_of}
use Rattle.undo_book.specs.Stored.{events_of}
use Rattle.undo_book.proofs.StoredLaws.{counted_forget, counted_push, counted_within, other_event}
use Rattle.undo_book.proofs.stored.stored_after.Goals as goal

pub overflow_add-result : goal.overflow_add-result
overflow_add-result c = omega (arith, c.requires.counted, counted_within c.args.log.now.items, c.requires.short)

pub overflow_sub-result : goal.overflow_sub-result
overflow_sub-result c =
    omega (arith, c.requires.counted, c.counted_at.ensures, counted_forget c.in-Forget.moment c.in-Forget.owner (events_of c.args.log.now.items))

pub returns-in-Admit : goal.returns-in-Admit
returns-in-Admit c =
    let events = events_of c.args.log.now.items in
    ap (λ n. n + 1) c.requires.counted
    ∙ sym (ap (λ (e : Event). counted_of (events ++ e ∷ [])) c.in-Admit.is ∙ counted_push events _ (λ name. refl))

pub returns-in-Forget : goal.returns-in-Forget
returns-in-Forget c =
    let events = events_of c.args.log.now.items in
    let same = ap (λ (e : Event). counted_of (events ++ e ∷ [])) c.in-Forget.is in
    omega (arith, same, c.requires.counted, c.counted_at.ensures, counted_forget c.in-Forget.moment c.in-Forget.owner events)

pub returns-in_default : goal.returns-in_default
returns-in_default c = c.requires.counted ∙ other_event (events_of c.args.log.now.items) c.args.event.now c.in_default.not-Admit c.in_default.not-Forget
