-- The command is done, and none of its table lies over it.
use Rattle.std.proofs.Common.{◌≡◌, ◌∙◌, ℕ, true, false, Option, Some, None, List, sym, ap}
use Rattle.history.specs.declared.event.Journalled.{Journalled}
use Rattle.history.specs.declared.event.Move.TheVariants as move
use Rattle.history.specs.Journal.{commands_of, is_among, over}
use Rattle.history.specs.PreviewLaws.{undo_of_buried, undo_of_not_kept}
use Rattle.undo_book.specs.PlainPast.{past_in}
use Rattle.undo_book.proofs.PreviewLaws.{tells_undo_of}
use Rattle.undo_book.proofs.preview.answer_without.Goals as goal

pub returns-then-not-contains : goal.returns-then-not-contains
returns-then-not-contains c =
    let past = c.args.past.now in
    let ticket = c.args.ticket in
    let out : is_among past.marks.done.items ticket ≡ false = ap (λ (l : List ℕ). is_among l ticket) (sym c.deref.ensures.value) ∙ sym c.if-not-contains.ensures.value in
    undo_of_not_kept past.settings.journal (past_in past) c.args.moment c.args.question.now ticket out

pub returns-in-Some : goal.returns-in-Some
returns-in-Some c =
    let past = c.args.past.now in
    let ticket = c.args.ticket in
    let there : is_among past.marks.done.items ticket ≡ true = ap (λ (l : List ℕ). is_among l ticket) (sym c.deref.ensures.value) ∙ sym c.if-not-contains.ensures.value in
    let by : over (commands_of (past_in past)) ticket ≡ Some c.in-Some.other
    = ap (λ (l : List Journalled). over l ticket) (sym (c.deref-2.ensures.value ∙ c.in_ok-commands.ensures)) ∙ (sym c.over.ensures ∙ c.in-Some.is) in
    undo_of_buried past.settings.journal (past_in past) c.args.moment c.args.question.now ticket c.in-Some.other there by

pub returns : goal.returns
returns c =
    let past = c.args.past.now in
    let ticket = c.args.ticket in
    let there : is_among past.marks.done.items ticket ≡ true = ap (λ (l : List ℕ). is_among l ticket) (sym c.deref.ensures.value) ∙ sym c.if-not-contains.ensures.value in
    let none : over (commands_of (past_in past)) ticket ≡ None
    = ap (λ (l : List Journalled). over l ticket) (sym (c.deref-2.ensures.value ∙ c.in_ok-commands.ensures)) ∙ (sym c.over.ensures ∙ c.in-None.is) in
    tells_undo_of past (move.UndoOf ticket) c.args.question.now c.args.moment ticket c.answer_with.result there none c.answer_with.ensures
