use Rattle.std.proofs.Common.{◌≡◌, ◌∙◌, ℕ, Option, Some, List, sym, ap}
use Rattle.std.proofs.lemmas.Result.{IfOk-weaker}
use Rattle.history.specs.declared.event.Journalled.{Journalled}
use Rattle.history.specs.Journal.{command_at, command_of, commands_of}
use Rattle.history.specs.Marks.{last_of}
use Rattle.history.specs.Reply.{next_seen}
use Rattle.undo_book.specs.PlainPast.{past_in}
use Rattle.undo_book.proofs.preview.next_undo.Goals as goal

pub returns-in_ok-commands-in-Some : goal.returns-in_ok-commands-in-Some
returns-in_ok-commands-in-Some c =
    let past = c.args.past.now in
    let last : last_of past.marks.done.items ≡ Some c.in-Some.ticket = sym c.in-Some.ensures in
    IfOk-weaker c.seen_command.result _ _
    (λ seen is.
    is ∙ ap (λ (l : List Journalled). next_seen (command_at l c.in-Some.ticket)) (c.deref.ensures.value ∙ c.in_ok-commands-in-Some.ensures)
    ∙ sym (ap (λ (o : Option ℕ). next_seen (command_of (commands_of (past_in past)) o)) last))
    c.seen_command.ensures
