-- The command is done, and none of its table lies over it.
use Rattle.std.proofs.Common.{◌≡◌, ◌∙◌, ℕ, Bool, true, Option, None, List, sym, ap}
use Rattle.history.specs.declared.event.Journalled.{Journalled}
use Rattle.history.specs.Journal.{commands_of, is_among, over}
use Rattle.history.specs.Reply.{reply_to_undo_of}
use Rattle.undo_book.specs.PlainPast.{past_in}
use Rattle.undo_book.proofs.replies.reply_to_undo_of.Goals as goal

pub returns-clause-told : goal.returns-clause-told
returns-clause-told c =
    let ticket = c.args.ticket in
    let commands : List Journalled = commands_of (past_in c.args.past.now) in
    let there : is_among c.args.past.now.marks.done.items ticket ≡ true
    = ap (λ (l : List ℕ). is_among l ticket) (sym c.deref.ensures.value) ∙ sym c.if-not-contains.ensures.value in
    let none : over commands ticket ≡ None
    = ap (λ (l : List Journalled). over l ticket) (sym (c.deref-2.ensures.value ∙ c.in_ok-commands.ensures)) ∙ (sym c.over.ensures ∙ c.in-None.is) in
    sym (ap (λ (b : Bool). reply_to_undo_of b (over commands ticket) ticket) there ∙ ap (λ (o : Option ℕ). reply_to_undo_of true o ticket) none)
