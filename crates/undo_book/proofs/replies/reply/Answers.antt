-- The tables that each reply leaves are those of the history with the event.
use Rattle.std.proofs.Common.{◌≡◌, ℕ, sym, ◌∙◌, ap}
use Rattle.std.specs.Prelude.{OnOk}
use Rattle.std.proofs.lemmas.Result.{on_ok_weaker}
use Rattle.history.specs.declared.tables.Tables.{Tables}
use Rattle.history.specs.declared.event.Event.{Event}
use Rattle.history.specs.declared.event.Event.TheVariants.{Do, Undo, Redo, UndoOf, RedoOf}
use Rattle.history.specs.declared.event.Reply.{Reply}
use Rattle.history.specs.Changes.{reason_on, unless_refused}
use Rattle.history.specs.History.{Past, followed_by, tables_of}
use Rattle.history.specs.Marks.{last_of}
use Rattle.undo_book.specs.PlainPast.{past_in}
use Rattle.undo_book.specs.Replayed.{tables_by_reply}
use Rattle.history.specs.Journal.{commands_of, is_among, over, under}
use Rattle.history.specs.Reply.{reply_to_redo, reply_to_redo_of, reply_to_undo, reply_to_undo_of}
use Rattle.undo_book.specs.declared.log.Logged.{Logged}
use Rattle.std.specs.Prelude.{List, Result, Ok, Err, IfOk}
use Rattle.undo_book.proofs.TablesLaws.{tables_commanded, tables_redone, tables_redone_of, tables_undone, tables_undone_of}
use Rattle.undo_book.proofs.replies.reply.Goals as goal

-- what a reply leaves, where the reply is known
by_reply : {E : Type 0} (r : Result Reply E) (reply : Reply) (log : List Logged) (before after : Tables) → IfOk r (λ told. told ≡ reply) → IfOk r (λ told. after ≡ tables_by_reply told log before) → OnOk r (after ≡ tables_by_reply reply log before)
by_reply (Ok told) reply log before after is left = left ∙ ap (λ (r : Reply). tables_by_reply r log before) is
by_reply (Err e) reply log before after is left = tt

-- such a reply leaves the tables of the history with its event
by_event : {E : Type 0} (r : Result Reply E) (reply : Reply) (log : List Logged) (bound : ℕ) (past : Past) (event known : Event) (before new : Tables) → event ≡ known
    → tables_of (followed_by bound past known) ≡ tables_by_reply reply log (tables_of past) → before ≡ tables_of past
    → IfOk r (λ told. told ≡ reply) → IfOk r (λ told. new ≡ tables_by_reply told log before) → OnOk r (new ≡ tables_of (followed_by bound past event))
by_event r reply log bound past event known before new is after tabled told changed =
    on_ok_weaker r (λ left. left ∙ ap (λ (t : Tables). tables_by_reply reply log t) tabled ∙ sym after ∙ sym (ap (λ (e : Event). tables_of (followed_by bound past e)) is))
    (by_reply r reply log before new told changed)

pub returns-in-Do-clause-tabled : goal.returns-in-Do-clause-tabled
returns-in-Do-clause-tabled c =
    let past : Past = past_in c.args.past.now in
    let bound = c.args.past.now.settings.journal in
    let command = c.in-Do.command in
    let after = tables_commanded bound past c.in-Do.moment command c.args.past.now.in_one in
    let event : followed_by bound past c.args.event.now ≡ followed_by bound past (Do c.in-Do.moment command) = ap (followed_by bound past) c.in-Do.is in
    on_ok_weaker c.reply_to_command.result
    (λ changed. changed ∙ ap (λ (t : Tables). unless_refused (reason_on t command) command t) c.requires.tabled ∙ sym after ∙ sym (ap tables_of event))
    c.reply_to_command.ensures.changed

pub returns-in-Undo-clause-tabled : goal.returns-in-Undo-clause-tabled
returns-in-Undo-clause-tabled c =
    let past : Past = past_in c.args.past.now in
    let log = c.args.past.now.log.items in
    let m = c.in-Undo.moment in
    by_event c.reply_to_undo.result (reply_to_undo (last_of past.marks.done)) log c.args.past.now.settings.journal past c.args.event.now (Undo m) _ _ c.in-Undo.is
    (tables_undone c.args.past.now.settings.journal past.now m past.marks log c.args.past.now.flagged) c.requires.tabled c.reply_to_undo.ensures.told c.reply_to_undo.ensures.changed

pub returns-in-Redo-clause-tabled : goal.returns-in-Redo-clause-tabled
returns-in-Redo-clause-tabled c =
    let past : Past = past_in c.args.past.now in
    let log = c.args.past.now.log.items in
    let m = c.in-Redo.moment in
    by_event c.reply_to_redo.result (reply_to_redo (last_of past.marks.undone)) log c.args.past.now.settings.journal past c.args.event.now (Redo m) _ _ c.in-Redo.is
    (tables_redone c.args.past.now.settings.journal past.now m past.marks log c.args.past.now.flagged) c.requires.tabled c.reply_to_redo.ensures.told c.reply_to_redo.ensures.changed

pub returns-in-UndoOf-clause-tabled : goal.returns-in-UndoOf-clause-tabled
returns-in-UndoOf-clause-tabled c =
    let past : Past = past_in c.args.past.now in
    let log = c.args.past.now.log.items in
    let m = c.in-UndoOf.moment in
    let t = c.in-UndoOf.ticket in
    by_event c.reply_to_undo_of.result (reply_to_undo_of (is_among past.marks.done t) (over (commands_of past) t) t) log c.args.past.now.settings.journal past c.args.event.now (UndoOf m t) _ _ c.in-UndoOf.is
    (tables_undone_of c.args.past.now.settings.journal past.now m t past.marks log c.args.past.now.flagged) c.requires.tabled c.reply_to_undo_of.ensures.told c.reply_to_undo_of.ensures.changed

pub returns-in-RedoOf-clause-tabled : goal.returns-in-RedoOf-clause-tabled
returns-in-RedoOf-clause-tabled c =
    let past : Past = past_in c.args.past.now in
    let log = c.args.past.now.log.items in
    let m = c.in-RedoOf.moment in
    let t = c.in-RedoOf.ticket in
    by_event c.reply_to_redo_of.result (reply_to_redo_of (is_among past.marks.undone t) (under (commands_of past) t) t) log c.args.past.now.settings.journal past c.args.event.now (RedoOf m t) _ _ c.in-RedoOf.is
    (tables_redone_of c.args.past.now.settings.journal past.now m t past.marks log c.args.past.now.flagged) c.requires.tabled c.reply_to_redo_of.ensures.told c.reply_to_redo_of.ensures.changed
