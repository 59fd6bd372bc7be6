use Rattle.std.proofs.Common.{◌≤◌, List, [], None, length, ap, ◌∙◌, subst}
use Rattle.std.specs.Prelude.{fold}
use Rattle.std.proofs.lemmas.List.{take_all}
use Rattle.history.specs.declared.event.Journalled.{Journalled}
use Rattle.history.specs.Journal.{tickets_of}
use Rattle.history.specs.OldestFound.{end_at}
use Rattle.undo_book.specs.declared.index.Indexed.{Indexed}
use Rattle.undo_book.specs.Ends.{scope_after_indexed, scope_after_logged}
use Rattle.undo_book.specs.PlainPast.{past_in}
use Rattle.undo_book.proofs.IndexLaws.{scope_by_index}
use Rattle.undo_book.proofs.EndsLaws.{scope_by_flags}
use Rattle.undo_book.proofs.scope_replay.scope_end.Goals as goal

pub returns : goal.returns
returns c =
    let book = c.args.past.now in
    let past = past_in book in
    let log = book.log.items in
    let owner = c.args.owner.now in
    let scope = c.args.scope in
    let own = c.args.own in
    let journal = tickets_of c.args.journal.now in
    let i = c.loop-indexed.indexed-index in
    let ended = subst (λ (l : List Indexed). length l ≤ i) c.deref-indexed-items.ensures.value c.loop-indexed-test.false in
    c.end_at.ensures
    ∙ ap (end_at c.args.moment)
    (c.loop-indexed.invariant
    ∙ ap (λ (l : List Indexed). fold (scope_after_indexed owner scope journal own log) None l) (take_all i book.index.items ended ∙ book.indexed)
    ∙ scope_by_index owner scope journal own [] log None
    ∙ ap (λ (held : List Journalled). fold (scope_after_logged owner scope (tickets_of held) own) None log) c.requires.journal
    ∙ scope_by_flags past owner scope own log None book.flagged)
