use Rattle.std.proofs.Common.{◌≤◌, List, [], None, length, ap, ◌∙◌, subst}
use Rattle.std.specs.Prelude.{fold}
use Rattle.std.proofs.lemmas.List.{take_all}
use Rattle.dns_text.specs.declared.record.Question.{Question}
use Rattle.undo_book.specs.declared.index.Indexed.{Indexed}
use Rattle.undo_book.specs.Index.{cell_after_indexed}
use Rattle.undo_book.specs.Plain.{marks_in}
use Rattle.undo_book.proofs.IndexLaws.{by_index}
use Rattle.undo_book.proofs.PlainLaws.{cell_by_flags}
use Rattle.undo_book.proofs.plain_history.PlainPast.cell.Goals as goal

pub returns : goal.returns
returns c =
    let book = c.args.self.now in
    let question : Question = record { owner = c.args.owner.now; kind = c.args.kind } in
    let ended = subst (λ (l : List Indexed). length l ≤ c.loop-indexed.indexed-index) c.deref-indexed-items.ensures.value c.loop-indexed-test.false in
    c.loop-indexed.invariant
    ∙ ap (λ (l : List Indexed). fold (cell_after_indexed question book.log.items) None l) (take_all c.loop-indexed.indexed-index book.index.items ended ∙ book.indexed)
    ∙ by_index question [] book.log.items None
    ∙ cell_by_flags question (marks_in book.marks) book.log.items None book.flagged
