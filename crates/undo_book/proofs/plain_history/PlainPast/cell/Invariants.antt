use Rattle.std.proofs.Common.{◌≡◌, None, take}
use Rattle.std.specs.Prelude.{fold}
use Rattle.undo_book.specs.Index.{cell_after_indexed}
use Rattle.undo_book.specs.Plain.{content_of, question_of}
use Rattle.undo_book.proofs.plain_history.PlainPast.cell.Given as goal

-- the cell by what the index has named so far
abbrev pub invariant-loop-indexed : goal.invariant-loop-indexed
invariant-loop-indexed l =
    content_of l.cell.0 ≡ fold (cell_after_indexed (question_of l.owner l.kind) l.self.log.items) None (take l.indexed-index l.self.index.items)
