use Rattle.std.proofs.Common.{◌≡◌, None, take}
use Rattle.std.specs.Prelude.{fold}
use Rattle.undo_book.specs.Plain.{content_of, question_of}
use Rattle.undo_book.specs.Preview.{cell_after_flagged}
use Rattle.undo_book.proofs.preview.replay_cell.Given as goal

-- the cell by the entries so far
abbrev pub invariant-loop-logged : goal.invariant-loop-logged
invariant-loop-logged l =
    content_of l.cell.0 ≡ fold (cell_after_flagged (question_of l.owner l.kind) l.ticket l.struck) None (take l.logged-index l.log.items)
