use Rattle.std.proofs.Common.{◌≡◌, None, take}
use Rattle.std.specs.Prelude.{fold}
use Rattle.history.specs.Journal.{tickets_of}
use Rattle.undo_book.specs.Ends.{scope_after_indexed}
use Rattle.undo_book.specs.Plain.{content_of}
use Rattle.undo_book.proofs.scope_replay.scope_end.Given as goal

-- the cell by what the index has named so far
abbrev pub invariant-loop-indexed : goal.invariant-loop-indexed
invariant-loop-indexed l =
    content_of l.cell.held ≡ fold (scope_after_indexed l.replay.owner.now l.replay.scope (tickets_of l.replay.journal.now) l.replay.own l.past.log.items) None (take l.indexed-index l.past.index.items)
