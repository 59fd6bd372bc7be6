use Rattle.std.proofs.Common.{◌≡◌, take}
use Rattle.std.specs.Prelude.{fold}
use Rattle.history.specs.Changes.{no_tables}
use Rattle.undo_book.specs.Replayed.{tables_after_flagged}
use Rattle.undo_book.proofs.tables.replay_tables.Given as goal

-- the tables by the entries so far
abbrev pub invariant-loop-logged : goal.invariant-loop-logged
invariant-loop-logged l = l.tables ≡ fold (tables_after_flagged l.ticket l.struck) no_tables (take l.logged-index l.log.items)
