-- Local zones, records and stubs, by a log with flags.
use Rattle.std.specs.Prelude.{ℕ, Bool, true, false, not, List, fold, if◌then◌else◌}
use Rattle.history.specs.declared.tables.Tables.{Tables}
use Rattle.undo_book.specs.declared.log.Logged.{Logged}
use Rattle.history.specs.declared.event.Reply.{Reply}
use Rattle.history.specs.declared.event.Reply.TheVariants.{Undone, Redone}
use Rattle.history.specs.History.{stands_by}
use Rattle.history.specs.Changes.{no_tables, tables_after}
use Rattle.undo_book.specs.Plain.{with_flag}

-- the tables after an entry, if that is in force
abbrev pub tables_after_logged : Tables → Logged → Tables
tables_after_logged t logged = if stands_by (λ ticket. not logged.struck) logged.entry.event logged.entry.ticket then tables_after t logged.entry else t

-- the same, where the entry that took this ticket has this flag
abbrev pub tables_after_flagged : ℕ → Bool → Tables → Logged → Tables
tables_after_flagged ticket struck t logged = tables_after_logged t (with_flag ticket struck logged)

-- the tables after an undo or a redo that got this reply
abbrev pub tables_by_reply : Reply → List Logged → Tables → Tables
tables_by_reply (Undone ticket) log t = fold (tables_after_flagged ticket true) no_tables log
tables_by_reply (Redone ticket) log t = fold (tables_after_flagged ticket false) no_tables log
tables_by_reply reply log t = t
