-- What a plain book would show, if the command of one ticket had this flag.
use Rattle.std.specs.Prelude.{ℕ, max, Bool, Option, None, List, fold}
use Rattle.dns_text.specs.declared.record.Question.{Question}
use Rattle.ranked.specs.declared.find.Find.{Find}
use Rattle.ranked.specs.declared.cell.Admitted.{Admitted}
use Rattle.ranked.specs.declared.cell.Shown.{Shown}
use Rattle.ranked.specs.Cell.{shown_at}
use Rattle.local_zone.specs.Answer.{local_of}
use Rattle.history.specs.declared.event.Seen.{Seen}
use Rattle.history.specs.declared.tables.Tables.{Tables}
use Rattle.history.specs.Changes.{no_tables}
use Rattle.history.specs.Reply.{seen_by, seen_first}
use Rattle.undo_book.specs.declared.log.Logged.{Logged}
use Rattle.undo_book.specs.declared.plain_history.PlainPast.{PlainPast}
use Rattle.undo_book.specs.Plain.{cell_after_logged, with_flag}
use Rattle.undo_book.specs.Replayed.{tables_after_flagged}

-- a cell after an entry, if the command of this ticket has this flag
abbrev pub cell_after_flagged : Question → ℕ → Bool → Option (Admitted Find) → Logged → Option (Admitted Find)
cell_after_flagged question ticket struck cell logged = cell_after_logged question cell (with_flag ticket struck logged)

-- the cell of a question by such a log
abbrev pub cell_with : ℕ → Bool → List Logged → Question → Option (Admitted Find)
cell_with ticket struck log question = fold (cell_after_flagged question ticket struck) None log

-- what it shows at a moment
abbrev pub shows_with : PlainPast → ℕ → Bool → ℕ → Question → Option (Shown Find)
shows_with past ticket struck moment question = shown_at (cell_with ticket struck past.log.items question) (max past.moment moment)

-- the tables by such a log
abbrev pub tables_with : ℕ → Bool → List Logged → Tables
tables_with ticket struck log = fold (tables_after_flagged ticket struck) no_tables log

-- the answer to a question by such a log
abbrev pub answer_with : PlainPast → ℕ → Bool → Question → ℕ → Seen
answer_with past ticket struck question moment =
    seen_first (local_of (tables_with ticket struck past.log.items).local question) (seen_by (shows_with past ticket struck moment question))
