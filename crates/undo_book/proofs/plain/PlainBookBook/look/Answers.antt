-- The tables are those of the history, and so is each cell.
use Rattle.std.proofs.Common.{ap, ◌∙◌}
use Rattle.local_zone.specs.Answer.{local_of}
use Rattle.history.specs.declared.tables.Tables.{Tables}
use Rattle.history.specs.Cells.{shows}
use Rattle.history.specs.History.{Past, tables_of}
use Rattle.undo_book.specs.PlainPast.{past_in}
use Rattle.history.specs.Reply.{seen_by, seen_first}
use Rattle.undo_book.proofs.plain.PlainBookBook.look.Goals as goal

pub returns : goal.returns
returns c = λ h is.
    let book = c.args.self.now in
    let question = c.args.question.now in
    let moment = c.args.moment in
    c.question_sight.ensures
    ∙ ap (λ (t : Tables). seen_first (local_of t.local question) (seen_by (shows (past_in book.past) question moment))) book.tabled
    ∙ ap (λ (past : Past). seen_first (local_of (tables_of past).local question) (seen_by (shows past question moment))) is
