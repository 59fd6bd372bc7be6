use Rattle.std.proofs.Common.{◌∙◌, ap}
use Rattle.std.proofs.lemmas.Result.{IfOk-weaker}
use Rattle.local_zone.specs.Answer.{local_of}
use Rattle.history.specs.declared.tables.Tables.{Tables}
use Rattle.history.specs.Reply.{seen_by, seen_first}
use Rattle.undo_book.specs.Preview.{shows_with}
use Rattle.undo_book.proofs.preview.answer_with.Goals as goal

pub returns : goal.returns
returns c =
    let q = c.args.question.now in
    IfOk-weaker c.to_seen.result _ _ (λ seen is.
    is ∙ c.question_sight.ensures
    ∙ ap (λ (t : Tables). seen_first (local_of t.local q) (seen_by (shows_with c.args.past.now c.args.ticket c.args.struck c.args.moment q))) c.in_ok-tables.ensures)
    c.to_seen.ensures
