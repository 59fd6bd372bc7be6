-- A change of the tables moves the answer of local zones, and a flush what the cache shows.
use Rattle.std.proofs.Common.{◌∙◌, ap}
use Rattle.std.proofs.lemmas.Result.{IfOk-weaker}
use Rattle.local_zone.specs.Answer.{local_of}
use Rattle.history.specs.declared.tables.Tables.{Tables}
use Rattle.history.specs.Reply.{seen_by, seen_first}
use Rattle.store.specs.World.{shows_over}
use Rattle.store.specs.StoreLaws.{table_can_turn}
use Rattle.store.proofs.OverLaws.{flush_over, table_over}
use Rattle.store.proofs.book.StoreBookWorld.answer_over.Goals as goal

pub answer_over-requires : goal.answer_over-requires
answer_over-requires c = (c.requires.0, table_can_turn c.args.self.now c.requires.0 c.args.saved.now c.in-Table.saved c.in-Table.is c.requires.1)

pub returns-in_ok-answer-in-Table : goal.returns-in_ok-answer-in-Table
returns-in_ok-answer-in-Table c =
    IfOk-weaker c.sight_beside.result _ _
    (λ seen is. table_over c.args.self.now c.args.saved.now c.args.question.now c.args.moment seen c.in-Table.saved c.in-Table.is c.in_ok-answer-in-Table.answer is c.in_ok-answer-in-Table.ensures)
    c.sight_beside.ensures

pub returns-in-Flush : goal.returns-in-Flush
returns-in-Flush c =
    let x = c.args.self.now in
    let q = c.args.question.now in
    let s = c.in-Flush.saved in
    IfOk-weaker c.to_seen.result _ _
    (λ seen is.
    flush_over x c.args.saved.now q c.args.moment seen s c.in-Flush.is
    (is ∙ c.question_sight.ensures ∙ ap (λ (t : Tables). seen_first (local_of t.local q) (seen_by (shows_over x.cells s c.args.moment q))) c.tables.ensures)
    (c.over_law.ensures c.args.moment q))
    c.to_seen.ensures
