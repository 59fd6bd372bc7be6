use Rattle.undo_book.specs.PlainPast.{past_in}
use Rattle.undo_book.proofs.PreviewLaws.{sees_after}
use Rattle.undo_book.proofs.lookup_result.seen.Goals as goal

pub returns-in-After : goal.returns-in-After
returns-in-After c =
    sees_after c.args.past.now.settings (past_in c.args.past.now) c.args.ask.now c.in-After.question c.in-After.step c.args.moment c.answer_after.result c.in-After.is c.answer_after.ensures
