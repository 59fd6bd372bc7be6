use Rattle.std.proofs.Common.{◌≡◌, sym, subst}
use Rattle.std.specs.Prelude.{IfOk}
use Rattle.history.specs.declared.event.Move.{Move}
use Rattle.history.specs.Reply.{answer_after}
use Rattle.undo_book.specs.PlainPast.{past_in}
use Rattle.undo_book.proofs.PreviewLaws.{tells_no_redo, tells_no_undo, tells_redo, tells_undo}
use Rattle.undo_book.proofs.preview.answer_after.Goals as goal

pub returns-in-Some : goal.returns-in-Some
returns-in-Some c =
    tells_undo c.args.past.now c.args.step c.args.question.now c.args.moment c.in-Some.ticket c.answer_with.result c.in-Undo.is (sym c.in-Some.ensures) c.answer_with.ensures

pub returns-in-None : goal.returns-in-None
returns-in-None c = tells_no_undo c.args.past.now c.args.step c.args.question.now c.args.moment c.in-Undo.is (sym c.in-None.ensures)

pub returns-in-Some-last_undone : goal.returns-in-Some-last_undone
returns-in-Some-last_undone c =
    tells_redo c.args.past.now c.args.step c.args.question.now c.args.moment c.in-Some-last_undone.ticket c.answer_with-in-Some-last_undone.result c.in-Redo.is (sym c.in-Some-last_undone.ensures)
    c.answer_with-in-Some-last_undone.ensures

pub returns-in-None-last_undone : goal.returns-in-None-last_undone
returns-in-None-last_undone c =
    tells_no_redo c.args.past.now c.args.step c.args.question.now c.args.moment c.in-Redo.is (sym c.in-None-last_undone.ensures)

pub returns-in-UndoOf : goal.returns-in-UndoOf
returns-in-UndoOf c =
    let past = c.args.past.now in
    subst (λ (s : Move). IfOk c.answer_without.result (λ seen. seen ≡ answer_after past.settings.journal (past_in past) s c.args.question.now c.args.moment)) (sym c.in-UndoOf.is) c.answer_without.ensures
