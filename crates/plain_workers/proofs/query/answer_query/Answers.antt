use Rattle.plain_workers.specs.Serves.{unread, broken_off, unwritten}
use Rattle.replies.proofs.Asked.{good_is_told}
use Rattle.plain_workers.proofs.Failing.{failing}
use Rattle.plain_workers.proofs.Telling.{served_by}
use Rattle.plain_workers.proofs.query.answer_query.Goals as goal

pub returns-in_err-question-clause-unserved : goal.returns-in_err-question-clause-unserved
returns-in_err-question-clause-unserved g c = failing c.from_residual.result _ (unread (good_is_told c.requires))

pub returns-in_err-answer-clause-unserved : goal.returns-in_err-answer-clause-unserved
returns-in_err-answer-clause-unserved g c =
    failing c.from_residual-in_err-answer.result _ (broken_off c.requires (rw c.in_ok-question.ensures at c.in_err-answer.ensures.breaks_off))

pub returns-in_err-write_answer-clause-unserved : goal.returns-in_err-write_answer-clause-unserved
returns-in_err-write_answer-clause-unserved g c =
    failing c.from_residual-in_err-write_answer.result _ (unwritten c.requires (rw c.in_ok-question.ensures at c.in_ok-answer.ensures.ends))

pub returns-clause-serves : goal.returns-clause-serves
returns-clause-serves g c =
    let ends = rw c.in_ok-question.ensures at c.in_ok-answer.ensures.ends in
    served_by _ _ c.requires ends c.in_ok-write_answer.ensures.tells
