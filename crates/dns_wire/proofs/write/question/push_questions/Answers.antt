use Rattle.std.proofs.Common.{rules, arith}
use Rattle.std.proofs.lemmas.Grind.{common_steps}
use Rattle.dns_wire.specs.WellFormed.{IsQuestion}
use Rattle.dns_wire.proofs.EachLaws.{all_more, all_passed}
use Rattle.dns_wire.proofs.write.question.push_questions.Goals as goal

pub loop-question-preserved : goal.loop-question-preserved
loop-question-preserved c = record {
  told = first_of (search rules, grind (arith, common_steps));
  each = all_more IsQuestion c.args.questions.now c.loop-question.question-index c.question-item.result c.loop-question-test.true c.question-item.is c.loop-question.invariant.each c.in_ok-push_question.ensures.fits;
}

pub returns-clause-fits : goal.returns-clause-fits
returns-clause-fits c = all_passed IsQuestion c.args.questions.now c.loop-question.question-index c.loop-question-test.false c.loop-question.invariant.each
