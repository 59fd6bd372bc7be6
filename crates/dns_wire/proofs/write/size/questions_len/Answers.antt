use Rattle.std.proofs.Common.{◌≡◌, length, get_or, sym, ap, ◌∙◌, arith}
use Rattle.dns_wire.specs.Write.Question.{question_octets}
use Rattle.std.proofs.lemmas.List.Folds.{length-flat_map-take}
use Rattle.dns_wire.proofs.WrittenSize.{too_many, more_than_fit, length-question_octets}
use Rattle.dns_wire.proofs.write.size.questions_len.Goals as goal

pub returns-in_err-total : goal.returns-in_err-total
returns-in_err-total c =
    let over = more_than_fit (sym c.sum_of.ensures ∙ c.in_err-total.was) in
    let here = length-flat_map-take question_octets c.args.questions.now c.loop-question.question-index c.question-item.result c.loop-question-test.true in
    let is : length (question_octets c.question-item.result) ≡ length (question_octets (get_or c.args.questions.now c.loop-question.question-index c.question-item.result)) = ap (λ q. length (question_octets q)) c.question-item.is in
    let long = length-question_octets c.question-item.result in
    c.from_residual.ensures ∙ too_many (omega arith)
