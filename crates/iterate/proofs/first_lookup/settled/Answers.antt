use Rattle.std.proofs.lemmas.Result.{IfOk-weaker}
use Rattle.iterate.proofs.PathTurns.{no_answer, unless_known}
use Rattle.iterate.proofs.first_lookup.settled.Goals as goal

pub returns-in-Some : goal.returns-in-Some
returns-in-Some c = λ port m log adds suits.
    IfOk-weaker c.answer_seen.result _ _ (λ answer told. unless_known port c.args.question.now c.args.input.now log answer told)
    (c.answer_seen.ensures port m c.args.question.now c.args.input.now log (c.in-Some.ensures m suits) adds)

pub returns-in-None : goal.returns-in-None
returns-in-None c = λ port m log adds suits. no_answer m c.args.question.now c.args.input.now (c.in-None.ensures m suits)
