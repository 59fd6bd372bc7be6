use Rattle.std.proofs.Common.{true, List, ap, sym, subst, ◌∙◌}
use Rattle.history.specs.declared.event.Seen.TheVariants.{Local}
use Rattle.iterate.specs.declared.answer.Answer.{Answer}
use Rattle.iterate.specs.declared.answer.Answer.TheVariants.{Reply}
use Rattle.iterate.specs.declared.answer.AnswerSet.{AnswerSet}
use Rattle.iterate.specs.Resolved.{IsResolved}
use Rattle.iterate.proofs.PathTurns.{first_ends}
use Rattle.iterate.proofs.first_lookup.answer_local.Goals as goal

pub returns-in-Some : goal.returns-in-Some
returns-in-Some c = λ port m question log local adds.
    let ends = rw c.in-Some.is at (c.in_ok-ending.ensures question local) in
    let told = c.answer_with.ensures ∙ ap (λ (xs : List AnswerSet). Reply c.in-Some.ending.rcode true xs c.in-Some.ending.last c.in-Some.ending.authority) c.new.ensures.items in
    subst (λ (a : Answer). IsResolved port question log a) (sym told) (first_ends (Local c.args.answer.now) adds ends)

pub returns-in-None : goal.returns-in-None
returns-in-None c = λ port m question log local adds.
    c.barred.ensures port m question log (rw c.in-None.is at (c.in_ok-ending.ensures question local)) adds
