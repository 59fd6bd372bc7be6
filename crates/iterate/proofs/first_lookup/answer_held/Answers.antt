use Rattle.std.proofs.Common.{false, List, ap, sym, subst, ◌∙◌}
use Rattle.history.specs.declared.event.Seen.TheVariants.{Held}
use Rattle.iterate.specs.declared.answer.Answer.{Answer}
use Rattle.iterate.specs.declared.answer.Answer.TheVariants.{Reply}
use Rattle.iterate.specs.declared.answer.AnswerSet.{AnswerSet}
use Rattle.iterate.specs.Resolved.{IsResolved}
use Rattle.iterate.proofs.PathTurns.{first_ends}
use Rattle.iterate.proofs.first_lookup.answer_held.Goals as goal

pub returns : goal.returns
returns c = λ port m question log shown_for adds.
    let found = c.in_ok-ending in
    let told = c.answer_with.ensures ∙ ap (λ (xs : List AnswerSet). Reply found.ending.rcode false xs found.ending.last found.ending.authority) c.new.ensures.items in
    subst (λ (a : Answer). IsResolved port question log a) (sym told) (first_ends (Held c.args.shown.now) adds (found.ensures question shown_for))
