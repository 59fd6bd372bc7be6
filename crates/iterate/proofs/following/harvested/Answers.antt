use Rattle.std.proofs.Common.{◌≡◌, sym, subst}
use Rattle.iterate.specs.declared.answer.AnswerSet.{AnswerSet}
use Rattle.iterate.specs.Following.{told_by}
use Rattle.iterate.specs.Known.{Known, Had}
use Rattle.iterate.proofs.FollowTurns.{harvest_known}
use Rattle.iterate.proofs.following.harvested.Goals as goal

pub returns-in_ok-tell-in-Some-clause-had : goal.returns-in_ok-tell-in-Some-clause-had
returns-in_ok-tell-in-Some-clause-had c = λ port log h.
    let told : c.in_ok-tell-in-Some.field-0 ≡ told_by c.in-Some.set = c.in_ok-tell-in-Some.ensures in
    subst (λ (t : AnswerSet). Known port log (Had c.args.question.now t)) (sym told) (harvest_known c.args.harvest.now c.args.question.now c.in-Some.set h c.in-Some.ensures)

pub returns-in_ok-tell-in-Some-clause-exact : goal.returns-in_ok-tell-in-Some-clause-exact
returns-in_ok-tell-in-Some-clause-exact c = record { set = c.in-Some.set; believed = c.in-Some.ensures; is = c.in_ok-tell-in-Some.ensures }
