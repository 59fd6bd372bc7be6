use Rattle.std.proofs.Common.{◌≡◌, Some, None, ap, subst, arith, rules}
use Rattle.std.proofs.lemmas.Grind.{common_steps}
use Rattle.indexmap.specs.IndexMap.{get, Updates}
use Rattle.outside.specs.declared.pause.Pause.{Pause}
use Rattle.outside.specs.Kept.Changes.{known, unknown}
use Rattle.outside.specs.Pauses.{question_at_eq, QuestionPauses}
use Rattle.outside.proofs.questions.begin_trial.Goals as goal

pub returns-clause-changes : goal.returns-clause-changes
returns-clause-changes c =
    let questions = c.args.questions.now in
    let new = c.trial.result in
    let held : get question_at_eq questions c.args.question.now ≡ Some c.in-Some.pause.now = grind (arith, common_steps) in
    let updates = (c.get_mut.follows.holds new).3 (search rules) in
    known held (subst (λ (p : Pause). Updates question_at_eq questions (c.get_mut.follows.lender new) c.args.question.now (Some p)) c.trial.ensures updates)

pub returns-in_default-clause-changes : goal.returns-in_default-clause-changes
returns-in_default-clause-changes c =
    let none : get question_at_eq c.args.questions.now c.args.question.now ≡ None = grind (arith, common_steps) in
    unknown none (ap (λ (m : QuestionPauses). m.entries) c.get_mut.follows.holds-at-none)
