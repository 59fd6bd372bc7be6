use Rattle.std.proofs.Common.{◌≡◌, Some, None, arith, rules}
use Rattle.std.proofs.lemmas.Grind.{common_steps}
use Rattle.indexmap.specs.IndexMap.{get}
use Rattle.outside.specs.declared.questions.TheConstants.{MOST_QUESTIONS}
use Rattle.outside.specs.declared.pause.Pause.{Pause}
use Rattle.outside.specs.Kept.Remembers.{known}
use Rattle.outside.specs.Pauses.{question_at_eq}
use Rattle.outside.proofs.Remembering.{remembered_new}
use Rattle.outside.proofs.questions.remember.Goals as goal

pub returns-in-Some-clause-remembers : goal.returns-in-Some-clause-remembers
returns-in-Some-clause-remembers c =
    let held : get question_at_eq c.args.questions.now c.args.question ≡ Some c.in-Some.place.now = grind (arith, common_steps) in
    known held ((c.get_mut.follows.holds c.args.pause).3 (search rules))

pub returns-clause-remembers : goal.returns-clause-remembers
returns-clause-remembers c =
    let none : get question_at_eq c.args.questions.now c.args.question ≡ None = grind (arith, common_steps) in
    remembered_new question_at_eq (λ (p : Pause). p.until) MOST_QUESTIONS c.args.now c.args.question c.args.pause c.args.questions.now c.get_mut.follows.lender-at-none c.add.new.kept
    c.get_mut.follows.holds-at-none none c.add.ensures.adds
