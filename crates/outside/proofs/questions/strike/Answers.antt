use Rattle.std.proofs.Common.{◌∙◌, ap, subst}
use Rattle.outside.specs.declared.pause.Pause.{Pause}
use Rattle.outside.specs.Silences.{pause_struck}
use Rattle.outside.specs.Pauses.{RemembersQuestion}
use Rattle.outside.proofs.questions.strike.Goals as goal

pub returns-clause-remembers : goal.returns-clause-remembers
returns-clause-remembers c =
    subst (λ (p : Pause). RemembersQuestion c.args.now c.args.question p c.args.questions.now c.remember.new.questions)
    (c.struck-pause.ensures ∙ ap (λ (p : Pause). pause_struck p c.args.now) c.known.ensures) c.remember.ensures.remembers
