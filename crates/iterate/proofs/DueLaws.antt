-- What may come to a task.
use Rattle.std.proofs.Common.{◌≡◌, List, [], ◌∷◌, ◌++◌, refl, sym, subst}
use Rattle.iterate.specs.declared.phase.Phase.{Phase}
use Rattle.iterate.specs.declared.phase.Phase.TheVariants.{Broken}
use Rattle.iterate.specs.declared.want.Input.{Input}
use Rattle.iterate.specs.declared.want.Input.TheVariants.{Begin}
use Rattle.iterate.specs.declared.want.Step.{Step}
use Rattle.iterate.specs.declared.want.Want.{Want}
use Rattle.iterate.specs.Exchanges.{last_behind}
use Rattle.iterate.specs.Phase.{IsDue, Suits}
use Rattle.iterate.specs.Task.{IsDueAt}

due_at : (phase : Phase) (steps : List Step) (input : Input) → IsDue steps input → IsDueAt phase steps input
due_at Broken steps input due = tt
due_at phase steps input due = due

last_more : (want : Want) (steps : List Step) (step : Step) → last_behind want (steps ++ step ∷ []) ≡ step.want
last_more want [] step = refl
last_more want (s ∷ steps) step = last_more s.want steps step

due_next : (steps : List Step) (step : Step) (input : Input) → Suits step.want input → IsDue (steps ++ step ∷ []) input
due_next [] step input suits = suits
due_next (s ∷ steps) step input suits = subst (λ (want : Want). Suits want input) (sym (last_more s.want steps step)) suits

pub first_is_due : (phase : Phase) → IsDueAt phase [] Begin
first_is_due phase = due_at phase [] Begin tt

pub next_is_due : (phase : Phase) (steps : List Step) (step : Step) (input : Input) → Suits step.want input → IsDueAt phase (steps ++ step ∷ []) input
next_is_due phase steps step input suits = due_at phase (steps ++ step ∷ []) input (due_next steps step input suits)
