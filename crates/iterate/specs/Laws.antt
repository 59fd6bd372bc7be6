-- What follows from the definitions.
use Rattle.std.specs.Prelude.{ℕ, Bool, List, [], ◌∷◌, ◌++◌, Option}
use Rattle.dns_text.specs.declared.record.Question.{Question}
use Rattle.iterate.specs.declared.answer.Answer.{Answer}
use Rattle.iterate.specs.declared.answer.Answer.TheVariants.{Reply as Replies}
use Rattle.iterate.specs.declared.answer.AnswerSet.{AnswerSet}
use Rattle.iterate.specs.declared.answer.Soa.{Soa}
use Rattle.iterate.specs.declared.phase.Phase.{Phase}
use Rattle.iterate.specs.declared.want.Input.{Input}
use Rattle.iterate.specs.declared.want.Step.{Step}
use Rattle.iterate.specs.Exchanges.{Exchange}
use Rattle.iterate.specs.Phase.{Suits}
use Rattle.iterate.specs.Resolved.{Began, IsNoAnswer, IsResolved}
use Rattle.iterate.specs.Task.{IsDueAt}
use Rattle.iterate.specs.Told.{IsFit}

-- An answer that resolves a question can be written.
abbrev pub ResolvingIsFit : Type 0
ResolvingIsFit = (port : ℕ) (question : Question) (log : List Exchange) (answer : Answer) → IsResolved port question log answer → IsFit answer

-- What may come of the last want may come next.
abbrev pub OutcomeIsDue : Type 0
OutcomeIsDue = (phase : Phase) (steps : List Step) (step : Step) (input : Input) → Suits step.want input → IsDueAt phase (steps ++ step ∷ []) input

-- A question that fails with SERVFAIL was not answered by its first lookup.
abbrev pub ServfailIsUnanswered : Type 0
ServfailIsUnanswered =
    (port : ℕ) (question : Question) (input : Input) (log : List Exchange) (aa : Bool) (aliases : List AnswerSet) (last : Option AnswerSet) (authority : Option Soa)
    → IsResolved port question log (Replies 2 aa aliases last authority) → Began question input log → IsNoAnswer question input
