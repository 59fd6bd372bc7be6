-- A task before its first step, in the midst, and with no memory.
use Rattle.std.specs.Prelude.{◌≡◌, ◌<◌, ◌≤◌, ℕ, List, Option, Some, None, [], ◌∷◌, ◌++◌}
use Rattle.dns_text.specs.declared.record.Question.{Question}
use Rattle.iterate.specs.declared.answer.Answer.{Answer}
use Rattle.iterate.specs.declared.limits.TheConstants.{MOST_SENDS}
use Rattle.iterate.specs.declared.phase.Advance.{Advance}
use Rattle.iterate.specs.declared.phase.Phase.{Phase}
use Rattle.iterate.specs.declared.phase.Phase.TheVariants.{Fresh, Sent, Broken}
use Rattle.iterate.specs.declared.search.Hunt.{Hunt}
use Rattle.iterate.specs.declared.task.State.{State}
use Rattle.iterate.specs.declared.want.Input.{Input}
use Rattle.iterate.specs.declared.want.Step.{Step}
use Rattle.iterate.specs.declared.want.Want.{Want}
use Rattle.iterate.specs.declared.want.Want.TheVariants.{Finish}
use Rattle.iterate.specs.Exchanges.{Exchange, Stands, exchanges_of, sent_in}
use Rattle.iterate.specs.Measure.{left_in}
use Rattle.iterate.specs.Phase.{Drawing, Remembers, IsDue}
use Rattle.iterate.specs.Room.{AsksOn}
use Rattle.iterate.specs.Searching.{hunt_of}
use Rattle.iterate.specs.Told.{IsFit}
use Rattle.iterate.specs.Wanted.{MayWant, id_drawn, stream_behind}

-- These steps led to this phase.
pub record IsUnderWay (port : ℕ) (question : Question) (steps : List Step) (phase : Phase) : Type 0 where
  pub log : List Exchange
  pub want : Want
  pub stands : Stands steps log want
  pub fits : Remembers port question log want phase

-- What a task remembers fits its steps.
abbrev pub IsTask : ℕ → Question → List Step → Phase → Type 0
IsTask port question steps Fresh = steps ≡ []
IsTask port question steps Broken = Unit {0}
IsTask port question steps phase = IsUnderWay port question steps phase

-- the servers of which one was asked last, if its response has not come yet
abbrev pub hunt_in : Phase → Option Hunt
hunt_in (Sent search server id over) = Some (hunt_of search.value)
hunt_in phase = None

-- What may come where a task is: without memory, anything.
abbrev pub IsDueAt : Phase → List Step → Input → Type 0
IsDueAt Broken steps input = Unit {0}
IsDueAt phase steps input = IsDue steps input

-- ---- a step

-- A step changes neither the question nor the port.
pub record IsSameTask (before after : State) : Type 0 where
  pub question : after.question ≡ before.question
  pub port : after.port ≡ before.port

-- The steps grow by this one, and the phase is the next one. (Of the code.)
pub record IsKept (before : State) (input : Input) (next : Advance) (after : State) (want : Want) : Type 0 where
  pub steps : after.steps.items ≡ before.steps.items ++ record { input = input; want = next.want } ∷ []
  pub phase : after.phase ≡ next.phase
  pub wanted : want ≡ next.want

-- A step of a task with this input, at this moment: it wants what may be wanted by the exchanges so far, and less is left.
pub record StepsOn (before : State) (input : Input) (moment : ℕ) (ids : Drawing) (after : State) (want : Want) : Type 0 where
  -- The steps grow by this one.
  pub steps : after.steps.items ≡ before.steps.items ++ record { input = input; want = want } ∷ []
  -- An answer resolves the question, and a query asks what no look has found.
  pub wants : MayWant before.port before.question (exchanges_of after.steps.items) moment (id_drawn ids.before) want
  -- A query takes one word of the generator, and nothing else takes any.
  pub drawn : ids.after ≡ stream_behind want ids.before
  -- Each chosen find of a response is handed to the book, with room made where it was full, and an alias that a look saw is followed.
  pub asks : AsksOn before.phase moment input want
  -- The answer can be written.
  pub fit : (answer : Answer) → want ≡ Finish answer → IsFit answer
  -- It ends.
  pub left : left_in after.phase < left_in before.phase
  pub few : sent_in after.steps.items ≤ MOST_SENDS

-- Without memory nothing is added, then or later.
pub record StepFails (before after : State) : Type 0 where
  pub steps : after.steps.items ≡ before.steps.items
  pub phase : after.phase ≡ Broken
