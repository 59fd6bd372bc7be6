-- The calls of a desk, and what a task has of a clock and a generator.
use Rattle.std.specs.Prelude.{◌≡◌, ℕ, Result, List, [], ◌∷◌, ◌++◌}
use Rattle.clock.specs.Ticks.{Ticks}
use Rattle.dns_text.specs.declared.record.Question.{Question}
use Rattle.history.specs.declared.desk.DeskFault.{DeskFault}
use Rattle.history.specs.declared.event.Event.{Event}
use Rattle.history.specs.declared.event.Reply.{Reply}
use Rattle.iterate.specs.declared.want.Input.{Input}
use Rattle.iterate.specs.declared.want.Step.{Step}
use Rattle.iterate.specs.declared.want.Want.{Want}
use Rattle.iterate.specs.Exchanges.{exchanges_of}
use Rattle.iterate.specs.Wanted.{MayWant, id_drawn, stream_behind}
use Rattle.rand_core.specs.Stream.{Stream}

-- One call of a desk: the desk before, the event, the reply or the fault, the desk after.
abbrev pub Calls : Type 0 → Type 1
Calls D = D → Event → Result Reply DeskFault → D → Type 0

-- a clock, and the words that a generator gives from here on
abbrev pub Lent : Type 0 → Type 0
Lent C = C × Stream

-- The clock was read, and a task that gets this input then may want this.
pub record Wants {C : Type 0} (ticks : Ticks C) (port : ℕ) (question : Question) (steps : List Step) (input : Input) (clock : C) (want : Want) (after : List Step) (clock' : C) : Type 0 where
  pub moment : ℕ
  pub ticked : ticks clock moment clock'
  pub grown : after ≡ steps ++ record { input = input; want = want } ∷ []
  pub id : ℕ
  pub may : MayWant port question (exchanges_of after) moment id want

-- The same, and a query has the identifier that the generator gave: the low 16 bits of its next word, which only a query uses up.
pub record Draws {C : Type 0} (ticks : Ticks C) (port : ℕ) (question : Question) (steps : List Step) (input : Input) (lent : Lent C) (want : Want) (after : List Step) (lent' : Lent C) : Type 0 where
  pub wants : Wants ticks port question steps input lent.0 want after lent'.0
  pub identifier : wants.id ≡ id_drawn lent.1
  pub taken : lent'.1 ≡ stream_behind want lent.1
