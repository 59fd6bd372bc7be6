-- The next call of a task, and its end.
use Rattle.std.proofs.Common.{◌≡◌, ℕ, List, Option, [], ◌∷◌, ◌++◌, refl, sym, subst, ◌∙◌}
use Rattle.dns_text.specs.declared.record.Question.{Question}
use Rattle.iterate.specs.declared.answer.Answer.{Answer}
use Rattle.iterate.specs.declared.phase.Phase.{Phase}
use Rattle.iterate.specs.declared.search.Hunt.{Hunt}
use Rattle.iterate.specs.declared.want.Input.{Input}
use Rattle.iterate.specs.declared.want.Input.TheVariants.{Begin}
use Rattle.iterate.specs.declared.want.Step.{Step}
use Rattle.iterate.specs.declared.want.Want.{Want}
use Rattle.iterate.specs.declared.want.Want.TheVariants.{Finish}
use Rattle.iterate.specs.Exchanges.{exchanges_of}
use Rattle.iterate.specs.Phase.{Suits}
use Rattle.iterate.specs.Task.{IsDueAt, IsTask, hunt_in}
use Rattle.iterate.specs.Wanted.{MayWant, id_drawn, stream_behind}
use Rattle.clock.specs.Ticks.{Ticks}
use Rattle.replies.specs.Calls.{Calls, Lent, Draws}
use Rattle.plain_workers.specs.Leads.{Asks, Lists, Met, replied, refused, came, failed, StepsLead, begins, goes_on, EndsInAnswer, BreaksOff, in_an_exchange}
use Rattle.plain_workers.specs.Turning.{Lacks, lacks}

suits : {D X : Type 0} {calls : Calls D} {asks : Asks X} {d d' : D} {x x' : X} {hunt : Option Hunt} {want : Want} {input : Input} → Met calls asks d x hunt want input d' x' → Suits want input
suits (replied p) = tt
suits (refused p) = tt
suits (came p) = tt
suits (failed p) = tt

-- The next input is due.
pub due : {D X C : Type 0} {calls : Calls D} {asks : Asks X} {ticks : Ticks C} {port : ℕ} {question : Question} {desk d : D} {exchange x : X} {lent l : Lent C} {steps : List Step} {input : Input}
    → ((phase : Phase) → IsDueAt phase [] Begin)
    → ((phase : Phase) (steps : List Step) (step : Step) (input : Input) → Suits step.want input → IsDueAt phase (steps ++ step ∷ []) input)
    → (phase : Phase) → StepsLead calls asks ticks port question desk exchange lent steps input d x l → IsDueAt phase steps input
due first more phase begins = first phase
due first more phase (goes_on {steps} {after} {input} {next} {want} before draws listed met) =
    subst (λ (steps : List Step). IsDueAt phase steps next) (sym draws.wants.grown) (more phase steps (record { input = input; want = want }) next (suits met))

-- A task of this port and question wants what may be wanted, with the identifier that is drawn.
pub draws_at : {C : Type 0} {ticks : Ticks C} {steps after : List Step} {input : Input} {lent lent' : Lent C} {want : Want} (port own_port : ℕ) (question own_question : Question) (moment : ℕ)
    → own_port ≡ port → own_question ≡ question → ticks lent.0 moment lent'.0 → after ≡ steps ++ record { input = input; want = want } ∷ []
    → MayWant own_port own_question (exchanges_of after) moment (id_drawn lent.1) want → lent'.1 ≡ stream_behind want lent.1 → Draws ticks port question steps input lent want after lent'
draws_at {after = after} {lent = lent} {want = want} port own_port question own_question moment same_port same_question ticked grown may taken =
    let id = id_drawn lent.1 in
    let here = subst (λ (q : Question). MayWant own_port q (exchanges_of after) moment id want) same_question may in
    record {
      wants = record { moment = moment; ticked = ticked; grown = grown; id = id; may = subst (λ (n : ℕ). MayWant n question (exchanges_of after) moment id want) same_port here };
      identifier = refl;
      taken = taken;
    }

-- The list of servers that a task lends is one of this port and question.
pub lists_at : {steps : List Step} {hunt : Option Hunt} (phase : Phase) (port own_port : ℕ) (question own_question : Question)
    → own_port ≡ port → own_question ≡ question → IsTask own_port own_question steps phase → hunt ≡ hunt_in phase → Lists port question steps hunt
lists_at {steps} phase port own_port question own_question same_port same_question is_task lends =
    let here = subst (λ (q : Question). IsTask own_port q steps phase) same_question is_task in
    (phase, subst (λ (n : ℕ). IsTask n question steps phase) same_port here, lends)

-- An exchange finds no memory.
pub breaks_off : {D X C : Type 0} {calls : Calls D} {asks : Asks X} {ticks : Ticks C} {port : ℕ} {question : Question} {desk d d' : D} {exchange x x' : X} {lent l l' : Lent C} {steps after : List Step} {input : Input} {hunt : Option Hunt} {want : Want}
    → StepsLead calls asks ticks port question desk exchange lent steps input d x l → Draws ticks port question steps input l want after l'
    → Lists port question after hunt → Lacks asks d x hunt want d' x'
    → BreaksOff calls asks ticks port question desk exchange lent d' x' l'
breaks_off before draws listed (lacks asked) = in_an_exchange before draws listed asked

-- The task answers.
pub ends : {D X C : Type 0} {calls : Calls D} {asks : Asks X} {ticks : Ticks C} {port : ℕ} {question : Question} {desk d d' : D} {exchange x x' : X} {lent l l' : Lent C} {steps after : List Step} {input : Input} {want : Want} {answer : Answer}
    → StepsLead calls asks ticks port question desk exchange lent steps input d x l → Draws ticks port question steps input l want after l' → want ≡ Finish answer → d' ≡ d → x' ≡ x
    → EndsInAnswer calls asks ticks port question desk exchange lent answer d' x' l'
ends {calls = calls} {asks} {ticks} {port} {question} {desk} {d} {d'} {exchange} {x} {x'} {lent} {l} {l'} {steps} {after} {input} before draws is same_desk same_exchange = record {
  steps = steps;
  input = input;
  l = l;
  leads = rw (same_desk, same_exchange) before;
  after = after;
  draws = subst (λ (w : Want). Draws ticks port question steps input l w after l') is draws;
}
