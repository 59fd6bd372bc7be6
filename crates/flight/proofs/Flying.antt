-- How a question goes on.
use Rattle.std.proofs.Common.{◌≡◌, ◌≤◌, ◌∙◌, ℕ, Err, Some, None, List, [], ◌∷◌, ◌++◌, ap, refl, sym, subst}
use Rattle.dns_query.specs.declared.over.Over.{Over}
use Rattle.dns_text.specs.declared.addr.Addr.{Addr}
use Rattle.dns_text.specs.declared.record.Question.{Question}
use Rattle.dns_wire.specs.declared.server.query.Query.{Query}
use Rattle.history.specs.declared.event.Event.{Event}
use Rattle.iterate.specs.declared.answer.Answer.{Answer}
use Rattle.iterate.specs.declared.phase.Phase.{Phase}
use Rattle.iterate.specs.declared.task.State.{State}
use Rattle.iterate.specs.declared.want.Allowance.{Allowance}
use Rattle.iterate.specs.declared.want.AskFault.{AskFault}
use Rattle.iterate.specs.declared.want.AskFault.TheVariants.{Desk as DeskRefused, Unswept}
use Rattle.iterate.specs.declared.want.Input.{Input}
use Rattle.iterate.specs.declared.want.Input.TheVariants.{Begin, Refused, Came, Failed}
use Rattle.iterate.specs.declared.want.Step.{Step}
use Rattle.iterate.specs.declared.want.Want.{Want}
use Rattle.iterate.specs.declared.want.Want.TheVariants.{Book, Send, Finish}
use Rattle.iterate.specs.Phase.{Suits}
use Rattle.iterate.specs.Task.{IsDueAt}
use Rattle.iterate.specs.Exchanges.{exchanges_of}
use Rattle.iterate.specs.Wanted.{MayWant, id_drawn, stream_behind}
use Rattle.rand_core.specs.Stream.{Stream}
use Rattle.clock.specs.Ticks.{Ticks}
use Rattle.replies.specs.Calls.{Calls, Draws}
use Rattle.flight.specs.Asking.{IsAskedBy}
use Rattle.flight.specs.Flight.{Sent, Hears, CallsSoon, Answered, replied, refused, put_off, came, failed, Flies, begins, goes_on, IsOpen, Awaits, Lands, query_to}

-- A task goes on for the same question.
pub asked_on : {K : Type 0} {sends : K → List ℕ → Type 0} {port : ℕ} {octets : List ℕ} {client : K} {query : Query} {task task' : State}
    → IsAskedBy sends port octets client query task → task'.question ≡ task.question → task'.port ≡ task.port → IsAskedBy sends port octets client query task'
asked_on asked question port = record { own = asked.own; good = asked.good; question = question ∙ asked.question; port_is = port ∙ asked.port_is }

pub suits : {D : Type 0} {calls : Calls D} {seen : D → ℕ} {hears : Hears} {n n' : ℕ} {want : Want} {input : Input} → Answered calls seen hears n want input n' → Suits want input
suits (replied known call is) = tt
suits (refused known call is) = tt
suits (put_off known oldest is) = tt
suits (came heard) = tt
suits (failed none) = tt

-- A desk replied with a fault, or put the call off.
pub unanswered : {D : Type 0} {calls : Calls D} {seen : D → ℕ} {hears : Hears} {n n' : ℕ} {event : Event} → (d d' : D) (puts_off : D → Event → Type 0) (fault : AskFault)
    → n ≤ seen d → CallsSoon calls puts_off d event (Err fault) d' → n' ≡ seen d' → Answered calls seen hears n (Book event) (Refused fault) n'
unanswered d d' puts_off (DeskRefused fault) known call is = refused known call is
unanswered {seen = seen} d d' puts_off Unswept known put is = put_off known put.0 (is ∙ ap seen put.2)

module _ {D C : Type 0} {calls : Calls D} {seen : D → ℕ} {hears : Hears} {ticks : Ticks C} {since port : ℕ} {question : Question} where
  -- What comes next is due.
  pub due : {steps : List Step} {input : Input} {n : ℕ}
      → ((phase : Phase) → IsDueAt phase [] Begin)
      → ((phase : Phase) (steps : List Step) (step : Step) (input : Input) → Suits step.want input → IsDueAt phase (steps ++ step ∷ []) input)
      → (phase : Phase) → Flies calls seen hears ticks since port question steps input n → IsDueAt phase steps input
  due first more phase begins = first phase
  due first more phase (goes_on {steps} {after} {input} {next} {want} before draws answered) =
      subst (λ (steps : List Step). IsDueAt phase steps next) (sym draws.wants.grown) (more phase steps (record { input = input; want = want }) next (suits answered))

  -- A want that is open is answered.
  pub flown : {steps : List Step} {want : Want} {n n' : ℕ} {next : Input}
      → IsOpen calls seen hears ticks since port question steps want n → Answered calls seen hears n want next n' → Flies calls seen hears ticks since port question steps next n'
  flown is answered = goes_on is.flies is.draws answered

  -- A reply is heard.
  pub heard : {steps : List Step} {query : Sent} {n : ℕ} {octets : List ℕ} {allowance : Allowance}
      → Awaits calls seen hears ticks since port question steps query n → hears query (Some octets) → Flies calls seen hears ticks since port question steps (Came octets allowance) n
  heard is may = flown is (came may)

  -- None is.
  pub missed : {steps : List Step} {query : Sent} {n : ℕ}
      → Awaits calls seen hears ticks since port question steps query n → hears query None → Flies calls seen hears ticks since port question steps Failed n
  missed is none = flown is (failed none)

  -- A step of the task: what it wants is open.
  pub open_on : {n : ℕ} {input : Input} {want wanted : Want} {after : List Step} {c c' : C} {words' : Stream}
      → (port_of : ℕ) (question_of : Question) (steps : List Step) (moment : ℕ) (words : Stream) → port_of ≡ port → question_of ≡ question
      → Flies calls seen hears ticks since port question steps input n → ticks c moment c' → after ≡ steps ++ record { input = input; want = want } ∷ []
      → MayWant port_of question_of (exchanges_of after) moment (id_drawn words) want → words' ≡ stream_behind want words → want ≡ wanted
      → IsOpen calls seen hears ticks since port question after wanted n
  open_on {input = input} {want = want} {after = after} {c = c} {c' = c'} {words' = words'} port_of question_of steps moment words same_port same_question flies ticked grown may taken is =
      let id = id_drawn words in
      let here = subst (λ (q : Question). MayWant port_of q (exchanges_of after) moment id want) same_question may in
      let draws : Draws ticks port question steps input (c, words) want after (c', words') = record {
        wants = record { moment = moment; ticked = ticked; grown = grown; id = id; may = subst (λ (p : ℕ). MayWant p question (exchanges_of after) moment id want) same_port here };
        identifier = refl;
        taken = taken;
      } in
      record {
        before = steps;
        input = input;
        l = (c, words);
        l' = (c', words');
        flies = flies;
        draws = subst (λ (w : Want). Draws ticks port question steps input (c, words) w after (c', words')) is draws;
      }

  -- It is open for this query, which went out on a line.
  pub awaits_at : {steps : List Step} {n : ℕ} {server : Addr} {over : Over} {query : List ℕ} {asked : Sent}
      → asked ≡ query_to server over query → IsOpen calls seen hears ticks since port question steps (Send server over query) n → Awaits calls seen hears ticks since port question steps asked n
  awaits_at {steps = steps} {n = n} same is = subst (λ (q : Sent). Awaits calls seen hears ticks since port question steps q n) (sym same) is

  -- The task answers, where this is the port of name servers.
  pub lands_at : {steps : List Step} {n port' : ℕ} {answer : Answer}
      → port ≡ port' → IsOpen calls seen hears ticks since port question steps (Finish answer) n → Lands calls seen hears ticks since port' question answer
  lands_at {steps = steps} {n = n} {answer = answer} same is =
      let lands : Lands calls seen hears ticks since port question answer = record { steps = steps; n = n; ends = is } in
      subst (λ (p : ℕ). Lands calls seen hears ticks since p question answer) same lands
