-- The steps of a task: by calls of a desk, an exchange, a clock and a generator.
use Rattle.std.specs.Prelude.{◌≡◌, ℕ, Option, Result, Ok, Err, List, []}
use Rattle.clock.specs.Ticks.{Ticks}
use Rattle.dns_query.specs.declared.over.Over.{Over}
use Rattle.dns_text.specs.declared.addr.Addr.{Addr}
use Rattle.dns_text.specs.declared.record.Question.{Question}
use Rattle.history.specs.declared.desk.DeskFault.{DeskFault}
use Rattle.history.specs.declared.event.Event.{Event}
use Rattle.history.specs.declared.event.Reply.{Reply}
use Rattle.iterate.specs.declared.answer.Answer.{Answer}
use Rattle.iterate.specs.declared.phase.Phase.{Phase}
use Rattle.iterate.specs.declared.search.Hunt.{Hunt}
use Rattle.iterate.specs.declared.want.Allowance.{Allowance}
use Rattle.iterate.specs.declared.want.AskFault.TheVariants.{Desk as DeskRefused}
use Rattle.iterate.specs.declared.want.Input.{Input}
use Rattle.iterate.specs.declared.want.Input.TheVariants.{Begin, Reply as Replied, Refused, Came, Failed}
use Rattle.iterate.specs.declared.want.Step.{Step}
use Rattle.iterate.specs.declared.want.Want.{Want}
use Rattle.iterate.specs.declared.want.Want.TheVariants.{Book, Send, Finish}
use Rattle.iterate.specs.Task.{IsTask, hunt_in}
use Rattle.replies.specs.Calls.{Calls, Lent, Draws}
use Rattle.system.specs.declared.device.DeviceFault.{DeviceFault}
use Rattle.system.specs.declared.device.DeviceFault.TheVariants.{Device, NoMemory}

-- One exchange with a name server: the client before, the server, the list that has it, the transport, the query, the response or the fault, the client after.
abbrev pub Asks : Type 0 → Type 1
Asks X = X → Addr → Option Hunt → Over → List ℕ → Result (List ℕ) DeviceFault → X → Type 0

-- A task for the question that took these steps has this list of servers: of it is the server that it asks, if it asks one.
abbrev pub Lists : ℕ → Question → List Step → Option Hunt → Type 0
Lists port question steps hunt = (phase : Phase) × IsTask port question steps phase × (hunt ≡ hunt_in phase)

-- One call met a want: the desk and the exchange before, the task's list of servers, the want, the input that the task gets for it, the desk and the exchange after. With a response comes an allowance of finds for the desk, which may be any.
pub data Met {D X : Type 0} (calls : Calls D) (asks : Asks X) : D → X → Option Hunt → Want → Input → D → X → Type 0 where
  replied : {d d' : D} {x : X} {hunt : Option Hunt} {event : Event} {reply : Reply} → calls d event (Ok reply) d' → Met calls asks d x hunt (Book event) (Replied reply) d' x
  refused : {d d' : D} {x : X} {hunt : Option Hunt} {event : Event} {fault : DeskFault} → calls d event (Err fault) d' → Met calls asks d x hunt (Book event) (Refused (DeskRefused fault)) d' x
  came : {d : D} {x x' : X} {hunt : Option Hunt} {server : Addr} {over : Over} {bytes octets : List ℕ} {allowance : Allowance}
      → asks x server hunt over bytes (Ok octets) x' → Met calls asks d x hunt (Send server over bytes) (Came octets allowance) d x'
  failed : {d : D} {x x' : X} {hunt : Option Hunt} {server : Addr} {over : Over} {bytes : List ℕ}
      → asks x server hunt over bytes (Err Device) x' → Met calls asks d x hunt (Send server over bytes) Failed d x'

-- Steps of a task for the question led from one state of desk, exchange, clock and generator to another, and the task gets this input next.
pub data StepsLead {D X C : Type 0} (calls : Calls D) (asks : Asks X) (ticks : Ticks C) (port : ℕ) (question : Question) (desk : D) (exchange : X) (lent : Lent C)
    : List Step → Input → D → X → Lent C → Type 0 where
  begins : StepsLead calls asks ticks port question desk exchange lent [] Begin desk exchange lent
  goes_on : {steps after : List Step} {input next : Input} {want : Want} {hunt : Option Hunt} {d d' : D} {x x' : X} {l l' : Lent C}
      → StepsLead calls asks ticks port question desk exchange lent steps input d x l
      → Draws ticks port question steps input l want after l' → Lists port question after hunt → Met calls asks d x hunt want next d' x'
      → StepsLead calls asks ticks port question desk exchange lent after next d' x' l'

-- A question ended in an answer: steps led from the first state to the last, where a task may give this answer. `MayWant` says that it resolves the question.
pub record EndsInAnswer {D X C : Type 0} (calls : Calls D) (asks : Asks X) (ticks : Ticks C) (port : ℕ) (question : Question) (desk : D) (exchange : X) (lent : Lent C)
    (answer : Answer) (d : D) (x : X) (l' : Lent C) : Type 0 where
  pub steps : List Step
  pub input : Input
  pub l : Lent C
  pub leads : StepsLead calls asks ticks port question desk exchange lent steps input d x l
  pub after : List Step
  pub draws : Draws ticks port question steps input l (Finish answer) after l'

-- A question broke off, since no memory was left: the task found none, which says nothing of the generator then, or an exchange found none.
pub data BreaksOff {D X C : Type 0} (calls : Calls D) (asks : Asks X) (ticks : Ticks C) (port : ℕ) (question : Question) (desk : D) (exchange : X) (lent : Lent C)
    : D → X → Lent C → Type 0 where
  in_the_task : {steps : List Step} {input : Input} {d : D} {x : X} {moment : ℕ} {l l' : Lent C}
      → StepsLead calls asks ticks port question desk exchange lent steps input d x l → ticks l.0 moment l'.0
      → BreaksOff calls asks ticks port question desk exchange lent d x l'
  in_an_exchange : {steps after : List Step} {input : Input} {hunt : Option Hunt} {server : Addr} {over : Over} {bytes : List ℕ} {d : D} {x x' : X} {l l' : Lent C}
      → StepsLead calls asks ticks port question desk exchange lent steps input d x l
      → Draws ticks port question steps input l (Send server over bytes) after l' → Lists port question after hunt → asks x server hunt over bytes (Err NoMemory) x'
      → BreaksOff calls asks ticks port question desk exchange lent d x' l'
