-- One question in flight: its calls of the desk and its exchanges with name servers, while other questions call between.
use Rattle.std.specs.Prelude.{◌≡◌, ◌≤◌, ℕ, IsTrue, Result, Ok, Err, Option, Some, None, List, [], ◌∷◌}
use Rattle.dns_query.specs.declared.over.Over.{Over}
use Rattle.dns_text.specs.declared.addr.Addr.{Addr}
use Rattle.dns_text.specs.declared.record.Question.{Question}
use Rattle.history.specs.declared.desk.DeskFault.{DeskFault}
use Rattle.history.specs.declared.event.Ask.TheVariants.{Answer as Asked}
use Rattle.history.specs.declared.event.Event.{Event}
use Rattle.history.specs.declared.event.Event.TheVariants.{Look}
use Rattle.history.specs.declared.event.Reply.{Reply}
use Rattle.iterate.specs.declared.answer.Answer.{Answer}
use Rattle.iterate.specs.declared.want.Allowance.{Allowance}
use Rattle.iterate.specs.declared.want.AskFault.{AskFault}
use Rattle.iterate.specs.declared.want.AskFault.TheVariants.{Desk as DeskRefused, Unswept}
use Rattle.iterate.specs.declared.want.Input.{Input}
use Rattle.iterate.specs.declared.want.Input.TheVariants.{Begin, Reply as Replied, Refused, Came, Failed}
use Rattle.iterate.specs.declared.want.Step.{Step}
use Rattle.iterate.specs.declared.want.Want.{Want}
use Rattle.iterate.specs.declared.want.Want.TheVariants.{Book, Send, Finish}
use Rattle.clock.specs.Ticks.{Ticks}
use Rattle.replies.specs.Calls.{Calls, Lent, Draws}
use Rattle.shared_book.specs.Calling.{asks_oldest}

-- a query that went out: the server, the transport, and the octets
pub record Sent : Type 0 where
  pub server : Addr
  pub over : Over
  pub query : List ℕ

-- the query with these octets to this server, over this transport
abbrev pub query_to : Addr → Over → List ℕ → Sent
query_to server over query = record { server = server; over = over; query = query }

-- what may come of a query: these octets as its reply, or None if its exchange could not begin, broke, or had no time left
abbrev pub Hears : Type 1
Hears = Sent → Option (List ℕ) → Type 0

-- One call of a desk that may put off a look for the name to forget first: the desk before, the event, the reply or the fault, the desk after. A look that is put off leaves the desk as it was.
abbrev pub CallsSoon : {D : Type 0} → Calls D → (D → Event → Type 0) → D → Event → Result Reply AskFault → D → Type 0
CallsSoon calls puts_off desk event (Ok reply) desk' = calls desk event (Ok reply) desk'
CallsSoon calls puts_off desk event (Err (DeskRefused fault)) desk' = calls desk event (Err fault) desk'
CallsSoon calls puts_off desk event (Err Unswept) desk' = IsTrue (asks_oldest event) × puts_off desk event × (desk' ≡ desk)

-- One call of the desk, or one exchange, answers what a question wants, or a look for the name to forget first is put off. The desk numbers its calls. The first number is that of the latest call that the desk knew of when this question last called it, or, before its first call, when the octets of its client were taken. The last number is the same afterwards. With a response comes an allowance of finds for the desk, which may be any. Calls of other questions may come between two calls of this one.
pub data Answered {D : Type 0} (calls : Calls D) (seen : D → ℕ) (hears : Hears) : ℕ → Want → Input → ℕ → Type 0 where
  replied : {n n' : ℕ} {d d' : D} {event : Event} {reply : Reply} → n ≤ seen d → calls d event (Ok reply) d' → n' ≡ seen d' → Answered calls seen hears n (Book event) (Replied reply) n'
  refused : {n n' : ℕ} {d d' : D} {event : Event} {fault : DeskFault} → n ≤ seen d → calls d event (Err fault) d' → n' ≡ seen d' → Answered calls seen hears n (Book event) (Refused (DeskRefused fault)) n'
  put_off : {n n' : ℕ} {d : D} {event : Event} → n ≤ seen d → IsTrue (asks_oldest event) → n' ≡ seen d → Answered calls seen hears n (Book event) (Refused Unswept) n'
  came : {n : ℕ} {server : Addr} {over : Over} {query octets : List ℕ} {allowance : Allowance} → hears (query_to server over query) (Some octets) → Answered calls seen hears n (Send server over query) (Came octets allowance) n
  failed : {n : ℕ} {server : Addr} {over : Over} {query : List ℕ} → hears (query_to server over query) None → Answered calls seen hears n (Send server over query) Failed n

-- the steps of a task that began at this moment: it waits for the reply to the lookup of its question
abbrev pub begun_steps : Question → ℕ → List Step
begun_steps question moment = record { input = Begin; want = Book (Look moment (Asked question)) } ∷ []

-- The task of a question took these steps, since the desk knew of so many calls. Each step read the clock, each query has an identifier that the generator drew, and each step but the first had the answer to the want before it. This input comes next, and n is the number of the desk's latest call that the question knows of.
pub data Flies {D C : Type 0} (calls : Calls D) (seen : D → ℕ) (hears : Hears) (ticks : Ticks C) (since port : ℕ) (question : Question) : List Step → Input → ℕ → Type 0 where
  begins : Flies calls seen hears ticks since port question [] Begin since
  goes_on : {steps after : List Step} {input next : Input} {want : Want} {l l' : Lent C} {n n' : ℕ}
      → Flies calls seen hears ticks since port question steps input n
      → Draws ticks port question steps input l want after l' → Answered calls seen hears n want next n'
      → Flies calls seen hears ticks since port question after next n'

-- After these steps the task of a question wants this, and has no answer to it yet.
pub record IsOpen {D C : Type 0} (calls : Calls D) (seen : D → ℕ) (hears : Hears) (ticks : Ticks C) (since port : ℕ) (question : Question) (steps : List Step) (want : Want) (n : ℕ) : Type 0 where
  pub before : List Step
  pub input : Input
  pub l : Lent C
  pub l' : Lent C
  pub flies : Flies calls seen hears ticks since port question before input n
  pub draws : Draws ticks port question before input l want steps l'

-- The task waits for the reply to a query.
abbrev pub Awaits : {D C : Type 0} → Calls D → (D → ℕ) → Hears → Ticks C → ℕ → ℕ → Question → List Step → Sent → ℕ → Type 0
Awaits calls seen hears ticks since port question steps query n = IsOpen calls seen hears ticks since port question steps (Send query.server query.over query.query) n

-- The task ends in this answer, which its steps allow it to give: the answer resolves the question.
pub record Lands {D C : Type 0} (calls : Calls D) (seen : D → ℕ) (hears : Hears) (ticks : Ticks C) (since port : ℕ) (question : Question) (answer : Answer) : Type 0 where
  pub steps : List Step
  pub n : ℕ
  pub ends : IsOpen calls seen hears ticks since port question steps (Finish answer) n
