-- A client's question: what is known of it while it is in flight, and how its client is settled.
use Rattle.std.specs.Prelude.{◌≡◌, ℕ, max, List, Result, Ok, Err}
use Rattle.dns_query.specs.declared.over.Over.{Over}
use Rattle.dns_text.specs.declared.record.Question.{Question}
use Rattle.dns_wire.specs.declared.server.query.Query.{Query}
use Rattle.dns_wire.specs.declared.server.query.Asked.TheVariants.{Good}
use Rattle.dns_wire.specs.Server.Asking.{AsksFor}
use Rattle.iterate.specs.declared.answer.Answer.{Answer}
use Rattle.iterate.specs.declared.task.State.{State}
use Rattle.iterate.specs.declared.want.AskFault.TheVariants.{Desk as DeskRefused}
use Rattle.iterate.specs.declared.want.Input.{Input}
use Rattle.iterate.specs.declared.want.Input.TheVariants.{Reply as Replied, Refused}
use Rattle.iterate.specs.declared.want.Step.{Step}
use Rattle.iterate.specs.declared.want.Want.TheVariants.{Book}
use Rattle.history.specs.declared.event.Ask.TheVariants.{Answer as Asked}
use Rattle.history.specs.declared.desk.DeskFault.{DeskFault}
use Rattle.history.specs.declared.event.Event.{Event}
use Rattle.history.specs.declared.event.Event.TheVariants.{Look}
use Rattle.history.specs.declared.event.Reply.{Reply}
use Rattle.clock.specs.Ticks.{Ticks}
use Rattle.replies.specs.Calls.{Calls}
use Rattle.flight.specs.declared.asking.Asking.{Asking}
use Rattle.flight.specs.declared.table.BeginAttempt.{BeginAttempt}
use Rattle.flight.specs.declared.sockets.Listened.{Listened}
use Rattle.flight.specs.declared.counts.Counts.{Counts}
use Rattle.flight.specs.declared.sockets.Client.{Ghosts as OfClient}
use Rattle.flight.specs.declared.sockets.Sockets.{Ghosts as OfSockets}
use Rattle.flight.specs.Clients.{SettlesBy, SettlesOrWaits}
use Rattle.flight.specs.Flight.{Sent, Hears, Answered, Awaits, Flies, Lands}
use Rattle.flight.specs.Origin.{Origin, IsOriginOf, origin_of}
use Rattle.flight.specs.Told.{IsOutcome}
use Rattle.flight.specs.Waiting.{FlightState}

-- what counts of a question while it waits
abbrev pub origin_in : {G K : Type 0} → (K → ℕ) → Asking G K → Origin
origin_in network asking = origin_of asking.began asking.query.question.owner (network asking.client)

-- the attempt of a question to begin an exchange now
abbrev pub attempt_of : {G K : Type 0} → ℕ → Asking G K → BeginAttempt
attempt_of now asking = record { at = now; began = asking.began }

-- The client may have sent these octets, they are this query, and the task is for its question.
pub record IsAskedBy {K : Type 0} (sends : K → List ℕ → Type 0) (port : ℕ) (octets : List ℕ) (client : K) (query : Query) (task : State) : Type 0 where
  pub own : sends client octets
  pub good : AsksFor octets (Good query)
  pub question : task.question ≡ query.question
  pub port_is : task.port ≡ port

-- A question began by a lookup of it, at a reading of the clock. This came of it, and n is the number of the desk's latest call that the question knows of.
pub record HasLooked {D C : Type 0} (calls : Calls D) (seen : D → ℕ) (hears : Hears) (ticks : Ticks C) (since : ℕ) (question : Question) (moment : ℕ) (came : Input) (n : ℕ) : Type 0 where
  pub clock : C
  pub clock' : C
  pub ticked : ticks clock moment clock'
  pub answered : Answered calls seen hears since (Book (Look moment (Asked question))) came n

-- A question waited for the reply to a query, its exchange has ended, and this was heard of it.
pub record HasHeard {D C : Type 0} (calls : Calls D) (seen : D → ℕ) (hears : Hears) (ticks : Ticks C) (since port : ℕ) (question : Question) (steps : List Step) (heard : Listened) (n : ℕ) : Type 0 where
  pub query : Sent
  pub awaits : Awaits calls seen hears ticks since port question steps query n
  pub came : IsOutcome (hears query) heard

-- The task of a question waits for the reply to this query.
abbrev pub AwaitsFor : {D C G K : Type 0} → Calls D → (D → ℕ) → Hears → Ticks C → (K → ℕ) → Asking G K → Sent → Type 0
AwaitsFor calls seen hears ticks since asking query = Awaits calls seen hears ticks (since asking.client) asking.port asking.query.question asking.task.steps.items query asking.seen

-- The task of a question wants to send a query, and has no answer to that yet.
abbrev pub WantsSend : {D C G K : Type 0} → Calls D → (D → ℕ) → Hears → Ticks C → (K → ℕ) → Asking G K → Type 0
WantsSend calls seen hears ticks since asking = (query : Sent) × AwaitsFor calls seen hears ticks since asking query

-- The exchange of a question has ended, and this was heard of it.
abbrev pub HasHeardFor : {D C G K : Type 0} → Calls D → (D → ℕ) → Hears → Ticks C → (K → ℕ) → Asking G K → Listened → Type 0
HasHeardFor calls seen hears ticks since asking heard = HasHeard calls seen hears ticks (since asking.client) asking.port asking.query.question asking.task.steps.items heard asking.seen

-- The task of a question took its steps, and this input comes next.
abbrev pub FliesFor : {D C G K : Type 0} → Calls D → (D → ℕ) → Hears → Ticks C → (K → ℕ) → Asking G K → Input → Type 0
FliesFor calls seen hears ticks since asking input = Flies calls seen hears ticks (since asking.client) asking.port asking.query.question asking.task.steps.items input asking.seen

-- The task of a question ends in this answer, where this is the port of name servers.
abbrev pub LandsFor : {D C G K : Type 0} → Calls D → (D → ℕ) → Hears → Ticks C → (K → ℕ) → ℕ → Asking G K → Answer → Type 0
LandsFor calls seen hears ticks since port asking answer = Lands calls seen hears ticks (since asking.client) port asking.query.question answer

-- The client of a question is settled, or waits with it for an exchange that begins now.
abbrev pub SettlesAsking : {W D L C G K : Type 0} → OfClient K → OfSockets W D L C K → ℕ → Asking G K → FlightState → W → FlightState → W → Type 0
SettlesAsking its by now asking flight old flight' new =
    SettlesOrWaits its.sent by.server_port by.counts by.outbox by.posts now asking.client (λ origin. origin ≡ origin_in its.network asking) flight old flight' new

-- The client of a question is settled, and its reply, or none, gives this answer.
abbrev pub AnswersAsking : {W O G K : Type 0} → (K → Over) → (W → ℕ) → (W → Counts) → (W → O) → (O → K → List ℕ → O → Type 0) → Asking G K → List ℕ → Answer → W → W → Type 0
AnswersAsking over server_port counts outbox posts asking octets answer old new =
    SettlesBy over server_port counts outbox posts asking.client octets asking.query answer old new

-- The client of a query is settled, or waits for an exchange that begins now, with a question that counts as begun at this moment.
abbrev pub SettlesQuery : {W D L C K : Type 0} → OfClient K → OfSockets W D L C K → ℕ → K → Query → ℕ → FlightState → W → FlightState → W → Type 0
SettlesQuery its by now client query began flight old flight' new =
    SettlesOrWaits its.sent by.server_port by.counts by.outbox by.posts now client (λ origin. origin ≡ origin_of began query.question.owner (its.network client)) flight old flight' new

-- The client that sent these octets is settled, or waits with the question that they ask. It counts as begun now, or at the latest moment at which an exchange began.
abbrev pub SettlesOctets : {W D L C K : Type 0} → OfClient K → OfSockets W D L C K → ℕ → K → List ℕ → FlightState → W → FlightState → W → Type 0
SettlesOctets its by now client octets flight old flight' new =
    SettlesOrWaits its.sent by.server_port by.counts by.outbox by.posts now client (IsOriginOf octets (max now flight.latest) (its.network client)) flight old flight' new

-- what a question gets of a call of the desk
abbrev pub input_of : Result Reply DeskFault → Input
input_of (Ok reply) = Replied reply
input_of (Err fault) = Refused (DeskRefused fault)

-- The desk was called with an event, and this came of it.
abbrev pub IsCalled : {D : Type 0} → Calls D → D → Event → Input → D → Type 0
IsCalled calls desk event input desk' = (answer : Result Reply DeskFault) × calls desk event answer desk' × (input ≡ input_of answer)
