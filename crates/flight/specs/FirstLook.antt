-- The first lookup of a question, and what it settles.
use Rattle.std.specs.Prelude.{◌≡◌, ◌≢◌, ℕ, List, None, Some, Result, IfSome}
use Rattle.local_zone.specs.declared.local_answer.Local.TheVariants as local
use Rattle.dns_text.specs.declared.record.Question.{Question}
use Rattle.dns_wire.specs.declared.server.query.Query.{Query}
use Rattle.dns_wire.specs.declared.server.query.Asked.TheVariants.{Good}
use Rattle.dns_wire.specs.Server.Asking.{AsksFor}
use Rattle.history.specs.declared.desk.DeskFault.{DeskFault}
use Rattle.history.specs.declared.event.Ask.TheVariants.{Answer as Asked}
use Rattle.history.specs.declared.event.Event.TheVariants.{Look}
use Rattle.history.specs.declared.event.Reply.{Reply}
use Rattle.history.specs.declared.event.Reply.TheVariants.{Seen}
use Rattle.history.specs.declared.event.Seen.TheVariants.{Local as LocalSeen}
use Rattle.iterate.specs.declared.want.Input.{Input}
use Rattle.iterate.specs.declared.want.Input.TheVariants.{Reply as Replied}
use Rattle.iterate.specs.Resolved.{IsNoAnswer}
use Rattle.replies.specs.Calls.{Calls}
use Rattle.flight.specs.declared.sockets.Listened.{Listened}
use Rattle.flight.specs.declared.sockets.Listened.TheVariants.{Anew}
use Rattle.flight.specs.declared.refused.HeardOrRefused.{HeardOrRefused}
use Rattle.flight.specs.Asking.{input_of}
use Rattle.flight.specs.Origin.{zone_of}
use Rattle.flight.specs.Told.{listened_of}
use Rattle.flight.specs.Waiting.{FlightState, UnderWay, exchange_at}

-- A local zone says that the question gets no reply.
abbrev pub IsSilence : Input → Type 0
IsSilence input = input ≡ Replied (Seen (LocalSeen local.Drop))

-- This came of the first lookup of a question. If it is a cached or local answer, the desk is not called again, and no exchange begins. If it is silence, nothing leaves for clients.
pub record HeedsInput {D O : Type 0} (question : Question) (input : Input) (desk : D) (flight : FlightState) (outbox : O) (desk' : D) (flight' : FlightState) (outbox' : O) : Type 0 where
  pub settled : ¬ (IsNoAnswer question input) → (desk' ≡ desk) × (flight' ≡ flight)
  pub silent : IsSilence input → outbox' ≡ outbox

-- A desk was not called for a question. Or its first call looked the question up, and what came of that was heeded.
pub data HeedsFirstLook {D O : Type 0} (calls : Calls D) (question : Question) (desk : D) (flight : FlightState) (outbox : O) (desk' : D) (flight' : FlightState) (outbox' : O) : Type 0 where
  uncalled : desk' ≡ desk → HeedsFirstLook calls question desk flight outbox desk' flight' outbox'
  looked : {moment : ℕ} {answer : Result Reply DeskFault} {mid : D} → calls desk (Look moment (Asked question)) answer mid
      → HeedsInput question (input_of answer) mid flight outbox desk' flight' outbox' → HeedsFirstLook calls question desk flight outbox desk' flight' outbox'

-- The same of a worker's sockets, before and after.
abbrev pub HeedsLook : {D W O : Type 0} → Calls D → (W → O) → Question → D → FlightState → W → D → FlightState → W → Type 0
HeedsLook calls outbox question desk flight sockets desk' flight' sockets' = HeedsFirstLook calls question desk flight (outbox sockets) desk' flight' (outbox sockets')

-- If the question begins anew by what was heard, it heeds its first lookup so.
abbrev pub HeedsAnew : {D W O : Type 0} → Calls D → (W → O) → HeardOrRefused → Question → D → FlightState → W → D → FlightState → W → Type 0
HeedsAnew calls outbox heard question desk flight sockets desk' flight' sockets' =
    listened_of heard ≡ Anew → HeedsLook calls outbox question desk flight sockets desk' flight' sockets'

-- The same of the question that the octets of a client ask, if they ask one.
abbrev pub HeedsLookOf : {D W O : Type 0} → Calls D → (W → O) → List ℕ → D → FlightState → W → D → FlightState → W → Type 0
HeedsLookOf calls outbox octets desk flight sockets desk' flight' sockets' =
    (query : Query) → AsksFor octets (Good query) → HeedsLook calls outbox query.question desk flight sockets desk' flight' sockets'

-- A call listened to an exchange. If its question is to begin anew, what comes of its first lookup is heeded. These are the questions in flight without it, before and after.
pub record HearsOut {D W L O : Type 0} (calls : Calls D) (listens : W → L → Listened → W → Type 0) (outbox : W → O) (exchange : UnderWay) (desk : D) (without : FlightState) (old : W) (desk' : D) (flight' : FlightState) (new : W) : Type 0 where
  pub line : L
  pub heard : Listened
  pub between : W
  pub listened : listens old line heard between
  pub question : Question
  pub zone : exchange.origin.zone ≡ zone_of question.owner
  pub anew : heard ≡ Anew → HeedsFirstLook calls question desk without (outbox old) desk' flight' (outbox new)

-- So it is with the exchange under a key, which is taken out first.
pub record ListensTo {D W L O : Type 0} (calls : Calls D) (listens : W → L → Listened → W → Type 0) (outbox : W → O) (key : ℕ) (exchange : UnderWay) (desk : D) (flight : FlightState) (old : W) (desk' : D) (flight' : FlightState) (new : W) : Type 0 where
  pub without : FlightState
  pub gone : exchange_at without key ≡ None
  pub others : (other : ℕ) → other ≢ key → exchange_at without other ≡ exchange_at flight other
  pub hears : HearsOut calls listens outbox exchange desk without old desk' flight' new

-- So it is with the exchange under a key, if there is one.
abbrev pub ListensAt : {D W L O : Type 0} → Calls D → (W → L → Listened → W → Type 0) → (W → O) → ℕ → D → FlightState → W → D → FlightState → W → Type 0
ListensAt calls listens outbox key desk flight old desk' flight' new = IfSome (exchange_at flight key) (λ exchange. ListensTo calls listens outbox key exchange desk flight old desk' flight' new)

-- Some exchanges are listened to so, one after another. The queue may name fewer of them meanwhile.
pub data ListensToEach {D W L O : Type 0} (calls : Calls D) (listens : W → L → Listened → W → Type 0) (outbox : W → O) (desk : D) (flight : FlightState) (old : W) : D → FlightState → W → Type 0 where
  stays : ListensToEach calls listens outbox desk flight old desk flight old
  passes : {desk' : D} {between flight' : FlightState} {mid : W} → ListensToEach calls listens outbox desk flight old desk' between mid → flight'.exchanges ≡ between.exchanges
      → ListensToEach calls listens outbox desk flight old desk' flight' mid
  listens_to : {desk' desk'' : D} {between flight' : FlightState} {mid new : W} {key : ℕ} {exchange : UnderWay} → ListensToEach calls listens outbox desk flight old desk' between mid
      → exchange_at between key ≡ Some exchange → ListensTo calls listens outbox key exchange desk' between mid desk'' flight' new → ListensToEach calls listens outbox desk flight old desk'' flight' new
