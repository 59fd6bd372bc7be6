-- The fate of clients: settled, or waiting for an exchange.
use Rattle.std.specs.Prelude.{◌≡◌, ◌≤◌, ◌+◌, ℕ, Option, List}
use Rattle.std.specs.List.{AllByRecursion}
use Rattle.dns_query.specs.declared.over.Over.{Over}
use Rattle.dns_wire.specs.declared.server.query.Query.{Query}
use Rattle.iterate.specs.declared.answer.Answer.{Answer}
use Rattle.flight.specs.declared.counts.Counts.{Counts}
use Rattle.flight.specs.Bounds.{IsBounded}
use Rattle.flight.specs.Counted.{CountsSettled}
use Rattle.flight.specs.Leaving.{Ends, Leaves}
use Rattle.flight.specs.Origin.{Origin}
use Rattle.flight.specs.Places.{KeepsPlaces}
use Rattle.flight.specs.Told.{IsGiven}
use Rattle.flight.specs.Waiting.{Attempts, FlightState, HasQuestion, KeepsOrigins, GoesOnOrBegins, IsAccounted, JoinsNone, WaitsFrom, outstanding}

-- One client is settled: this reply leaves, or none, and nothing else does. No other counter changes, and the port of name servers is the same.
pub record Settles {W O K : Type 0} (server_port : W → ℕ) (counts : W → Counts) (outbox : W → O) (posts : O → K → List ℕ → O → Type 0) (client : K) (reply : Option (List ℕ))
    (old new : W) : Type 0 where
  pub port : server_port new ≡ server_port old
  pub settled : CountsSettled (counts old) (counts new)
  pub left : Leaves posts client reply (outbox old) (outbox new)

-- One client is settled, and the reply to its query, or none, gives this answer.
abbrev pub SettlesBy : {W O K : Type 0} → (K → Over) → (W → ℕ) → (W → Counts) → (W → O) → (O → K → List ℕ → O → Type 0) → K → List ℕ → Query → Answer → W → W → Type 0
SettlesBy over server_port counts outbox posts client octets query answer old new =
    (reply : Option (List ℕ)) × IsGiven (over client) octets query answer reply × Settles server_port counts outbox posts client reply old new

-- One client more waits than those in flight. Some of these waits end, and nothing else leaves.
abbrev pub EndsWithOneMore : {W O K : Type 0} → (K → List ℕ → Type 0) → (O → K → List ℕ → O → Type 0) → (W → O) → FlightState → W → FlightState → W → Type 0
EndsWithOneMore sent posts outbox flight old flight' new = Ends sent posts 0 (outstanding flight + 1) (outbox old) (outstanding flight') (outbox new)

-- This client is settled, or waits with such a question for an exchange that begins now. Nothing leaves but its reply. No exchange is listened to, and none expires. The limit of exchanges is kept if it was kept before, and so is the bound of what questions keep. No zone and no network takes places that others need.
pub record SettlesOrWaits {W O K : Type 0} (sent : K → List ℕ → Type 0) (server_port : W → ℕ) (counts : W → Counts) (outbox : W → O) (posts : O → K → List ℕ → O → Type 0) (now : ℕ) (client : K) (of : Origin → Type 0)
    (flight : FlightState) (old : W) (flight' : FlightState) (new : W) : Type 0 where
  pub port : server_port new ≡ server_port old
  pub ends : Ends sent posts 1 (outstanding flight) (outbox old) (outstanding flight') (outbox new)
  pub own : AllByRecursion (λ end. end.client ≡ client) ends.ends
  pub accounted : IsAccounted 1 (outstanding flight) (counts old) (outstanding flight') (counts new)
  pub unheard : (counts new).listened ≡ (counts old).listened
  pub unexpired : (counts new).expired ≡ (counts old).expired
  pub waits : WaitsFrom now of flight flight'
  pub within : outstanding flight ≤ flight.limit → outstanding flight' ≤ flight.limit
  pub places : KeepsPlaces flight flight'
  pub bounded : IsBounded flight → IsBounded flight'
  pub limit : flight'.limit ≡ flight.limit

-- No client is lost, and none is answered twice: each that waited is settled, or still waits. Nothing leaves but the replies of those that are settled. Each exchange under way was under way before or begins now, for a question that waited before. There are no more of them. So it is with each attempt to begin one. The bound of what questions keep holds if it held before.
pub record LosesNone {W O K : Type 0} (sent : K → List ℕ → Type 0) (server_port : W → ℕ) (counts : W → Counts) (outbox : W → O) (posts : O → K → List ℕ → O → Type 0) (now : ℕ)
    (flight : FlightState) (old : W) (flight' : FlightState) (new : W) : Type 0 where
  pub port : server_port new ≡ server_port old
  pub ends : Ends sent posts 0 (outstanding flight) (outbox old) (outstanding flight') (outbox new)
  pub accounted : IsAccounted 0 (outstanding flight) (counts old) (outstanding flight') (counts new)
  pub begins : GoesOnOrBegins now flight flight'
  pub no_more : outstanding flight' ≤ outstanding flight
  pub origins : KeepsOrigins flight flight'
  pub joins_none : JoinsNone flight flight'
  pub attempts : Attempts now (HasQuestion flight) flight flight'
  pub bounded : IsBounded flight → IsBounded flight'
  pub limit : flight'.limit ≡ flight.limit

-- So it is whatever the time is.
abbrev pub LosesNoneAtAnyTime : {W O K : Type 0} → (K → List ℕ → Type 0) → (W → ℕ) → (W → Counts) → (W → O) → (O → K → List ℕ → O → Type 0) → FlightState → W → FlightState → W → Type 0
LosesNoneAtAnyTime sent server_port counts outbox posts flight old flight' new =
    (now : ℕ) → LosesNone sent server_port counts outbox posts now flight old flight' new
