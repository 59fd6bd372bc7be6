-- The balance of a worker's clients and exchanges.
use Rattle.std.specs.Prelude.{◌≡◌, ◌⊎◌, ◌≤◌, ℕ, ◌+◌, ◌-◌, ◌^◌, max, [], List}
use Rattle.std.specs.declared.time.Instant.{Instant}
use Rattle.mio.specs.declared.event.event.Event.{Event}
use Rattle.clock.specs.Moments.{ClockState, millis_at}
use Rattle.flight.specs.declared.counts.Counts.{Counts}
use Rattle.flight.specs.Bounds.{IsBounded}
use Rattle.flight.specs.Counted.{NeverFall, IsFull, no_counts}
use Rattle.flight.specs.Leaving.{Ends}
use Rattle.flight.specs.Waiting.{FlightState, IsAccounted, outstanding}
use Rattle.front_workers.specs.Asking.{AskingState}
use Rattle.front_workers.specs.Endings.{Ending, clients_in, leaving_for}
use Rattle.front.specs.Moves.{Datagram, Moves}
use Rattle.front.specs.Outgoing.{OutboxState, Posts}

-- the visible state of a worker; each counter stops at 2^64 - 1
pub record WorkerState (S : Type 0) : Type 0 where
  pub asking : AskingState  -- how it asks name servers
  pub taken : ℕ  -- how many queries were taken
  pub failures : ℕ  -- how many turns failed
  pub outbox : OutboxState S  -- the socket of the service, and the replies that wait to be sent by it
  pub counts : Counts  -- the counters of clients and exchanges
  pub clock : ClockState  -- the clock by which exchanges are timed
  pub reported : List Event  -- what the poll reported last

-- a worker that has taken no query yet
abbrev pub fresh_worker : {S : Type 0} → S → AskingState → Instant → WorkerState S
fresh_worker socket asking start = record { asking = asking; taken = 0; failures = 0; outbox = record { socket = socket; waiting = [] }; counts = no_counts; clock = record { start = start; last = 0 }; reported = [] }

-- Each query that waited, or was taken between two states of a worker, now waits or was settled once. Each exchange that began is under way for one of those that wait, or ended once.
pub record AllAddUp {S : Type 0} (waiting : ℕ) (old : WorkerState S) (waiting' : ℕ) (new : WorkerState S) : Type 0 where
  pub clients : waiting' + new.counts.settled + old.taken ≡ waiting + old.counts.settled + new.taken
  pub exchanges : waiting' + new.counts.ended + old.counts.opened ≡ waiting + old.counts.ended + new.counts.opened

-- Just these ends of datagrams lie between two states of a worker, and nothing leaves but what leaves for them. Each query that waited or was taken now waits, or ends once, unless the count of those that were taken reached its last value. The counts add up, unless a counter did. Before, and after, so many clients wait.
pub record Accounts {S : Type 0} (takes sends : Moves S) (waiting : ℕ) (old : WorkerState S) (waiting' : ℕ) (new : WorkerState S) : Type 0 where
  pub came : List Datagram
  pub ends : List (Ending takes)
  pub left : Posts takes sends came (leaving_for ends) old.outbox new.outbox
  pub once : (waiting' + clients_in ends + old.taken ≡ waiting + new.taken) ⊎ (2 ^ 64 - 1 ≤ new.taken)
  pub taken : old.taken ≤ new.taken
  pub never_fall : NeverFall old.counts new.counts
  pub add_up : AllAddUp waiting old waiting' new ⊎ (IsFull new.counts ⊎ (2 ^ 64 - 1 ≤ new.taken))

-- A clock does not go back. No exchange begins later than its last moment, or than the latest one before.
pub record KeepsTime (old : ClockState) (flight : FlightState) (new : ClockState) (flight' : FlightState) : Type 0 where
  pub onward : old.last ≤ new.last
  pub latest : flight'.latest ≤ max (millis_at new.last) flight.latest

-- Questions in flight went on. The wait of each client that waited goes on, or ended once, and exchanges are accounted for. No more wait than before, what they keep stays within its bound, and the limit of exchanges is kept.
pub record QuestionsGoOn {O K : Type 0} (sent : K → List ℕ → Type 0) (posts : O → K → List ℕ → O → Type 0) (flight : FlightState) (counts : Counts) (old : O) (flight' : FlightState) (counts' : Counts) (new : O) : Type 0 where
  pub accounted : IsAccounted 0 (outstanding flight) counts (outstanding flight') counts'
  pub ends : Ends sent posts 0 (outstanding flight) old (outstanding flight') new
  pub no_more : outstanding flight' ≤ outstanding flight
  pub bounded : IsBounded flight → IsBounded flight'
  pub limit : flight'.limit ≡ flight.limit

-- What a worker keeps that goes on: the limit of exchanges, the bound of what questions keep, how many turns failed, the clock by which exchanges begin, and how it asks name servers.
pub record KeepsOn (flight : FlightState) (failed : ℕ) (clock : ClockState) (asks : AskingState) (flight' : FlightState) (failed' : ℕ) (clock' : ClockState) (asks' : AskingState) : Type 0 where
  pub within : outstanding flight ≤ flight.limit → outstanding flight' ≤ flight.limit
  pub bounded : IsBounded flight → IsBounded flight'
  pub limit : flight'.limit ≡ flight.limit
  pub failures : failed' ≡ failed
  pub time : KeepsTime clock flight clock' flight'
  pub asking : asks' ≡ asks

-- A worker went on with its questions in flight: each is accounted for, the limit of exchanges is kept, what they keep stays within its bound, no turn failed, exchanges begin at moments that its clock read, and it asks name servers as before.
pub record GoesOn {S : Type 0} (takes sends : Moves S) (flight : FlightState) (old : WorkerState S) (flight' : FlightState) (new : WorkerState S) : Type 0 where
  pub accounts : Accounts takes sends (outstanding flight) old (outstanding flight') new
  pub keeps : KeepsOn flight old.failures old.clock old.asking flight' new.failures new.clock new.asking
