-- The work of a worker that takes messages by connections.
use Rattle.std.specs.Prelude.{◌≡◌, ◌⊎◌, ◌≤◌, ℕ, ◌+◌, ◌-◌, ◌^◌, List, [], ◌∷◌}
use Rattle.std.specs.List.{AllByRecursion}
use Rattle.std.specs.declared.time.Instant.{Instant}
use Rattle.mio.specs.declared.event.event.Event.{Event}
use Rattle.clock.specs.Moments.{ClockState, millis_at}
use Rattle.system.specs.Counts.{Rises}
use Rattle.replies.specs.Framing.{HasLength}
use Rattle.flight.specs.declared.counts.Counts.{Counts}
use Rattle.flight.specs.declared.kept.TheConstants.{MOST_AT_REST}
use Rattle.flight.specs.declared.table.TheConstants.{PATIENCE, QUESTION_PATIENCE}
use Rattle.flight.specs.Bounds.{IsBounded, kept_all}
use Rattle.flight.specs.Counted.{IsFull, NeverFall, no_counts}
use Rattle.flight.specs.Leaving.{Ends}
use Rattle.flight.specs.Waiting.{FlightState, IsPatient, IsTimely, outstanding}
use Rattle.front_workers.specs.Accounts.{KeepsOn, KeepsTime}
use Rattle.front_workers.specs.Asking.{AskingState}
use Rattle.front_workers.specs.Begun.{none_in_flight}
use Rattle.front.specs.declared.tcp.client.TcpClient.{TcpClient}
use Rattle.front.specs.Connections.{ConnectionsState, Owes, ServesOne, Tends, no_connections}
use Rattle.front_workers.specs.Looked.{LooksAtAll}
use Rattle.front.specs.Passages.{Passes}

-- the visible state of a worker that takes messages by connections; each counter stops at 2^64 - 1
pub record StreamWorker (S : Type 0) : Type 0 where
  pub asking : AskingState  -- how it asks name servers
  pub taken : ℕ  -- how many messages were taken
  pub failures : ℕ  -- how many turns failed
  pub connections : ConnectionsState S  -- the connections of clients
  pub counts : Counts  -- the counters of clients and exchanges
  pub clock : ClockState  -- the clock by which exchanges and connections are timed
  pub reported : List Event  -- what the poll reported last

-- a worker that has taken no message yet
abbrev pub fresh_worker : {S : Type 0} → AskingState → Instant → StreamWorker S
fresh_worker asking start = record { asking = asking; taken = 0; failures = 0; connections = no_connections; counts = no_counts; clock = record { start = start; last = 0 }; reported = [] }

-- The client sent these octets: they are its message.
abbrev pub IsMessageOf : {S : Type 0} → TcpClient S → List ℕ → Type 0
IsMessageOf client octets = octets ≡ client.message.value

-- A reply comes to be owed to the connection by which the message of its client came, or that has ended, or ends.
abbrev pub OwesTo : {S : Type 0} → Passes S → Passes S → Type 0 → ConnectionsState S → TcpClient S → List ℕ → ConnectionsState S → Type 0
OwesTo reads writes drained old client reply new = Owes reads writes drained client.key client.serial reply old new

-- So many clients waited, and so many more came whose messages were taken. Each waits now, or was settled once. Each exchange that began is under way for one of those that wait, or ended once. That holds unless a counter reached its last value.
pub record AreAccounted (waiting taken : ℕ) (old : Counts) (waiting' taken' : ℕ) (new : Counts) : Type 0 where
  pub more : taken ≤ taken'
  pub never_fall : NeverFall old new
  pub add_up : ((waiting' + new.settled + taken ≡ waiting + old.settled + taken') × (waiting' + new.ended + old.opened ≡ waiting + old.ended + new.opened)) ⊎ (IsFull new ⊎ (2 ^ 64 - 1 ≤ taken'))

-- A client comes, and is counted. It is settled, or waits from the clock's last moment on. Nothing is owed but its reply. The limits of what is in flight are kept, and name servers are asked as before.
pub record BeginsClient {S : Type 0} (reads writes : Passes S) (drained : Type 0) (client : TcpClient S) (flight : FlightState) (old : StreamWorker S) (flight' : FlightState) (new : StreamWorker S) : Type 0 where
  pub counted : Rises old.taken new.taken
  pub ends : Ends IsMessageOf (OwesTo reads writes drained) 1 (outstanding flight) old.connections (outstanding flight') new.connections
  pub own : AllByRecursion (λ end. end.client ≡ client) ends.ends
  pub accounts : AreAccounted (outstanding flight) old.taken old.counts (outstanding flight') new.taken new.counts
  pub keeps : KeepsOn flight old.failures old.clock old.asking flight' new.failures new.clock new.asking

-- A message comes whole by a connection. The client that is made of it is that connection's, and begins once.
pub record MessageBegins {S : Type 0} (reads writes : Passes S) (drained : Type 0) (flight : FlightState) (old : StreamWorker S) (flight' : FlightState) (new : StreamWorker S) : Type 0 where
  pub client : TcpClient S
  pub mid : StreamWorker S
  pub long : HasLength client.message.value
  pub came : ServesOne reads writes client.key client.serial (client.message.value ∷ []) [] old.connections mid.connections
  pub network : came.before.network ≡ client.network
  pub untaken : mid.taken ≡ old.taken
  pub begins : BeginsClient reads writes drained client flight mid flight' new

-- A worker ran from one state to another. At each step connections began, went on or ended, with no message and no reply; or clients that waited were settled; or one message came, and began once.
pub data StreamRuns {S : Type 0} (reads writes : Passes S) (drained : Type 0) (flight : FlightState) (old : StreamWorker S) : FlightState → StreamWorker S → Type 0 where
  stays : StreamRuns reads writes drained flight old flight old
  tends : {between : FlightState} {mid new : StreamWorker S} → StreamRuns reads writes drained flight old between mid
      → Tends reads writes mid.connections new.connections → new.taken ≡ mid.taken → StreamRuns reads writes drained flight old between new
  settles : {between flight' : FlightState} {mid new : StreamWorker S} → StreamRuns reads writes drained flight old between mid
      → Ends IsMessageOf (OwesTo reads writes drained) 0 (outstanding between) mid.connections (outstanding flight') new.connections → new.taken ≡ mid.taken
      → StreamRuns reads writes drained flight old flight' new
  begins : {between flight' : FlightState} {mid new : StreamWorker S} → StreamRuns reads writes drained flight old between mid → MessageBegins reads writes drained between mid flight' new
      → StreamRuns reads writes drained flight old flight' new

-- A worker went on: it ran, each client and each exchange is accounted for, the limit of exchanges is kept, what questions keep stays within its bound, no turn failed, exchanges begin at moments that its clock read, and it asks name servers as before.
pub record StreamGoesOn {S : Type 0} (reads writes : Passes S) (drained : Type 0) (flight : FlightState) (old : StreamWorker S) (flight' : FlightState) (new : StreamWorker S) : Type 0 where
  pub runs : StreamRuns reads writes drained flight old flight' new
  pub accounts : AreAccounted (outstanding flight) old.taken old.counts (outstanding flight') new.taken new.counts
  pub keeps : KeepsOn flight old.failures old.clock old.asking flight' new.failures new.clock new.asking

-- In a turn each exchange that the poll had reported was listened to, and each whose time was up by the clock had ended. So had each question whose time was up. Then those that waited kept no more than they may at rest.
pub record StreamEndsOverdue {S : Type 0} (reads writes : Passes S) (drained : Type 0) (flight : FlightState) (old : StreamWorker S) (flight' : FlightState) (new : StreamWorker S) : Type 0 where
  pub between : FlightState
  pub mid : StreamWorker S
  pub before : StreamRuns reads writes drained flight old between mid
  pub onward : old.clock.last ≤ mid.clock.last
  pub patient : IsPatient PATIENCE (millis_at mid.clock.last) between
  pub timely : IsTimely QUESTION_PATIENCE (millis_at mid.clock.last) between
  pub relieved : kept_all between ≤ MOST_AT_REST
  pub looks : LooksAtAll new.reported (millis_at mid.clock.last) flight old.counts between mid.counts
  pub listened : mid.counts.listened ≤ new.counts.listened
  pub after : StreamRuns reads writes drained between mid flight' new

-- A worker ran, at first with no question in flight. Each message and each exchange is accounted for, and so many exchanges at most are under way at the end. What the questions that wait then keep is within its bound, and no exchange began later than the clock says.
abbrev pub StreamRunsFromNone : {S : Type 0} → Passes S → Passes S → Type 0 → ℕ → StreamWorker S → StreamWorker S → Type 0
StreamRunsFromNone reads writes drained limit old new =
    (flight : FlightState) × StreamRuns reads writes drained (none_in_flight limit) old flight new × (outstanding flight ≤ limit) × IsBounded flight
    × AreAccounted 0 old.taken old.counts (outstanding flight) new.taken new.counts × KeepsTime old.clock (none_in_flight limit) new.clock flight
