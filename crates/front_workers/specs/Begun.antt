-- What a worker does with the datagrams that it took.
use Rattle.std.specs.Prelude.{◌≡◌, ℕ, Option, List, [], ◌∷◌}
use Rattle.std.specs.List.{AllByRecursion}
use Rattle.std.specs.declared.net.SocketAddr.{SocketAddr}
use Rattle.system.specs.declared.came.Came.{Came}
use Rattle.system.specs.Counts.{Rises}
use Rattle.flight.specs.Bounds.{IsBounded}
use Rattle.flight.specs.Leaving.{Ends}
use Rattle.flight.specs.Waiting.{FlightState, outstanding}
use Rattle.front.specs.declared.client.UdpClient.{UdpClient}
use Rattle.front.specs.declared.inbox.Arrival.TheVariants.{Passed, TooLong, Query}
use Rattle.front_workers.specs.Accounts.{KeepsTime, WorkerState}
use Rattle.front_workers.specs.Endings.{Endings, Refuses}
use Rattle.front.specs.Moves.{AllMoved, Moves}
use Rattle.front.specs.Outgoing.{IsSentBy, OutboxState, Posts, PostsTo}
use Rattle.front.specs.Rooms.{Arrived, fronts_of}
use Rattle.front.specs.Taken.{IsTakenFrom}

-- This client comes, and is settled or waits. Nothing leaves but its reply. So many clients waited, and so many wait now.
pub record OwnEnds {S : Type 0} (takes sends : Moves S) (client : UdpClient S) (waiting : ℕ) (old : OutboxState S) (waiting' : ℕ) (new : OutboxState S) : Type 0 where
  pub ends : Ends (IsSentBy takes) (PostsTo takes sends) 1 waiting old waiting' new
  pub own : AllByRecursion (λ end. end.client ≡ client) ends.ends

-- What a worker does with the datagram at the front of a room, while its desk knows of so many calls. If there is none that can be answered, nothing changes. If it is too long, it is refused once. Else it is counted, and the client that is made of it then is settled or waits.
pub data IsBegun {S : Type 0} (takes sends : Moves S) (seen : ℕ) (came : Option Came) (room : List ℕ) (flight : FlightState) (old : WorkerState S) (flight' : FlightState) (new : WorkerState S) : Type 0 where
  passed : IsTakenFrom {S = S} room came seen Passed → flight' ≡ flight → new ≡ old → IsBegun takes sends seen came room flight old flight' new
  refused : {peer : SocketAddr} → IsTakenFrom {S = S} room came seen (TooLong peer) → Refuses takes sends peer room old.outbox new.outbox → flight' ≡ flight → new.taken ≡ old.taken → new.counts ≡ old.counts
      → IsBegun takes sends seen came room flight old flight' new
  begun : {client : UdpClient S} → IsTakenFrom room came seen (Query client) → Rises old.taken new.taken → OwnEnds takes sends client (outstanding flight) old.outbox (outstanding flight') new.outbox
      → IsBegun takes sends seen came room flight old flight' new

-- Each of these datagrams begins once, one after another.
abbrev pub AllBegin : {S : Type 0} → Moves S → Moves S → List Arrived → FlightState → WorkerState S → FlightState → WorkerState S → Type 0
AllBegin takes sends [] flight old flight' new = (flight' ≡ flight) × (new ≡ old)
AllBegin {S} takes sends (one ∷ rest) flight old flight' new =
    (seen : ℕ) × (between : FlightState) × (mid : WorkerState S) × IsBegun takes sends seen one.came one.room flight old between mid × AllBegin takes sends rest between mid flight' new

-- Just these datagrams are taken from the socket of the service. Then each of them begins once, and then what waits leaves.
pub record BatchBegins {S : Type 0} (takes sends : Moves S) (batch : List Arrived) (flight : FlightState) (old : WorkerState S) (flight' : FlightState) (new : WorkerState S) : Type 0 where
  pub before : WorkerState S
  pub between : WorkerState S
  pub came : AllMoved takes (fronts_of batch) old.outbox.socket before.outbox.socket
  pub waiting : before.outbox.waiting ≡ old.outbox.waiting
  pub untaken : before.taken ≡ old.taken
  pub uncounted : before.counts ≡ old.counts
  pub begin : AllBegin takes sends batch flight before flight' between
  pub taken : new.taken ≡ between.taken
  pub counts : new.counts ≡ between.counts
  pub left : Posts takes sends [] [] between.outbox new.outbox

-- No datagram is taken, and no client comes. Those that wait are settled, or still wait.
pub record TakesNone {S : Type 0} (takes sends : Moves S) (flight : FlightState) (old : WorkerState S) (flight' : FlightState) (new : WorkerState S) : Type 0 where
  pub taken : new.taken ≡ old.taken
  pub ends : Endings takes sends 0 (outstanding flight) old.outbox (outstanding flight') new.outbox

-- A worker ran from one state to another. At each step it took no datagram; or it took a batch, and each datagram of the batch began once.
pub data Runs {S : Type 0} (takes sends : Moves S) (flight : FlightState) (old : WorkerState S) : FlightState → WorkerState S → Type 0 where
  stays : Runs takes sends flight old flight old
  goes_on : {between flight' : FlightState} {mid new : WorkerState S} → Runs takes sends flight old between mid → TakesNone takes sends between mid flight' new → Runs takes sends flight old flight' new
  takes_batch : {between flight' : FlightState} {mid new : WorkerState S} {batch : List Arrived} → Runs takes sends flight old between mid → BatchBegins takes sends batch between mid flight' new
      → Runs takes sends flight old flight' new

-- no question in flight
abbrev pub none_in_flight : ℕ → FlightState
none_in_flight limit = record { exchanges = []; begun = []; latest = 0; limit = limit; tried = record { at = 0; began = 0 } }

-- A worker ran, at first with no question in flight. What the questions that wait at the end keep is within its bound, and no exchange began later than the clock says.
abbrev pub RunsFromNone : {S : Type 0} → Moves S → Moves S → ℕ → WorkerState S → WorkerState S → Type 0
RunsFromNone takes sends limit old new =
    (flight : FlightState) × Runs takes sends (none_in_flight limit) old flight new × IsBounded flight × KeepsTime old.clock (none_in_flight limit) new.clock flight
