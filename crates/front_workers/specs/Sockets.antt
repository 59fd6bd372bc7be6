-- How the worker of these sockets asks name servers, goes on with its questions, and seeds its tables.
use Rattle.std.specs.Prelude.{ℕ, List, Option}
use Rattle.flight.specs.Clients.{Settles}
use Rattle.flight.specs.Waiting.{FlightState}
use Rattle.outside.specs.Hashing.{IsSeeded}
use Rattle.front_workers.specs.declared.worker_sockets.WorkerSockets.{WorkerSockets}
use Rattle.front_workers.specs.Accounts.{QuestionsGoOn}
use Rattle.front_workers.specs.Asking.{AskingState, PostsBy, SocketsState, sockets_as}

-- so asks the worker of these sockets
abbrev pub asking_of : {L R B : Type 0} → WorkerSockets L R B → AskingState
asking_of sockets = record { server_port = sockets.server_port; place = sockets.place; do_not_query = sockets.do_not_query.now }

-- the outbox of the worker of these sockets, and how it asks
abbrev pub sockets_of : {L R B : Type 0} → WorkerSockets L R B → SocketsState B
sockets_of sockets = sockets_as sockets.outbox (asking_of sockets)

-- The client of these sockets is settled, by this reply or by none, and the worker asks name servers as before.
abbrev pub SettlesFor : {L R B K : Type 0} → (B → K → List ℕ → B → Type 0) → K → Option (List ℕ) → WorkerSockets L R B → WorkerSockets L R B → Type 0
SettlesFor posts client reply old new =
    Settles (λ sockets. sockets.server_port) (λ sockets. sockets.counts) sockets_of (PostsBy posts) client reply old new

-- Questions in flight went on by these sockets.
abbrev pub QuestionsGoOnBy : {L R B K : Type 0} → (K → List ℕ → Type 0) → (B → K → List ℕ → B → Type 0) → FlightState → WorkerSockets L R B
    → FlightState → WorkerSockets L R B → Type 0
QuestionsGoOnBy sent posts flight old flight' new = QuestionsGoOn sent (PostsBy posts) flight old.counts (sockets_of old) flight' new.counts (sockets_of new)

-- The hashes of each table of these sockets begin with this seed.
abbrev pub AreSeeded : {L R B : Type 0} → ℕ → WorkerSockets L R B → Type 0
AreSeeded seed sockets = IsSeeded seed sockets.pauses.servers × IsSeeded seed sockets.pauses.questions × IsSeeded seed sockets.refusals.zones
