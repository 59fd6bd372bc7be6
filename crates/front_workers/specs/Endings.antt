-- The ends of the datagrams that a worker took, and what leaves for them.
use Rattle.std.specs.Prelude.{◌≡◌, ◌⊎◌, ◌<◌, ℕ, ◌+◌, Option, Some, None, List, [], ◌∷◌, map, take}
use Rattle.std.specs.declared.net.SocketAddr.{SocketAddr}
use Rattle.dns_wire.specs.declared.server.query.Asked.TheVariants.{Drop}
use Rattle.dns_wire.specs.Server.Asking.{AsksFor}
use Rattle.replies.specs.declared.limits.TheConstants.{MOST_DATAGRAM}
use Rattle.replies.specs.Reply.{fault_octets}
use Rattle.flight.specs.Leaving.{End}
use Rattle.front.specs.declared.client.UdpClient.{UdpClient}
use Rattle.front.specs.Moves.{CameBy, Datagram, Moves, datagram_to}
use Rattle.front.specs.Outgoing.{IsSentBy, OutboxState, Posts}

-- A datagram that is too long came from this peer, and has this front.
abbrev pub IsTooLong : {S : Type 0} → Moves S → SocketAddr → List ℕ → Type 0
IsTooLong takes peer front = (count : ℕ) × (MOST_DATAGRAM < count) × CameBy takes peer (take count front)

-- the end of a datagram that came in
pub data Ending {S : Type 0} (takes : Moves S) : Type 0 where
  settled : End (IsSentBy takes) → Ending takes  -- its client, from whose peer it came, gets its reply, or is owed none
  refused : (peer : SocketAddr) (front : List ℕ) → ∥ IsTooLong takes peer front ∥₁ → Ending takes  -- it is too long: its peer gets FORMERR for its front

-- the ends of these clients
abbrev pub settled_all : {S : Type 0} → (takes : Moves S) → List (End (IsSentBy takes)) → List (Ending takes)
settled_all takes ends = map settled ends

-- the datagram to a client, if it gets one, and these
abbrev pub with_reply : {S : Type 0} → UdpClient S → Option (List ℕ) → List Datagram → List Datagram
with_reply client None rest = rest
with_reply client (Some reply) rest = datagram_to client.came.peer reply ∷ rest

-- the datagrams that leave for these ends: one for each client that gets a reply, and one for each datagram that is refused
abbrev pub leaving_for : {S : Type 0} {takes : Moves S} → List (Ending takes) → List Datagram
leaving_for [] = []
leaving_for (settled end ∷ rest) = with_reply end.client end.reply (leaving_for rest)
leaving_for (refused peer front long ∷ rest) = datagram_to peer (fault_octets front 1) ∷ leaving_for rest

-- how many clients are among these ends
abbrev pub clients_in : {S : Type 0} {takes : Moves S} → List (Ending takes) → ℕ
clients_in [] = 0
clients_in (settled end ∷ rest) = 1 + clients_in rest
clients_in (refused peer front long ∷ rest) = clients_in rest

-- Datagrams that were taken end so, none is taken meanwhile, and nothing else leaves. So many clients waited, so many more came, and so many wait now.
pub record Endings {S : Type 0} (takes sends : Moves S) (more waiting : ℕ) (old : OutboxState S) (waiting' : ℕ) (new : OutboxState S) : Type 0 where
  pub ends : List (Ending takes)
  pub left : Posts takes sends [] (leaving_for ends) old new
  pub count : waiting' + clients_in ends ≡ waiting + more

-- A datagram that is too long is refused: FORMERR leaves for its peer, or, if its front is a response itself or no header, nothing.
abbrev pub Refuses : {S : Type 0} → Moves S → Moves S → SocketAddr → List ℕ → OutboxState S → OutboxState S → Type 0
Refuses takes sends peer front old new =
    (AsksFor front Drop × (new ≡ old)) ⊎ (¬ (AsksFor front Drop) × Posts takes sends [] (datagram_to peer (fault_octets front 1) ∷ []) old new)
