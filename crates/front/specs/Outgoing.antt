-- The replies that leave by the socket of the service, and those that wait to leave.
use Rattle.std.specs.Prelude.{◌≡◌, ℕ, List, [], ◌∷◌, ◌++◌, take}
use Rattle.flight.specs.Told.{octets_of}
use Rattle.front.specs.declared.client.UdpClient.{UdpClient}
use Rattle.front.specs.declared.outgoing.Outgoing.{Outgoing}
use Rattle.front.specs.Moves.{AllDone, CameBy, Datagram, Move, Moves, datagram_to, sent_in, taken_in}

-- the datagram of a reply that waits
abbrev pub datagram_of : Outgoing → Datagram
datagram_of out = datagram_to out.peer (octets_of out.reply)

-- the visible state of an outbox: the socket of the service, and the datagrams that wait to be sent by it
pub record OutboxState (S : Type 0) : Type 0 where
  pub socket : S
  pub waiting : List Datagram

-- Just these datagrams are taken from the socket. Those that are to leave join the ones that wait. Of them all the first are sent, in order, and the others wait. Nothing else is sent.
pub record Posts {S : Type 0} (takes sends : Moves S) (taken more : List Datagram) (old new : OutboxState S) : Type 0 where
  pub moves : List Move
  pub went : AllDone takes sends moves old.socket new.socket
  pub took : taken_in moves ≡ taken
  pub order : sent_in moves ++ new.waiting ≡ old.waiting ++ more

-- A reply joins the datagrams that wait, for the address from which its client's datagram came.
abbrev pub PostsTo : {S : Type 0} → Moves S → Moves S → OutboxState S → UdpClient S → List ℕ → OutboxState S → Type 0
PostsTo takes sends old client reply new = Posts takes sends [] (datagram_to client.came.peer reply ∷ []) old new

-- The client sent these octets: they are those of its datagram, and came from its peer.
abbrev pub IsSentBy : {S : Type 0} → Moves S → UdpClient S → List ℕ → Type 0
IsSentBy takes client octets = (octets ≡ take client.came.count client.room.value) × ∥ CameBy takes client.came.peer octets ∥₁
