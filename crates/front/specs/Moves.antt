-- The datagrams that a socket took and sent.
use Rattle.std.specs.Prelude.{◌≡◌, ℕ, List, [], ◌∷◌}
use Rattle.std.specs.declared.net.SocketAddr.{SocketAddr}

-- a datagram from a peer, or to it
pub record Datagram : Type 0 where
  pub peer : SocketAddr
  pub octets : List ℕ

-- the datagram with these octets from this peer, or to it
abbrev pub datagram_to : SocketAddr → List ℕ → Datagram
datagram_to peer octets = record { peer = peer; octets = octets }

-- One datagram was taken, or sent: the socket before, the peer, the octets, the socket after.
abbrev pub Moves : Type 0 → Type 1
Moves S = S → SocketAddr → List ℕ → S → Type 0

-- These octets came from this peer: a call took them, in one datagram.
abbrev pub CameBy : {S : Type 0} → Moves S → SocketAddr → List ℕ → Type 0
CameBy {S} takes peer octets = (old : S) × (new : S) × takes old peer octets new

-- Just these datagrams were taken, or sent (perhaps in vain), one after another.
abbrev pub AllMoved : {S : Type 0} → Moves S → List Datagram → S → S → Type 0
AllMoved moves [] old new = new ≡ old
AllMoved {S} moves (one ∷ rest) old new = (mid : S) × moves old one.peer one.octets mid × AllMoved moves rest mid new

-- a datagram that was taken, or sent
pub data Move : Type 0 where
  took : Datagram → Move
  sent : Datagram → Move

-- Just these datagrams were taken and sent (perhaps in vain), one after another.
abbrev pub AllDone : {S : Type 0} → Moves S → Moves S → List Move → S → S → Type 0
AllDone takes sends [] old new = new ≡ old
AllDone {S} takes sends (took one ∷ rest) old new = (mid : S) × takes old one.peer one.octets mid × AllDone takes sends rest mid new
AllDone {S} takes sends (sent one ∷ rest) old new = (mid : S) × sends old one.peer one.octets mid × AllDone takes sends rest mid new

-- those that were taken
abbrev pub taken_in : List Move → List Datagram
taken_in [] = []
taken_in (took one ∷ rest) = one ∷ taken_in rest
taken_in (sent one ∷ rest) = taken_in rest

-- those that were sent
abbrev pub sent_in : List Move → List Datagram
sent_in [] = []
sent_in (took one ∷ rest) = sent_in rest
sent_in (sent one ∷ rest) = one ∷ sent_in rest
