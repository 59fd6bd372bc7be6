-- The octets that may come as the reply of a name server.
use Rattle.std.specs.Prelude.{◌≡◌, ◌<◌, ◌≤◌, ℕ, Option, Some, None, List, length}
use Rattle.std.specs.declared.net.SocketAddr.{SocketAddr}
use Rattle.replies.specs.declared.limits.TheConstants.{MOST_DATAGRAM, MOST_MESSAGE}
use Rattle.outside.specs.Asked.{IsAskedAt}
use Rattle.outside.specs.Fits.{Fits}
use Rattle.outside.specs.Line.{LineState}
use Rattle.system.specs.Place.{IsPlaceOf}
use Rattle.replies.specs.Dear.{IsLong}
use Rattle.replies.specs.Framing.{framed}
use Rattle.flight.specs.declared.sockets.Listened.{Listened}
use Rattle.flight.specs.declared.sockets.Listened.TheVariants.{Came}
use Rattle.flight.specs.Flight.{Sent}

-- Octets that take too long to read: they are longer than a datagram, and take more than `MOST_STEPS` steps.
abbrev pub IsTooDear : List ℕ → Type 0
IsTooDear octets = (MOST_DATAGRAM < length octets) × IsLong octets

-- Octets that fit a query, and are no longer than a message may be.
abbrev pub IsReply : List ℕ → List ℕ → Type 0
IsReply query octets = (length octets ≤ MOST_MESSAGE) × Fits query octets

-- The whole query has left by a connection, and these octets came after it as one message, which fits the query.
abbrev pub IsWholeReply : {C : Type 0} → List ℕ → LineState C → List ℕ → Type 0
IsWholeReply query line octets = IsReply query octets × (line.left ≡ length line.asks) × (line.came ≡ framed octets)

-- Octets that fit a query, and came from the address of the server that was asked, over the transport of the query.
abbrev pub IsServerReply : {S C : Type 0} → (S → SocketAddr → Type 0) → (S → List ℕ → Type 0) → (S → List ℕ → Type 0) → (C → SocketAddr → Type 0) → (C → Option (List ℕ)) → (C → Option (List ℕ))
    → Sent → List ℕ → Type 0
IsServerReply opened sent came connected contents remaining asked octets =
    IsReply asked.query octets × ((place : SocketAddr) × IsPlaceOf asked.server place × IsAskedAt opened sent came connected contents remaining asked.over place asked.query octets)

-- What may come of a query: a reply of the server's. Of a query that got none nothing is said.
abbrev pub MayCome : {S C : Type 0} → (S → SocketAddr → Type 0) → (S → List ℕ → Type 0) → (S → List ℕ → Type 0) → (C → SocketAddr → Type 0) → (C → Option (List ℕ)) → (C → Option (List ℕ))
    → Sent → Option (List ℕ) → Type 0
MayCome opened sent came connected contents remaining asked (Some octets) = IsServerReply opened sent came connected contents remaining asked octets
MayCome opened sent came connected contents remaining asked None = Unit {0}

-- If octets came, they are such.
abbrev pub IfCame : (List ℕ → Type 0) → Listened → Type 0
IfCame are (Came octets) = are octets
IfCame are _ = Unit {0}
