-- The way of a reply from a name server.
use Rattle.std.specs.Prelude.{ℕ, Option, List}
use Rattle.std.specs.Io.KnownBytes.{Appends, Consumes}
use Rattle.std.specs.declared.net.SocketAddr.{SocketAddr}
use Rattle.dns_text.specs.declared.addr.Addr.{Addr}
use Rattle.dns_query.specs.declared.over.Over.{Over}
use Rattle.dns_query.specs.declared.over.Over.TheVariants.{Udp, Tcp}
use Rattle.replies.specs.Framing.{framed}
use Rattle.system.specs.Place.{IsPlaceOf}

-- The query left by a socket that is connected to the place, and the reply came to that socket.
pub record ByDatagrams {S : Type 0} (opened : S → SocketAddr → Type 0) (sent came : S → List ℕ → Type 0) (place : SocketAddr) (query reply : List ℕ) : Type 0 where
  pub socket : S
  pub at : opened socket place
  pub asked : sent socket query
  pub told : came socket reply

-- The query was written preceded by its length to a connection to the place, and the reply was then read from it after its own length (RFC 1035, section 4.2.2).
pub record ByStream {C : Type 0} (connected : C → SocketAddr → Type 0) (contents remaining : C → Option (List ℕ)) (place : SocketAddr) (query reply : List ℕ) : Type 0 where
  pub fresh : C
  pub written : C
  pub read : C
  pub at : connected fresh place
  pub asked : Appends (contents fresh) (contents written) (framed query)
  pub told : Consumes (remaining written) (remaining read) (framed reply)

-- The query went to the place over this transport, and the reply came from there.
abbrev pub IsAskedAt : {S C : Type 0} → (S → SocketAddr → Type 0) → (S → List ℕ → Type 0) → (S → List ℕ → Type 0) → (C → SocketAddr → Type 0) → (C → Option (List ℕ)) → (C → Option (List ℕ))
    → Over → SocketAddr → List ℕ → List ℕ → Type 0
IsAskedAt opened sent came connected contents remaining Udp place query reply = ByDatagrams opened sent came place query reply
IsAskedAt opened sent came connected contents remaining Tcp place query reply = ByStream connected contents remaining place query reply

-- The query went to the server's place over this transport, and the reply came from there.
abbrev pub IsAskedOf : {S C : Type 0} → (S → SocketAddr → Type 0) → (S → List ℕ → Type 0) → (S → List ℕ → Type 0) → (C → SocketAddr → Type 0) → (C → Option (List ℕ)) → (C → Option (List ℕ))
    → Over → Addr → List ℕ → List ℕ → Type 0
IsAskedOf opened sent came connected contents remaining over server query reply =
    (place : SocketAddr) × IsPlaceOf server place × IsAskedAt opened sent came connected contents remaining over place query reply
