-- The exchanges of a worker, each over a socket of its own.
use Rattle.std.specs.Prelude.{◌≡◌, ◌⊎◌, ◌<◌, ℕ, Bool, true, false, Option, Some, List, length}
use Rattle.std.specs.declared.net.SocketAddr.{SocketAddr}
use Rattle.mio.specs.declared.token.Token.{Token}
use Rattle.dns_name.specs.Labels.{Labels}
use Rattle.dns_text.specs.declared.addr.Addr.{Addr}
use Rattle.dns_query.specs.declared.over.Over.{Over}
use Rattle.dns_query.specs.declared.over.Over.TheVariants.{Udp as OverUdp, Tcp as OverTcp}
use Rattle.outside.specs.declared.framed_query.TheConstants.{MOST_QUERY}
use Rattle.outside.specs.Fits.{Fits}
use Rattle.system.specs.Place.{IsPlaceOf}
use Rattle.replies.specs.Framing.{framed}
use Rattle.outside.specs.Line.{LineState, WentFrom}
use Rattle.outside.specs.Own.{IsNoLine}
use Rattle.flight.specs.declared.sockets.Listened.{Listened}
use Rattle.flight.specs.declared.sockets.Listened.TheVariants.{Anew, Broken, Came, Nothing}
use Rattle.flight.specs.Flight.{Sent}
use Rattle.outside.specs.Replies.{IsTooDear}
use Rattle.outside.specs.declared.transport.Transport.{Transport}
use Rattle.outside.specs.declared.flaw.Flaw.{Flaw}
use Rattle.outside.specs.declared.transport.Transport.TheVariants.{Udp, Tcp, Waiting, Closed}

-- the visible state of an exchange
pub record ExchangeState : Type 0 where
  pub asked : Sent  -- the query that went out
  pub token : Token  -- the token under which the poll reports its socket
  pub zone : Option Labels  -- the zone about which the server is asked, if strangers may have named the server
  pub waits : Bool  -- whether nothing was sent, for others with an equal question are under way
  pub flaw : Option Flaw  -- what is wrong with what came, if that ended it
  pub ended : Bool  -- whether it has ended

-- A socket is connected to the server's address and reported under the token, and the query left by it.
pub record AsksBy {S : Type 0} (opened : S → SocketAddr → Type 0) (reported : S → Token → Type 0) (sent : S → List ℕ → Type 0) (exchange : ExchangeState) (socket : S) : Type 0 where
  pub over : exchange.asked.over ≡ OverUdp
  pub place : SocketAddr
  pub is_place : IsPlaceOf exchange.asked.server place
  pub at : opened socket place
  pub reported_as : reported socket exchange.token
  pub asks : sent socket exchange.asked.query

-- A connection to the server's address was reported under the token from the start, and has written part or all of the query, preceded by its length.
pub record AsksOn {C : Type 0} (connected : C → SocketAddr → Type 0) (reported : C → Token → Type 0) (contents remaining : C → Option (List ℕ)) (exchange : ExchangeState) (line : LineState C) : Type 0 where
  pub over : exchange.asked.over ≡ OverTcp
  pub place : SocketAddr
  pub is_place : IsPlaceOf exchange.asked.server place
  pub fresh : C
  pub at : connected fresh place
  pub reported_as : reported fresh exchange.token
  pub asks : line.asks ≡ framed exchange.asked.query
  pub went : WentFrom contents remaining fresh line

-- The state of an exchange, by its transport. One that has no transport yet waits. Nothing is said of one that has ended.
abbrev pub IsUnderWay : {S C : Type 0} → (S → SocketAddr → Type 0) → (S → Token → Type 0) → (S → List ℕ → Type 0) → (C → SocketAddr → Type 0) → (C → Token → Type 0) → (C → Option (List ℕ)) → (C → Option (List ℕ))
    → ExchangeState → Transport S C → Type 0
IsUnderWay opened reported sent connected reported' contents remaining exchange (Udp line) = AsksBy opened reported sent exchange line.socket
IsUnderWay opened reported sent connected reported' contents remaining exchange (Tcp line) = AsksOn connected reported' contents remaining exchange line
IsUnderWay opened reported sent connected reported' contents remaining exchange Waiting = exchange.waits ≡ true
IsUnderWay opened reported sent connected reported' contents remaining exchange Closed = Unit {0}

-- The socket of an exchange over UDP had nothing more, or the poll will report it once more.
abbrev pub HasNoneYet : {S C : Type 0} → (S → Type 0) → (S → Token → Type 0) → Token → Transport S C → Type 0
HasNoneYet drained reported_again token (Udp line) = drained line.socket ⊎ reported_again line.socket token
HasNoneYet drained reported_again token (Tcp line) = Unit {0}
HasNoneYet drained reported_again token Waiting = ⊥
HasNoneYet drained reported_again token Closed = ⊥

-- whether an exchange has ended, by its transport
abbrev pub is_ended : {S C : Type 0} → Transport S C → Bool
is_ended Closed = true
is_ended _ = false

-- Over UDP a call failed of a socket by which the query left.
abbrev pub IsCutOff : {S : Type 0} → (S → List ℕ → Type 0) → (S → Type 0) → ExchangeState → Type 0
IsCutOff {S} sent failed exchange = exchange.asked.over ≡ OverUdp → (socket : S) × sent socket exchange.asked.query × failed socket

-- Over UDP a datagram came that cannot be the reply to the query.
abbrev pub HasMisfit : {S C : Type 0} → (S → List ℕ → Type 0) → List ℕ → Transport S C → Type 0
HasMisfit came query (Udp line) = (octets : List ℕ) × came line.socket octets × ¬ (Fits query octets)
HasMisfit came query _ = ⊥

-- The same of an exchange.
abbrev pub IsStruck : {S : Type 0} → (S → List ℕ → Type 0) → (S → List ℕ → Type 0) → ExchangeState → Type 0
IsStruck {S} sent came exchange = (socket : S) × (octets : List ℕ) × sent socket exchange.asked.query × came socket octets × ¬ (Fits exchange.asked.query octets)

-- A reply came that takes too long to read.
abbrev pub IsDearReply : Listened → Type 0
IsDearReply (Came octets) = IsTooDear octets
IsDearReply _ = ⊥

-- An exchange broke: it had ended; a datagram came that does not fit its query; a reply came that takes too long to read; or, over UDP, a call of a socket by which its query left failed.
pub data IsBroken {S : Type 0} (may : Option (List ℕ) → Type 0) (sent came : S → List ℕ → Type 0) (failed : S → Type 0) (exchange : ExchangeState) : Type 0 where
  had_ended : exchange.ended ≡ true → IsBroken may sent came failed exchange
  misfit : IsStruck sent came exchange → IsBroken may sent came failed exchange
  too_dear : (octets : List ℕ) → may (Some octets) → IsTooDear octets → IsBroken may sent came failed exchange
  cut_off : IsCutOff sent failed exchange → IsBroken may sent came failed exchange

-- Of an exchange over UDP: a socket by which its query left had nothing more, or the poll will report it once more.
abbrev pub IsQuiet : {S : Type 0} → (S → List ℕ → Type 0) → (S → Type 0) → (S → Token → Type 0) → ExchangeState → Type 0
IsQuiet {S} sent drained reported_again exchange =
    exchange.asked.over ≡ OverUdp → (socket : S) × sent socket exchange.asked.query × (drained socket ⊎ reported_again socket exchange.token)

-- What is told of an exchange is so: nothing is heard only of a quiet one, one is to begin anew only if it waits, and one is told as broken only if it is.
pub record TellsOf {S : Type 0} (may : Option (List ℕ) → Type 0) (sent came : S → List ℕ → Type 0) (drained : S → Type 0) (reported_again : S → Token → Type 0) (failed : S → Type 0) (heard : Listened) (exchange : ExchangeState) : Type 0 where
  pub nothing : heard ≡ Nothing → IsQuiet sent drained reported_again exchange
  pub anew : heard ≡ Anew → exchange.waits ≡ true
  pub broken : heard ≡ Broken → IsBroken may sent came failed exchange

-- By such a socket no exchange with a server could begin: the network failed, the server's address belongs to no host, a socket that is connected to it failed, or the address is the service's own.
abbrev pub HasNoLine : {S : Type 0} → Type 0 → (S → SocketAddr → Type 0) → (S → SocketAddr → Type 0) → (S → Type 0) → SocketAddr → Addr → Type 0
HasNoLine {S} failed opened is_at failed' service server = (place : SocketAddr) × IsPlaceOf server place × IsNoLine failed opened is_at failed' service place

-- No exchange with a server could begin, by a socket or by a connection. Over TCP the query may also be longer than one may be.
pub record IsNotToBeHad {S C : Type 0} (failed : Type 0) (opened is_at : S → SocketAddr → Type 0) (failed' : S → Type 0) (connected is_from : C → SocketAddr → Type 0) (broken : C → Type 0)
    (service : SocketAddr) (server : Addr) (over : Over) (query : List ℕ) : Type 0 where
  pub udp : over ≡ OverUdp → HasNoLine failed opened is_at failed' service server
  pub tcp : over ≡ OverTcp → (MOST_QUERY < length query) ⊎ HasNoLine failed connected is_from broken service server

-- The fact holds if nothing came yet, or a reply did.
abbrev pub OnUnbroken : Listened → Type 0 → Type 0
OnUnbroken Nothing fact = fact
OnUnbroken (Came octets) fact = fact
OnUnbroken _ fact = Unit {0}
