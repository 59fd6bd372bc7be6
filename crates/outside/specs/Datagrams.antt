-- The state of an exchange over UDP, and the datagrams that do not fit its query.
use Rattle.std.specs.Prelude.{◌≡◌, ◌≤◌, ◌⊎◌, ◌+◌, ℕ, List}
use Rattle.std.specs.declared.net.SocketAddr.{SocketAddr}
use Rattle.mio.specs.declared.token.Token.{Token}
use Rattle.outside.specs.declared.fitting.TheConstants.{MOST_MISFITS}
use Rattle.outside.specs.declared.heard.UdpHeard.{UdpHeard}
use Rattle.outside.specs.declared.heard.UdpHeard.TheVariants.{Nothing, Reply, Misfits}
use Rattle.outside.specs.Fits.{Fits}

-- the state of an exchange over UDP, as contracts see it
pub record UdpState (S : Type 0) : Type 0 where
  pub socket : S  -- the socket
  pub misfits : ℕ  -- how many datagrams came that do not fit the query, without the one that ends the exchange

-- One more datagram that does not fit is one too many.
abbrev pub IsStruckOut : {S : Type 0} → UdpState S → Type 0
IsStruckOut line = MOST_MISFITS ≤ line.misfits + 1

-- A datagram that does not fit is counted, and the poll reports once more what came after it. Or it is one too many.
abbrev pub CountsMisfit : {S : Type 0} → (S → Token → Type 0) → Token → UdpHeard → UdpState S → UdpState S → Type 0
CountsMisfit reported_again token Nothing old new = (new.misfits ≡ old.misfits + 1) × reported_again old.socket token
CountsMisfit reported_again token (Reply count) old new = ⊥
CountsMisfit reported_again token Misfits old new = IsStruckOut old

-- A socket stays what it was: it is connected to the same place and reported under the same token, and the same query left by it.
pub record StaysAs {S : Type 0} (opened : S → SocketAddr → Type 0) (reported : S → Token → Type 0) (sent : S → List ℕ → Type 0) (old new : S) : Type 0 where
  pub at : (place : SocketAddr) → opened old place → opened new place
  pub reported_as : (token : Token) → reported old token → reported new token
  pub asks : (query : List ℕ) → sent old query → sent new query

-- One datagram was taken, which came to the socket, and does not fit the query.
abbrev pub TookMisfit : {S : Type 0} → (S → List ℕ → Type 0) → (S → List ℕ → S → Type 0) → List ℕ → S → S → Type 0
TookMisfit came takes query old new = (octets : List ℕ) × came old octets × takes old octets new × ¬ (Fits query octets)

-- A datagram that does not fit ends the exchange: it is one too many. No other one was taken.
abbrev pub EndsByMisfit : {S : Type 0} → (S → List ℕ → Type 0) → (S → List ℕ → S → Type 0) → List ℕ → UdpState S → UdpState S → Type 0
EndsByMisfit came takes query old new = TookMisfit came takes query old.socket new.socket × IsStruckOut old

-- Nothing is heard yet: no datagram waited, and none was taken; or the poll reports once more what waits, for a signal ended the call, or one datagram was taken that does not fit, which is counted.
pub data HearsNothing {S : Type 0} (came : S → List ℕ → Type 0) (takes : S → List ℕ → S → Type 0) (drained interrupted : S → Type 0) (reported_again : S → Token → Type 0) (token : Token) (query : List ℕ) (old new : UdpState S) : Type 0 where
  none : drained new.socket → new ≡ old → HearsNothing came takes drained interrupted reported_again token query old new
  put_off : interrupted new.socket → reported_again new.socket token → new ≡ old → HearsNothing came takes drained interrupted reported_again token query old new
  struck : TookMisfit came takes query old.socket new.socket → reported_again new.socket token → new.misfits ≡ old.misfits + 1
      → HearsNothing came takes drained interrupted reported_again token query old new
