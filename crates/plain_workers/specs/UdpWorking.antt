-- The work of a worker on datagrams: each is answered, and the port is handed the reply.
use Rattle.std.specs.Prelude.{◌≡◌, ℕ, ◌<◌, ◌≤◌, Option, Some, None, Result, Ok, Err, List, length, take}
use Rattle.std.specs.declared.net.SocketAddr.{SocketAddr}
use Rattle.dns_wire.specs.declared.server.query.Asked.TheVariants.{Drop}
use Rattle.dns_wire.specs.Server.Asking.{AsksFor}
use Rattle.system.specs.declared.device.DeviceFault.{DeviceFault}
use Rattle.system.specs.declared.came.Came.{Came}
use Rattle.replies.specs.declared.limits.TheConstants.{MOST_DATAGRAM}
use Rattle.replies.specs.Reply.{fault_octets}
use Rattle.plain_workers.specs.Stream.{Serving, Lacking}
use Rattle.plain_workers.specs.Working.{Coming, Handling}

-- The reply to a datagram. It is served as a query, and gets SERVFAIL (2) if no memory was left. If it is too long, only its front was read, and it gets FORMERR (1), unless it is a response itself.
pub data Answered {O : Type 0} (serves : Serving O) (lacks : Lacking O) (m : List ℕ) (old : O) : Option (List ℕ) → O → Type 0 where
  served : {reply : Option (List ℕ)} {new : O} → length m ≤ MOST_DATAGRAM → serves old m reply new → Answered serves lacks m old reply new
  unserved : {out : List ℕ} {new : O} → length m ≤ MOST_DATAGRAM → lacks old m new → out ≡ fault_octets m 2 → Answered serves lacks m old (Some out) new
  too_long : {out : List ℕ} → MOST_DATAGRAM < length m → ¬ (AsksFor m Drop) → out ≡ fault_octets m 1 → Answered serves lacks m old (Some out) old
  too_long_reply : MOST_DATAGRAM < length m → AsksFor m Drop → Answered serves lacks m old None old

-- The port was handed the reply once, for the peer, and may have failed to send it. If there is no reply, the port is as it was.
abbrev pub Given : {P : Type 0} → (P → SocketAddr → List ℕ → Result (Unit {0}) DeviceFault → P → Type 0) → SocketAddr → Option (List ℕ) → P → P → Type 0
Given gives peer None old new = new ≡ old
Given gives peer (Some reply) old new = (result : Result (Unit {0}) DeviceFault) × gives old peer reply result new

-- A datagram comes in: its peer and its length, and the room whose front it fills.
abbrev pub datagrams : {P : Type 0} → (P → Result (Option Came) DeviceFault → List ℕ → P → Type 0) → Coming P (Came × List ℕ)
datagrams takes (Ok (Some datagram)) old new = takes old (Ok (Some datagram.0)) datagram.1 new
datagrams takes (Ok None) old new = (room : List ℕ) × takes old (Ok None) room new
datagrams takes (Err fault) old new = (room : List ℕ) × takes old (Err fault) room new

-- A datagram is answered, and the port is handed the reply.
abbrev pub answering : {O P : Type 0} → Serving O → Lacking O → (P → SocketAddr → List ℕ → Result (Unit {0}) DeviceFault → P → Type 0) → Handling O P (Came × List ℕ)
answering serves lacks gives datagram o p o' p' =
    (reply : Option (List ℕ)) × Answered serves lacks (take datagram.0.count datagram.1) o reply o' × Given gives datagram.0.peer reply p p'
