-- What a worker does with datagrams, one after another.
use Rattle.std.proofs.Common.{◌≡◌, ◌∙◌, ◌<◌, ◌+◌, ◌++◌, ℕ, List, [], ◌∷◌, get_or, length, map, take, ap, sym, refl, subst}
use Rattle.std.proofs.lemmas.List.{map_more}
use Rattle.std.proofs.Math.Logic.{∥∥₁_map}
use Rattle.std.specs.Prelude.{Option, Some, IfSome}
use Rattle.std.specs.List.{AllByRecursion}
use Rattle.std.specs.declared.net.SocketAddr.{SocketAddr}
use Rattle.replies.specs.declared.limits.TheConstants.{MOST_DATAGRAM}
use Rattle.system.specs.declared.came.Came.{Came}
use Rattle.flight.specs.Leaving.{End, Ends}
use Rattle.flight.specs.Waiting.{FlightState}
use Rattle.front.specs.declared.client.UdpClient.{UdpClient}
use Rattle.front_workers.specs.Accounts.{WorkerState}
use Rattle.front_workers.specs.Begun.{AllBegin, BatchBegins, IsBegun, OwnEnds, Runs, TakesNone, goes_on, stays, takes_batch}
use Rattle.front.specs.Rooms.{Arrived, fronts_of}
use Rattle.front_workers.specs.Endings.{IsTooLong}
use Rattle.front.specs.Moves.{AllMoved, CameBy, Moves}
use Rattle.front.specs.Outgoing.{IsSentBy, OutboxState, Posts, PostsTo}
use Rattle.front_workers.proofs.Posting.{endings_none, endings_then}
use Rattle.front.proofs.Sending.{posts_none}

-- The front of a datagram that is too long came from its peer.
pub too_long : {S : Type 0} (takes : Moves S) {peer : SocketAddr} {front : List ℕ} {came : Option Came} → ∥ IfSome came (λ (c : Came). CameBy takes c.peer (take c.count front)) ∥₁
    → (count : ℕ) × (MOST_DATAGRAM < count) × (came ≡ Some (record { peer = peer; count = count })) → ∥ IsTooLong takes peer front ∥₁
too_long takes {front = front} so taken =
    ∥∥₁_map so (λ is. (taken.0, taken.1, subst (λ (o : Option Came). IfSome o (λ (c : Came). CameBy takes c.peer (take c.count front))) taken.2 is))

-- A client sent the octets of its datagram.
pub sent_by : {S : Type 0} (takes : Moves S) (client : UdpClient S) {room : List ℕ} {came : Option Came} → ∥ IfSome came (λ (c : Came). CameBy takes c.peer (take c.count room)) ∥₁
    → client.room.value ≡ room → came ≡ Some client.came → IsSentBy takes client (take client.came.count room)
sent_by takes client {room = room} so room_is came_is = (
  ap (take client.came.count) (sym room_is),
  ∥∥₁_map so (λ is. subst (λ (o : Option Came). IfSome o (λ (c : Came). CameBy takes c.peer (take c.count room))) came_is is),
)

module _ {S : Type 0} (takes sends : Moves S) where
  all_begin_then : (first second : List Arrived) (a b c : FlightState) (old mid new : WorkerState S) → AllBegin takes sends first a old b mid → AllBegin takes sends second b mid c new
      → AllBegin takes sends (first ++ second) a old c new
  all_begin_then [] second a b c old mid new same rest =
      subst (λ (state : WorkerState S). AllBegin takes sends second a state c new) same.1 (subst (λ (flight : FlightState). AllBegin takes sends second flight mid c new) same.0 rest)
  all_begin_then (one ∷ first) second a b c old mid new begin rest = (begin.0, begin.1, begin.2, begin.3, all_begin_then first second begin.1 b c begin.2 mid new begin.4 rest)

module _ {S : Type 0} {takes sends : Moves S} where
  -- The client of a datagram ends or waits, where nothing leaves before or after.
  pub own_ends : {client : UdpClient S} {waiting waiting' : ℕ} {old before after new : OutboxState S} → before ≡ old → new ≡ after
      → (ends : Ends (IsSentBy takes) (PostsTo takes sends) 1 waiting before waiting' after) → AllByRecursion (λ (end : End (IsSentBy takes)). end.client ≡ client) ends.ends → OwnEnds takes sends client waiting old waiting' new
  own_ends {client = client} {waiting = waiting} {waiting' = waiting'} {old = old} {after = after} front back ends own =
      subst (λ (out : OutboxState S). OwnEnds takes sends client waiting old waiting' out) (sym back)
      (subst (λ (out : OutboxState S). OwnEnds takes sends client waiting out waiting' after) front (record { ends = ends; own = own }))

  -- The next datagram begins.
  pub begun_on : {X : Type 0} (view : X → Arrived) (slots : List X) (i : ℕ) (slot : X) (seen : ℕ) (a b c : FlightState) (old mid new : WorkerState S)
      → i < length slots → slot ≡ get_or slots i slot → AllBegin takes sends (map view (take i slots)) a old b mid → IsBegun takes sends seen (view slot).came (view slot).room b mid c new
      → AllBegin takes sends (map view (take (i + 1) slots)) a old c new
  begun_on {X = X} view slots i slot seen a b c old mid new within is before begin =
      let next = map_more view slots i slot within ∙ ap (λ (s : X). map view (take i slots) ++ view s ∷ []) (sym is) in
      subst (λ (list : List Arrived). AllBegin takes sends list a old c new) (sym next)
      (all_begin_then takes sends (map view (take i slots)) (view slot ∷ []) a b c old mid new before (seen, c, new, begin, (refl, refl)))

  -- A batch begins, where its datagrams were taken, and what waits leaves.
  pub batch_begins : {batch : List Arrived} {a b : FlightState} {old new : WorkerState S} (before between : WorkerState S) → AllMoved takes (fronts_of batch) old.outbox.socket before.outbox.socket
      → before.outbox.waiting ≡ old.outbox.waiting → before.taken ≡ old.taken → before.counts ≡ old.counts → AllBegin takes sends batch a before b between
      → new.taken ≡ between.taken → new.counts ≡ between.counts → Posts takes sends [] [] between.outbox new.outbox → BatchBegins takes sends batch a old b new
  batch_begins before between came waiting untaken uncounted begin taken counts left =
      record { before = before; between = between; came = came; waiting = waiting; untaken = untaken; uncounted = uncounted; begin = begin; taken = taken; counts = counts; left = left }

  -- No datagram is taken, and nothing leaves or ends.
  pub rests : (flight : FlightState) (old new : WorkerState S) → new.outbox ≡ old.outbox → new.taken ≡ old.taken → TakesNone takes sends flight old flight new
  rests flight old new outbox taken = record { taken = taken; ends = endings_none (posts_none outbox) refl }

  -- What was taken later was none either.
  pub takes_none_then : (a b c : FlightState) (old mid new : WorkerState S) → TakesNone takes sends a old b mid → TakesNone takes sends b mid c new → TakesNone takes sends a old c new
  takes_none_then a b c old mid new first second = record { taken = second.taken ∙ first.taken; ends = endings_then first.ends second.ends }

  -- A worker ran on.
  pub runs_then : {a b : FlightState} {old mid : WorkerState S} {c : FlightState} {new : WorkerState S} → Runs takes sends a old b mid → Runs takes sends b mid c new → Runs takes sends a old c new
  runs_then first stays = first
  runs_then first (goes_on second step) = goes_on (runs_then first second) step
  runs_then first (takes_batch second step) = takes_batch (runs_then first second) step
