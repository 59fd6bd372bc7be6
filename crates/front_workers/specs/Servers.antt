-- The exchanges of one worker's sockets with name servers: which servers may be asked, and why none is.
use Rattle.std.specs.Borrow.{Bor}
use Rattle.std.specs.declared.net.SocketAddr.{SocketAddr}
use Rattle.std.specs.Option.{option_copied}
use Rattle.std.specs.Prelude.{◌≡◌, ◌⊎◌, true, false, ℕ, List, Option, IfNone, IsSomeAnd, OnSome}
use Rattle.dns_query.specs.declared.over.Over.{Over}
use Rattle.dns_text.specs.declared.addr.Addr.{Addr}
use Rattle.flight.specs.declared.counts.Counts.{Counts}
use Rattle.flight.specs.declared.sockets.Listened.{Listened}
use Rattle.flight.specs.Counted.{CountsOpened}
use Rattle.iterate.specs.declared.search.Hunt.{Hunt}
use Rattle.outside.specs.declared.ready_net.ReadySocket.{Ghosts as OfSocket}
use Rattle.outside.specs.Exchanges.{ExchangeState, IsNotToBeHad, TellsOf}
use Rattle.outside.specs.Own.{MayAskServer}
use Rattle.outside.specs.Pauses.{HeedsPause, IsPassedOver, others_in}
use Rattle.outside.specs.Refusals.{IsLeftAlone, LooksUpList, list_of_strangers}
use Rattle.outside.specs.Withheld.{IsWithheld}
use Rattle.front_workers.specs.declared.worker_sockets.WorkerSockets.{WorkerSockets}
use Rattle.front_workers.specs.Permits.{AsksOnce}

-- ---- an exchange that begins

-- An exchange that began was counted. If none did, no counter has changed.
abbrev pub CountsBegun : {A : Type 0} → Option A → Counts → Counts → Type 0
CountsBegun result old new = OnSome result (CountsOpened old new) × IfNone result (new ≡ old)

-- If an exchange began, the service may ask its server. If none did, none could begin.
abbrev pub AsksOrFails : {L R B S C A : Type 0} → Type 0 → OfSocket S → (C → SocketAddr → Type 0) → (C → SocketAddr → Type 0) → (C → Type 0) → WorkerSockets L R B → Addr → Over → List ℕ → Option A → Type 0
AsksOrFails failed near connected is_at broken sockets server over query result =
    OnSome result (MayAskServer near.opened near.is_at connected is_at over sockets.place server)
    × IfNone result (IsNotToBeHad failed near.opened near.is_at near.failed connected is_at broken sockets.place server over query)

-- ---- an exchange that is wanted

-- The server of this exchange is not withheld and has not refused the zone lately, and if a query left, the service may ask it.
abbrev pub Allows : {L R B S C : Type 0} → OfSocket S → (C → SocketAddr → Type 0) → (C → SocketAddr → Type 0) → WorkerSockets L R B → Addr → Over → Option (Bor Hunt) → ExchangeState → Type 0
Allows near connected is_at sockets server over hunt line =
    ¬ (IsWithheld sockets.do_not_query.now server (option_copied hunt))
    × LooksUpList server over (list_of_strangers (option_copied hunt)) sockets.moment sockets.refusals
    × (line.waits ≡ false → MayAskServer near.opened near.is_at connected is_at over sockets.place server)

-- The server is withheld or has refused the zone lately, or it is passed over, for every question or for this one, or no exchange could begin.
abbrev pub IsLeftOut : {L R B S C : Type 0} → Type 0 → OfSocket S → (C → SocketAddr → Type 0) → (C → SocketAddr → Type 0) → (C → Type 0) → WorkerSockets L R B → Addr → Over → Option (Bor Hunt) → List ℕ → Type 0
IsLeftOut failed near connected is_at broken sockets server over hunt query =
    IsLeftAlone sockets.do_not_query.now server over (option_copied hunt) sockets.moment sockets.refusals
    ⊎ (IsPassedOver server (others_in (option_copied hunt)) over query sockets.moment sockets.pauses
    ⊎ IsNotToBeHad failed near.opened near.is_at near.failed connected is_at broken sockets.place server over query)

-- At most one permit is asked for, and no refusal is noted. A server that is left alone or passed over is not asked, and nothing is noted of it.
abbrev pub HeedsServer : {L R B : Type 0} → WorkerSockets L R B → Addr → Over → Option (Bor Hunt) → List ℕ → Option ExchangeState → WorkerSockets L R B → Type 0
HeedsServer old server over hunt query result new =
    (new.refusals ≡ old.refusals) × AsksOnce old.permits.asked new.permits.asked
    × HeedsPause
    (IsLeftAlone old.do_not_query.now server over (option_copied hunt) old.moment old.refusals)
    (IsSomeAnd result (λ line. line.waits ≡ true))
    result server (others_in (option_copied hunt)) over query old.moment old.pauses new.pauses

-- ---- an exchange that is listened to

-- What is told of an exchange is so, by a socket of its kind, where such replies may come.
abbrev pub TellsAt : {S : Type 0} → (Option (List ℕ) → Type 0) → OfSocket S → Listened → ExchangeState → Type 0
TellsAt may near heard line = TellsOf may near.sent near.came near.drained near.reported_again near.failed heard line
