-- How a worker that takes messages by connections goes on.
use Rattle.std.proofs.Common.{◌≡◌, ◌∙◌, ◌≤◌, ℕ, List, [], ◌∷◌, ap, inl, inr, refl, subst, sym, arith}
use Rattle.mio.specs.declared.event.event.Event.{Event}
use Rattle.clock.specs.Moments.{ClockState}
use Rattle.system.specs.Counts.{Rises}
use Rattle.replies.specs.Framing.{HasLength}
use Rattle.flight.specs.declared.counts.Counts.{Counts}
use Rattle.flight.specs.Bounds.{IsBounded}
use Rattle.flight.specs.Leaving.{Ends}
use Rattle.flight.specs.Waiting.{FlightState, IsAccounted, outstanding}
use Rattle.front.specs.declared.tcp.client.TcpClient.{TcpClient}
use Rattle.front.specs.Connections.{ConnectionsState, ServesOne, Tends}
use Rattle.front.specs.Passages.{Passes}
use Rattle.front_workers.specs.Streaming.{AreAccounted, BeginsClient, IsMessageOf, MessageBegins, OwesTo, StreamGoesOn, StreamRuns, StreamWorker, begins, settles, stays, tends}
use Rattle.front_workers.specs.Accounts.{KeepsTime}
use Rattle.front_workers.specs.Asking.{AskingState}
use Rattle.front_workers.proofs.Accounting.{full_on, keeps_settled, keeps_still, keeps_then, none_fell}

-- the visible state of a worker, by its parts
abbrev pub stream_of : {S : Type 0} → AskingState → ℕ → ℕ → ConnectionsState S → Counts → ClockState → List Event → StreamWorker S
stream_of asking taken failures connections counts clock reported = record { asking = asking; taken = taken; failures = failures; connections = connections; counts = counts; clock = clock; reported = reported }

-- No message is taken, and the clients and exchanges that there were go on.
pub accounts_on : (w w' t t' : ℕ) (old new : Counts) → t' ≡ t → IsAccounted 0 w old w' new → AreAccounted w t old w' t' new
accounts_on w w' t t' old new same accounted = record {
  more = omega (arith, same);
  never_fall = accounted.never_fall;
  add_up = elim accounted.add_up [
    | inl all ↦ inl (omega (arith, all.clients, same), omega (arith, all.exchanges))
    | inr full ↦ inr (inl full)
  ];
}

-- One message is taken.
pub accounts_one : (w w' t t' : ℕ) (old new : Counts) → Rises t t' → IsAccounted 1 w old w' new → AreAccounted w t old w' t' new
accounts_one w w' t t' old new rises accounted = record {
  more = elim rises [ inl one ↦ omega (arith, one) | inr last ↦ omega (arith, last.1) ];
  never_fall = accounted.never_fall;
  add_up = elim accounted.add_up [
    | inl all ↦ elim rises [
      | inl one ↦ inl (omega (arith, all.clients, one), omega (arith, all.exchanges))
      | inr last ↦ inr (inr (omega (arith, last.0, last.1)))
    ]
    | inr full ↦ inr (inl full)
  ];
}

-- What is accounted for is accounted for on.
pub accounts_then : (w w' w'' t t' t'' : ℕ) (old mid new : Counts) → AreAccounted w t old w' t' mid → AreAccounted w' t' mid w'' t'' new → AreAccounted w t old w'' t'' new
accounts_then w w' w'' t t' t'' old mid new before after = record {
  more = omega (arith, before.more, after.more);
  never_fall = none_fell old mid new before.never_fall after.never_fall;
  add_up = elim before.add_up [
    | inl one ↦ elim after.add_up [
      | inl two ↦ inl (omega (arith, one.0, two.0), omega (arith, one.1, two.1))
      | inr end ↦ inr end
    ]
    | inr end ↦ elim end [
      | inl full ↦ inr (inl (full_on mid new after.never_fall full))
      | inr many ↦ inr (inr (omega (arith, many, after.more)))
    ]
  ];
}

module _ {S : Type 0} {reads writes : Passes S} {drained : Type 0} where
  -- A worker ran on.
  pub runs_on : {a b : FlightState} {old mid : StreamWorker S} {c : FlightState} {new : StreamWorker S} → StreamRuns reads writes drained a old b mid → StreamRuns reads writes drained b mid c new
      → StreamRuns reads writes drained a old c new
  runs_on first stays = first
  runs_on first (tends second went same) = tends (runs_on first second) went same
  runs_on first (settles second ends same) = settles (runs_on first second) ends same
  runs_on first (begins second begun) = begins (runs_on first second) begun

  -- What goes on and on goes on.
  pub streams_then : (a b c : FlightState) (old mid new : StreamWorker S) → StreamGoesOn reads writes drained a old b mid → StreamGoesOn reads writes drained b mid c new → StreamGoesOn reads writes drained a old c new
  streams_then a b c old mid new before after = record {
    runs = runs_on before.runs after.runs;
    accounts = accounts_then _ _ _ _ _ _ old.counts mid.counts new.counts before.accounts after.accounts;
    keeps = keeps_then a b c before.keeps after.keeps;
  }

  -- Connections begin, go on and end.
  pub streams_tend : (flight : FlightState) (old new : StreamWorker S) → Tends reads writes old.connections new.connections → new.taken ≡ old.taken → new.counts ≡ old.counts → new.failures ≡ old.failures
      → new.asking ≡ old.asking → old.clock.last ≤ new.clock.last → StreamGoesOn reads writes drained flight old flight new
  streams_tend flight old new went taken counts failures asking onward = record {
    runs = tends stays went taken;
    accounts = accounts_on _ _ _ _ old.counts new.counts taken (rw counts (record {
      never_fall = record { settled = omega arith; opened = omega arith; ended = omega arith; listened = omega arith; expired = omega arith };
      add_up = inl (record { clients = omega arith; exchanges = omega arith });
    }));
    keeps = keeps_still flight old.clock new.clock failures asking onward;
  }

  -- Clients that wait are settled, or wait on.
  pub streams_settle : (a b : FlightState) (old new : StreamWorker S) → Ends IsMessageOf (OwesTo reads writes drained) 0 (outstanding a) old.connections (outstanding b) new.connections
      → IsAccounted 0 (outstanding a) old.counts (outstanding b) new.counts → outstanding b ≤ outstanding a → (IsBounded a → IsBounded b) → b.limit ≡ a.limit
      → new.taken ≡ old.taken → new.failures ≡ old.failures → new.asking ≡ old.asking → KeepsTime old.clock a new.clock b → StreamGoesOn reads writes drained a old b new
  streams_settle a b old new ends accounted no_more bounded limit taken failures asking time = record {
    runs = settles stays ends taken;
    accounts = accounts_on _ _ _ _ old.counts new.counts taken accounted;
    keeps = keeps_settled a b no_more bounded limit failures asking time;
  }

  -- A message came, and began.
  pub streams_begin : (a b : FlightState) (old mid new : StreamWorker S) → mid.taken ≡ old.taken → mid.counts ≡ old.counts → mid.failures ≡ old.failures → mid.clock ≡ old.clock → mid.asking ≡ old.asking
      → (one : MessageBegins reads writes drained a old b new) → one.mid ≡ mid → StreamGoesOn reads writes drained a old b new
  streams_begin a b old mid new taken counts failures clock asking one is =
      let begun = rw is at one.begins in
      record {
        runs = begins stays one;
        accounts = rw taken at (rw counts at begun.accounts);
        keeps = record {
          within = begun.keeps.within;
          bounded = begun.keeps.bounded;
          limit = begun.keeps.limit;
          failures = begun.keeps.failures ∙ failures;
          time = rw clock at begun.keeps.time;
          asking = begun.keeps.asking ∙ asking;
        };
      }

-- All but the connections is as it was, and is so on.
pub kept_on : {S : Type 0} (a b c : StreamWorker S) → b ≡ record a { connections = b.connections } → c ≡ record b { connections = c.connections } → c ≡ record a { connections = c.connections }
kept_on a b c first second = second ∙ ap (λ (worker : StreamWorker _). record worker { connections = c.connections }) first

-- Connections begin, go on and end, and all else is as it was.
pub streams_kept : {S : Type 0} {reads writes : Passes S} {drained : Type 0} (flight : FlightState) (old new : StreamWorker S) → Tends reads writes old.connections new.connections
    → new ≡ record old { connections = new.connections } → StreamGoesOn reads writes drained flight old flight new
streams_kept flight old new went kept =
    streams_tend flight old new went (ap (λ (worker : StreamWorker _). worker.taken) kept) (ap (λ (worker : StreamWorker _). worker.counts) kept) (ap (λ (worker : StreamWorker _). worker.failures) kept)
    (ap (λ (worker : StreamWorker _). worker.asking) kept) (omega (arith, ap (λ (worker : StreamWorker _). worker.clock.last) kept))

-- A message came by a connection, and the client that is made of it begins.
pub message_begins : {S : Type 0} {reads writes : Passes S} {drained : Type 0} (client : TcpClient S) (key serial network : ℕ) (message : List ℕ) (a b : FlightState) (old mid new : StreamWorker S)
    → client.key ≡ key → client.serial ≡ serial → client.network ≡ network → client.message.value ≡ message
    → HasLength message × ((one : ServesOne reads writes key serial (message ∷ []) [] old.connections mid.connections) × (one.before.network ≡ network))
    → mid.taken ≡ old.taken → BeginsClient reads writes drained client a mid b new → (one : MessageBegins reads writes drained a old b new) × (one.mid ≡ mid)
message_begins {reads = reads} {writes = writes} client key serial network message a b old mid new key_is serial_is network_is message_is came untaken begun =
    let Came : ℕ → ℕ → ℕ → List ℕ → Type 0 = λ k s n m. HasLength m × ((one : ServesOne reads writes k s (m ∷ []) [] old.connections mid.connections) × (one.before.network ≡ n)) in
    let own : Came client.key client.serial client.network client.message.value =
    subst (λ (k : ℕ). Came k client.serial client.network client.message.value) (sym key_is)
    (subst (λ (s : ℕ). Came key s client.network client.message.value) (sym serial_is)
    (subst (λ (n : ℕ). Came key serial n client.message.value) (sym network_is)
    (subst (λ (m : List ℕ). Came key serial network m) (sym message_is) came))) in
    (record { client = client; mid = mid; long = own.0; came = own.1.0; network = own.1.1; untaken = untaken; begins = begun }, refl)
