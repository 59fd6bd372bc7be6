-- How the counts of a worker go on.
use Rattle.std.proofs.Common.{◌≡◌, ◌∙◌, ◌≤◌, ◌++◌, ℕ, ◌+◌, ap, max, List, [], inl, inr, refl, subst, sym, arith}
use Rattle.system.specs.Counts.{Rises}
use Rattle.plain_workers.specs.Working.{HasFailed}
use Rattle.flight.specs.declared.counts.Counts.{Counts}
use Rattle.flight.specs.Bounds.{IsBounded}
use Rattle.flight.specs.Counted.{NeverFall, IsFull}
use Rattle.flight.specs.Origin.{Origin}
use Rattle.flight.specs.Waiting.{FlightState, GoesOnOrBegins, IsAccounted, WaitsFrom, outstanding}
use Rattle.front_workers.specs.Accounts.{WorkerState, Accounts, GoesOn, KeepsOn, KeepsTime}
use Rattle.front_workers.specs.Asking.{AskingState}
use Rattle.front_workers.specs.Endings.{Endings}
use Rattle.mio.specs.declared.event.event.Event.{Event}
use Rattle.clock.specs.Moments.{ClockState, millis_at}
use Rattle.front.specs.Moves.{AllMoved, Datagram, Moves}
use Rattle.front.specs.Outgoing.{OutboxState, Posts}
use Rattle.front_workers.proofs.Posting.{clients_then, endings_none, leaving_then}
use Rattle.front.proofs.Sending.{posts_none, posts_taken, posts_then}

pub none_fell : (old mid new : Counts) → NeverFall old mid → NeverFall mid new → NeverFall old new
none_fell old mid new before after = record {
  settled = omega (arith, before.settled, after.settled);
  opened = omega (arith, before.opened, after.opened);
  ended = omega (arith, before.ended, after.ended);
  expired = omega (arith, before.expired, after.expired);
  listened = omega (arith, before.listened, after.listened);
}

-- No count changed.
pub same_counts : (waiting : ℕ) (counts : Counts) → IsAccounted 0 waiting counts waiting counts
same_counts waiting counts = record {
  never_fall = record { settled = omega arith; opened = omega arith; ended = omega arith; listened = omega arith; expired = omega arith };
  add_up = inl (record { clients = omega arith; exchanges = omega arith });
}

-- What was full is.
pub full_on : (old new : Counts) → NeverFall old new → IsFull old → IsFull new
full_on old new later full = elim full [
  | inl settled ↦ inl (omega (arith, settled, later.settled))
  | inr other ↦ elim other [ inl opened ↦ inr (inl (omega (arith, opened, later.opened))) | inr ended ↦ inr (inr (omega (arith, ended, later.ended))) ]
]

-- What is counted is counted on.
pub accounted_on : (w w' w'' : ℕ) (old mid new : Counts) → IsAccounted 0 w old w' mid → IsAccounted 0 w' mid w'' new → IsAccounted 0 w old w'' new
accounted_on w w' w'' old mid new before after = record {
  never_fall = none_fell old mid new before.never_fall after.never_fall;
  add_up = elim before.add_up [
    | inl one ↦ elim after.add_up [
      | inl two ↦ inl (record { clients = omega (arith, one.clients, two.clients); exchanges = omega (arith, one.exchanges, two.exchanges) })
      | inr full ↦ inr full
    ]
    | inr full ↦ inr (full_on mid new after.never_fall full)
  ];
}

-- Nothing begins while a clock may be read.
pub time_on : (flight : FlightState) (old new : ClockState) → old.last ≤ new.last → KeepsTime old flight new flight
time_on flight old new onward = record { onward = onward; latest = omega arith }

-- Exchanges begin, one time after another.
pub time_then : (a b c : FlightState) (old mid new : ClockState) → KeepsTime old a mid b → KeepsTime mid b new c → KeepsTime old a new c
time_then a b c old mid new before after = record {
  onward = omega (arith, before.onward, after.onward);
  latest = omega (arith, before.latest, after.latest, after.onward);
}

-- The latest exchange is that before, or begins now.
pub latest_begun : (now : ℕ) (of : Origin → Type 0) (old new : FlightState) → WaitsFrom now of old new → new.latest ≤ max now old.latest
latest_begun now of old new waits = elim waits [
  | inl stays ↦
      let same : new.latest ≡ old.latest = ap (λ (state : FlightState). state.latest) stays.same in
      omega (arith, same)
  | inr begins ↦ omega (arith, begins.latest)
]

pub latest_on : (now : ℕ) (old new : FlightState) → GoesOnOrBegins now old new → new.latest ≤ max now old.latest
latest_on now old new on = elim on.latest [
  | inl same ↦ omega (arith, same)
  | inr begun ↦ omega (arith, begun)
]

-- What begins at the clock's last moment, at most, is in time.
pub time_at : (now : ℕ) (a b : FlightState) (clock : ClockState) → now ≤ millis_at clock.last → b.latest ≤ max now a.latest → KeepsTime clock a clock b
time_at now a b clock read latest = record { onward = omega arith; latest = omega (arith, read, latest) }

-- the visible state of a worker, by its parts
abbrev pub worker_of : {S : Type 0} → AskingState → ℕ → ℕ → OutboxState S → Counts → ClockState → List Event → WorkerState S
worker_of asking taken failures outbox counts clock reported = record { asking = asking; taken = taken; failures = failures; outbox = outbox; counts = counts; clock = clock; reported = reported }

-- What is kept on and on is kept.
pub keeps_then : (a b c : FlightState) {failed failed' failed'' : ℕ} {clock clock' clock'' : ClockState} {asks asks' asks'' : AskingState} → KeepsOn a failed clock asks b failed' clock' asks' → KeepsOn b failed' clock' asks' c failed'' clock'' asks''
    → KeepsOn a failed clock asks c failed'' clock'' asks''
keeps_then a b c before after = record {
  within = λ few. omega (arith, after.within (omega (arith, before.within few, before.limit)), before.limit);
  bounded = λ few. after.bounded (before.bounded few);
  limit = after.limit ∙ before.limit;
  failures = after.failures ∙ before.failures;
  time = time_then a b c _ _ _ before.time after.time;
  asking = after.asking ∙ before.asking;
}

-- It is kept while no exchange more is under way.
pub keeps_settled : (a b : FlightState) {failed failed' : ℕ} {clock clock' : ClockState} {asks asks' : AskingState} → outstanding b ≤ outstanding a → (IsBounded a → IsBounded b) → b.limit ≡ a.limit → failed' ≡ failed → asks' ≡ asks
    → KeepsTime clock a clock' b → KeepsOn a failed clock asks b failed' clock' asks'
keeps_settled a b no_more bounded limit failures asking time = record {
  within = λ few. omega (arith, few, no_more);
  bounded = bounded;
  limit = limit;
  failures = failures;
  time = time;
  asking = asking;
}

-- It is kept while nothing in flight changes.
pub keeps_still : (flight : FlightState) (clock clock' : ClockState) {failed failed' : ℕ} {asks asks' : AskingState} → failed' ≡ failed → asks' ≡ asks → clock.last ≤ clock'.last → KeepsOn flight failed clock asks flight failed' clock' asks'
keeps_still flight clock clock' failures asking onward = record {
  within = λ few. few;
  bounded = λ few. few;
  limit = refl;
  failures = failures;
  time = time_on flight clock clock' onward;
  asking = asking;
}

module _ {S : Type 0} {takes sends : Moves S} where
  -- What goes on is accounted for as a whole.
  pub followed : (w w' w'' : ℕ) (old mid new : WorkerState S) → Accounts takes sends w old w' mid → Accounts takes sends w' mid w'' new → Accounts takes sends w old w'' new
  followed w w' w'' old mid new before after = record {
    came = before.came ++ after.came;
    ends = before.ends ++ after.ends;
    left = subst (λ (list : List Datagram). Posts takes sends (before.came ++ after.came) list old.outbox new.outbox) (sym (leaving_then before.ends after.ends)) (posts_then before.left after.left);
    once = elim after.once [
      | inl two ↦ elim before.once [
        | inl one ↦ inl (omega (arith, clients_then before.ends after.ends, one, two))
        | inr many ↦ inr (omega (arith, many, after.taken))
      ]
      | inr many ↦ inr many
    ];
    taken = omega (arith, before.taken, after.taken);
    never_fall = none_fell old.counts mid.counts new.counts before.never_fall after.never_fall;
    add_up = elim before.add_up [
      | inl one ↦ elim after.add_up [
        | inl two ↦ inl (record { clients = omega (arith, one.clients, two.clients); exchanges = omega (arith, one.exchanges, two.exchanges) })
        | inr end ↦ inr end
      ]
      | inr end ↦ elim end [
        | inl full ↦ inr (inl (full_on mid.counts new.counts after.never_fall full))
        | inr many ↦ inr (inr (omega (arith, many, after.taken)))
      ]
    ];
  }

  -- What goes on and on goes on.
  pub gone_on : (a b c : FlightState) (old mid new : WorkerState S) → GoesOn takes sends a old b mid → GoesOn takes sends b mid c new → GoesOn takes sends a old c new
  gone_on a b c old mid new before after = record {
    accounts = followed _ _ _ old mid new before.accounts after.accounts;
    keeps = keeps_then a b c before.keeps after.keeps;
  }

  -- A query that was taken begins.
  pub begun : (w w' : ℕ) (old new : WorkerState S) → Rises old.taken new.taken → IsAccounted 1 w old.counts w' new.counts → Endings takes sends 1 w old.outbox w' new.outbox
      → Accounts takes sends w old w' new
  begun w w' old new rises accounted ends = record {
    came = [];
    ends = ends.ends;
    left = ends.left;
    once = elim rises [ inl one ↦ inl (omega (arith, ends.count, one)) | inr last ↦ inr (omega (arith, last.0, last.1)) ];
    taken = elim rises [ inl one ↦ omega (arith, one) | inr last ↦ omega (arith, last.1) ];
    never_fall = accounted.never_fall;
    add_up = elim accounted.add_up [
      | inl all ↦ elim rises [
        | inl one ↦ inl (record { clients = omega (arith, all.clients, one); exchanges = all.exchanges })
        | inr last ↦ inr (inr (omega (arith, last.0, last.1)))
      ]
      | inr full ↦ inr (inl full)
    ];
  }

  -- No query is taken, and those that wait go on.
  pub went_on : (w w' : ℕ) (old new : WorkerState S) → new.taken ≡ old.taken → IsAccounted 0 w old.counts w' new.counts → Endings takes sends 0 w old.outbox w' new.outbox
      → Accounts takes sends w old w' new
  went_on w w' old new same accounted ends = record {
    came = [];
    ends = ends.ends;
    left = ends.left;
    once = inl (omega (arith, ends.count, same));
    taken = omega (arith, same);
    never_fall = accounted.never_fall;
    add_up = elim accounted.add_up [
      | inl all ↦ inl (record { clients = omega (arith, all.clients, same); exchanges = all.exchanges })
      | inr full ↦ inr (inl full)
    ];
  }

  -- Nothing has happened yet, and none waits.
  pub none_yet : (w : ℕ) (old new : WorkerState S) → new ≡ old → w ≡ 0 → Accounts takes sends 0 old w new
  none_yet w old new same none = subst (λ (state : WorkerState S). Accounts takes sends 0 old w state) (sym same)
      (subst (λ (waiting : ℕ). Accounts takes sends 0 old waiting old) (sym none) (went_on 0 0 old old refl (same_counts 0 old.counts) (endings_none (posts_none refl) refl)))

  -- No query is taken, no exchange more is under way, and no turn fails.
  pub looked_on : (a b : FlightState) (old new : WorkerState S) → new.taken ≡ old.taken → IsAccounted 0 (outstanding a) old.counts (outstanding b) new.counts
      → Endings takes sends 0 (outstanding a) old.outbox (outstanding b) new.outbox → outstanding b ≤ outstanding a → (IsBounded a → IsBounded b) → b.limit ≡ a.limit → new.failures ≡ old.failures
      → new.asking ≡ old.asking → KeepsTime old.clock a new.clock b → GoesOn takes sends a old b new
  looked_on a b old new same accounted ends no_more bounded limit failures asking time = record {
    accounts = went_on _ _ old new same accounted ends;
    keeps = keeps_settled a b no_more bounded limit failures asking time;
  }

  -- Nothing goes on, but what waits may leave, or a datagram is refused.
  pub stayed : (flight : FlightState) (old new : WorkerState S) → Endings takes sends 0 (outstanding flight) old.outbox (outstanding flight) new.outbox
      → new.taken ≡ old.taken → new.counts ≡ old.counts → new.failures ≡ old.failures → new.asking ≡ old.asking → old.clock.last ≤ new.clock.last → GoesOn takes sends flight old flight new
  stayed flight old new ends taken counts failures asking onward = record {
    accounts = went_on _ _ old new taken (rw counts (same_counts (outstanding flight) old.counts)) ends;
    keeps = keeps_still flight old.clock new.clock failures asking onward;
  }

  -- Datagrams are taken, and nothing else happens.
  pub received : (flight : FlightState) (old new : WorkerState S) (list : List Datagram) → AllMoved takes list old.outbox.socket new.outbox.socket → new.outbox.waiting ≡ old.outbox.waiting
      → new.taken ≡ old.taken → new.counts ≡ old.counts → new.failures ≡ old.failures → new.asking ≡ old.asking → old.clock.last ≤ new.clock.last → GoesOn takes sends flight old flight new
  received flight old new list went waiting taken counts failures asking onward =
      let same : IsAccounted 0 (outstanding flight) old.counts (outstanding flight) new.counts = rw counts (same_counts (outstanding flight) old.counts) in
      record {
        accounts = record {
          came = list;
          ends = [];
          left = posts_taken list went waiting;
          once = inl (omega (arith, taken));
          taken = omega (arith, taken);
          never_fall = same.never_fall;
          add_up = elim same.add_up [
            | inl all ↦ inl (record { clients = omega (arith, all.clients, taken); exchanges = all.exchanges })
            | inr full ↦ inr (inl full)
          ];
        };
        keeps = keeps_still flight old.clock new.clock failures asking onward;
      }

  -- A failure changes nothing of it.
  pub failed : (w w' : ℕ) (old mid new : WorkerState S) → Accounts takes sends w old w' mid → new.taken ≡ mid.taken → new.counts ≡ mid.counts → new.outbox ≡ mid.outbox
      → Accounts takes sends w old w' new
  failed w w' old mid new before taken counts outbox = record {
    came = before.came;
    ends = before.ends;
    left = rw outbox before.left;
    once = elim before.once [ inl one ↦ inl (omega (arith, one, taken)) | inr many ↦ inr (omega (arith, many, taken)) ];
    taken = omega (arith, before.taken, taken);
    never_fall = rw counts before.never_fall;
    add_up = elim before.add_up [
      | inl all ↦ inl (record { clients = rw counts (omega (arith, all.clients, taken)); exchanges = rw counts all.exchanges })
      | inr end ↦ elim end [ inl full ↦ inr (inl (rw counts full)) | inr many ↦ inr (inr (omega (arith, many, taken))) ]
    ];
  }

-- A turn that did not fail begins the count anew.
pub not_failed : (n old mid new : ℕ) → HasFailed n old mid → new ≡ mid → HasFailed 0 old new
not_failed n old mid new before same =
    elim before [ inl more ↦ inl (omega (arith, more, same)) | inr last ↦ inr (omega (arith, last, same)) ]

-- One that failed is counted.
pub failed_more : (n old mid mid' new : ℕ) → HasFailed n old mid → mid' ≡ mid → Rises mid' new → HasFailed (n + 1) old new
failed_more n old mid mid' new before same rises =
    elim rises [
      | inl one ↦ elim before [ inl more ↦ inl (omega (arith, more, same, one)) | inr last ↦ inr (omega (arith, last, same, one)) ]
      | inr last ↦ inr (omega (arith, last.0, last.1))
    ]
