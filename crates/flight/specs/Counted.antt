-- The counters of a worker, as clients are settled and exchanges begin and end.
use Rattle.std.specs.Prelude.{◌≡◌, ◌⊎◌, ◌≤◌, ℕ, ◌-◌, ◌^◌}
use Rattle.system.specs.Counts.{Rises}
use Rattle.flight.specs.declared.counts.Counts.{Counts}
use Rattle.flight.specs.declared.sockets.Listened.{Listened}
use Rattle.flight.specs.declared.sockets.Listened.TheVariants.{Nothing}

-- all counters at zero
abbrev pub no_counts : Counts
no_counts = record { settled = 0; opened = 0; ended = 0; listened = 0; expired = 0 }

-- One client more was settled, and nothing else happened.
pub record CountsSettled (old new : Counts) : Type 0 where
  pub settled : Rises old.settled new.settled
  pub opened : new.opened ≡ old.opened
  pub ended : new.ended ≡ old.ended
  pub listened : new.listened ≡ old.listened
  pub expired : new.expired ≡ old.expired

-- One exchange more began.
pub record CountsOpened (old new : Counts) : Type 0 where
  pub settled : new.settled ≡ old.settled
  pub opened : Rises old.opened new.opened
  pub ended : new.ended ≡ old.ended
  pub listened : new.listened ≡ old.listened
  pub expired : new.expired ≡ old.expired

-- One exchange more ended because its time was up.
pub record CountsExpired (old new : Counts) : Type 0 where
  pub settled : new.settled ≡ old.settled
  pub opened : new.opened ≡ old.opened
  pub ended : Rises old.ended new.ended
  pub listened : new.listened ≡ old.listened
  pub expired : Rises old.expired new.expired

-- One exchange more ended because its question did.
pub record CountsAbandoned (old new : Counts) : Type 0 where
  pub settled : new.settled ≡ old.settled
  pub opened : new.opened ≡ old.opened
  pub ended : Rises old.ended new.ended
  pub listened : new.listened ≡ old.listened
  pub expired : new.expired ≡ old.expired

-- An exchange goes on if nothing was heard of it, and else has ended.
abbrev pub EndsBy : Listened → ℕ → ℕ → Type 0
EndsBy Nothing old new = new ≡ old
EndsBy _ old new = Rises old new

-- A call listened to an exchange, and this was heard.
pub record CountsListened (heard : Listened) (old new : Counts) : Type 0 where
  pub settled : new.settled ≡ old.settled
  pub opened : new.opened ≡ old.opened
  pub ended : EndsBy heard old.ended new.ended
  pub listened : Rises old.listened new.listened
  pub expired : new.expired ≡ old.expired

-- No count falls.
pub record NeverFall (old new : Counts) : Type 0 where
  pub settled : old.settled ≤ new.settled
  pub opened : old.opened ≤ new.opened
  pub ended : old.ended ≤ new.ended
  pub listened : old.listened ≤ new.listened
  pub expired : old.expired ≤ new.expired

-- The counter of settled clients, or that of exchanges that began or ended, has reached its last value.
abbrev pub IsFull : Counts → Type 0
IsFull counts = (2 ^ 64 - 1 ≤ counts.settled) ⊎ ((2 ^ 64 - 1 ≤ counts.opened) ⊎ (2 ^ 64 - 1 ≤ counts.ended))
