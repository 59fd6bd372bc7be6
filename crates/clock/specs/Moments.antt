-- The moments of a clock that counts from a start and never falls.
use Rattle.std.specs.Prelude.{◌≡◌, ℕ, ◌-◌, ◌/◌, ◌^◌, max, min, Option, Some, None}
use Rattle.std.specs.Duration.{as_nanos}
use Rattle.std.specs.declared.time.Duration.{Duration}
use Rattle.std.specs.declared.time.Instant.{Instant}

-- the state of a clock, as contracts see it
pub record ClockState : Type 0 where
  pub start : Instant  -- from when it counts
  pub last : ℕ  -- its last moment, in nanoseconds since then

-- the moment after this one: so long passed since the start, or the clock could not be read
abbrev pub moment_after : ℕ → Option Duration → ℕ
moment_after last None = last
moment_after last (Some passed) = max last (as_nanos passed)

-- The clock was read once.
pub record IsRead (passed : Instant → Option Duration → Type 0) (old new : ClockState) : Type 0 where
  pub time : Option Duration
  pub told : passed old.start time
  pub last : new.last ≡ moment_after old.last time
  pub start : new.start ≡ old.start

-- the seconds of a moment
abbrev pub seconds_at : ℕ → ℕ
seconds_at moment = moment / 1_000_000_000

-- the milliseconds of a moment, up to 2^64 - 1
abbrev pub millis_at : ℕ → ℕ
millis_at moment = min (moment / 1_000_000) (2 ^ 64 - 1)
