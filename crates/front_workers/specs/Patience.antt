-- The time that a worker waits, and the readings of its clock.
use Rattle.std.specs.Prelude.{◌≤◌, ℕ, ◌*◌, min, Option, Some, None}
use Rattle.std.specs.declared.time.Duration.{Duration}
use Rattle.std.specs.declared.time.Instant.{Instant}
use Rattle.clock.specs.Moments.{ClockState, IsRead, millis_at}
use Rattle.flight.specs.declared.kept.TheConstants.{MOST_AT_REST}
use Rattle.flight.specs.declared.table.TheConstants.{PATIENCE, QUESTION_PATIENCE}
use Rattle.flight.specs.Bounds.{kept_all}
use Rattle.flight.specs.Waiting.{FlightState, IsPatient, IsTimely}
use Rattle.front_workers.specs.Accounts.{WorkerState}
use Rattle.front_workers.specs.Begun.{Runs}
use Rattle.front_workers.specs.Looked.{LooksAtAll}
use Rattle.front.specs.Moves.{Moves}

-- the nanoseconds until the time of an exchange is up that has so many milliseconds left, but no more than so many
abbrev pub patience_of : ℕ → Option ℕ → ℕ
patience_of most None = most
patience_of most (Some left) = min most (left * 1_000_000)

-- A clock was read, perhaps several times, or not at all.
pub data AreRead (passed : Instant → Option Duration → Type 0) (old : ClockState) : ClockState → Type 0 where
  unread : AreRead passed old old
  once_more : {mid new : ClockState} → AreRead passed old mid → IsRead passed mid new → AreRead passed old new

-- A clock was read, at least once.
abbrev pub IsReadOn : (Instant → Option Duration → Type 0) → ClockState → ClockState → Type 0
IsReadOn passed old new = (mid : ClockState) × AreRead passed old mid × IsRead passed mid new

-- By a reading of the clock no exchange is overdue, and no question.
abbrev pub NoneOverdue : ClockState → FlightState → Type 0
NoneOverdue clock flight = IsPatient PATIENCE (millis_at clock.last) flight × IsTimely QUESTION_PATIENCE (millis_at clock.last) flight

-- In a turn the clock was read, and each exchange that the poll had reported was listened to, and each whose time was up by that reading had ended. So had each question whose time was up. Then those that waited kept no more than they may at rest.
pub record EndsOverdue {S : Type 0} (passed : Instant → Option Duration → Type 0) (takes sends : Moves S) (flight : FlightState) (old : WorkerState S) (flight' : FlightState) (new : WorkerState S) : Type 0 where
  pub between : FlightState
  pub mid : WorkerState S
  pub before : Runs takes sends flight old between mid
  pub read : IsReadOn passed old.clock mid.clock
  pub patient : IsPatient PATIENCE (millis_at mid.clock.last) between
  pub timely : IsTimely QUESTION_PATIENCE (millis_at mid.clock.last) between
  pub relieved : kept_all between ≤ MOST_AT_REST
  pub looks : LooksAtAll new.reported (millis_at mid.clock.last) flight old.counts between mid.counts
  pub listened : mid.counts.listened ≤ new.counts.listened
  pub after : Runs takes sends between mid flight' new
