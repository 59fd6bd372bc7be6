-- How a clock is read, one time after another.
use Rattle.std.proofs.Common.{◌≤◌, ℕ, arith}
use Rattle.std.specs.Prelude.{Option, Some, None}
use Rattle.std.specs.declared.time.Duration.{Duration}
use Rattle.std.specs.declared.time.Instant.{Instant}
use Rattle.clock.specs.Moments.{ClockState, IsRead, moment_after}
use Rattle.front_workers.specs.Patience.{AreRead, IsReadOn, once_more, unread}

-- A clock that is read does not go back.
later : (last : ℕ) (time : Option Duration) → last ≤ moment_after last time
later last None = omega arith
later last (Some passed) = omega arith

pub onward_by : {passed : Instant → Option Duration → Type 0} (old new : ClockState) → IsRead passed old new → old.last ≤ new.last
onward_by old new read = omega (arith, read.last, later old.last read.time)

pub onward_on : {passed : Instant → Option Duration → Type 0} {old new : ClockState} → AreRead passed old new → old.last ≤ new.last
onward_on unread = omega arith
onward_on (once_more {mid = mid} {new = new} before read) = omega (arith, onward_on before, onward_by mid new read)

module _ {passed : Instant → Option Duration → Type 0} where
  are_read_then : {old mid new : ClockState} → AreRead passed old mid → AreRead passed mid new → AreRead passed old new
  are_read_then first unread = first
  are_read_then first (once_more second last) = once_more (are_read_then first second) last

  -- It is read at last.
  pub read_after : {old mid new : ClockState} → AreRead passed old mid → IsReadOn passed mid new → IsReadOn passed old new
  read_after before read = (read.0, are_read_then before read.1, read.2)
