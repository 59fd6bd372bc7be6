-- The work of a worker: it serves each datagram or connection that comes in.
use Rattle.std.specs.Prelude.{◌⊎◌, ℕ, ◌+◌, ◌-◌, ◌≤◌, ◌^◌, Option, Some, None, Result, Ok, Err}
use Rattle.system.specs.declared.device.DeviceFault.{DeviceFault}
use Rattle.system.specs.declared.device.DeviceFault.TheVariants.{Device, NoMemory}
use Rattle.replies.specs.declared.limits.TheConstants.{MOST_FAILURES}
use Rattle.plain_workers.specs.declared.work_end.WorkEnd.{WorkEnd}
use Rattle.plain_workers.specs.declared.work_end.WorkEnd.TheVariants.{Ended, Failing}

-- One call for what comes in: the thing, None or the fault, the port before and after.
abbrev pub Coming : Type 0 → Type 0 → Type 1
Coming P T = Result (Option T) DeviceFault → P → P → Type 0

-- A thing that came in is served: the state and the port before and after.
abbrev pub Handling : Type 0 → Type 0 → Type 0 → Type 1
Handling O P T = T → O → P → O → P → Type 0

-- A worker came from one state to another: it served each thing that came in before it called for the next, and so many calls have failed since the last one.
pub data Works {O P T : Type 0} (comes : Coming P T) (handles : Handling O P T) (old : O) (port : P) : ℕ → O → P → Type 0 where
  begins : Works comes handles old port 0 old port
  handled : {n : ℕ} {thing : T} {o o' : O} {p p' p'' : P} → Works comes handles old port n o p → comes (Ok (Some thing)) p p' → handles thing o p' o' p''
      → Works comes handles old port 0 o' p''
  found_no_memory : {n : ℕ} {o : O} {p p' : P} → Works comes handles old port n o p → comes (Err NoMemory) p p' → Works comes handles old port n o p'
  failed : {n : ℕ} {o : O} {p p' : P} → Works comes handles old port n o p → comes (Err Device) p p' → Works comes handles old port (n + 1) o p'

-- The end of a worker: the port had ended, or failed `MOST_FAILURES` times in a row.
abbrev pub WorksUntil : {O P T : Type 0} → WorkEnd → Coming P T → Handling O P T → O → P → O → P → Type 0
WorksUntil {P = P} Ended comes handles old port o p' = (n : ℕ) × (p : P) × Works comes handles old port n o p × comes (Ok None) p p'
WorksUntil Failing comes handles old port o p = Works comes handles old port MOST_FAILURES o p

-- The count of failures rose by so many, unless it is at its last value.
abbrev pub HasFailed : ℕ → ℕ → ℕ → Type 0
HasFailed n old new = (old + n ≤ new) ⊎ (2 ^ 64 - 1 ≤ new)
