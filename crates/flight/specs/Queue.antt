-- The queue of exchanges, for contracts inside the crate.
use Rattle.std.specs.Prelude.{◌≡◌, ◌≤◌, ◌+◌, ◌==◌, ◌&&◌, ℕ, Bool, IsTrue, Option, Some, List, ◌∷◌}
use Rattle.std.specs.List.{All, list_any}
use Rattle.std.specs.List.Sorted.{IsNonDecreasingBy}
use Rattle.flight.specs.declared.table.Wait.{Wait}
use Rattle.flight.specs.Waiting.{UnderWay, since_in}

-- whether the queue has the exchange that began at this moment under this key
abbrev pub is_queued : List Wait → ℕ → ℕ → Bool
is_queued waits key since = list_any (λ wait. (wait.key == key) && (wait.since == since)) waits

-- The queue is in the order in which exchanges began, none after the latest moment, and has each exchange that is under way.
pub record IsQueue (exchanges : List (Option UnderWay)) (waits : List Wait) (latest : ℕ) : Type 0 where
  pub ordered : IsNonDecreasingBy (λ wait. wait.since) waits
  pub past : All (λ wait. wait.since ≤ latest) waits
  pub queued : (key since : ℕ) → since_in exchanges key ≡ Some since → IsTrue (is_queued waits key since)

-- This exchange is the first of the queue.
pub record FirstIs (waits : List Wait) (wait : Wait) : Type 0 where
  pub rest : List Wait
  pub is : waits ≡ wait ∷ rest

-- This exchange is the first of the queue, and began at least so many milliseconds ago.
pub record IsFirstDue (patience now : ℕ) (waits : List Wait) (wait : Wait) : Type 0 where
  pub first : FirstIs waits wait
  pub due : wait.since + patience ≤ now
