-- The permits for which a worker asks.
use Rattle.std.specs.Prelude.{◌≡◌, ◌⊎◌, ℕ}
use Rattle.system.specs.Counts.{Rises}

-- At most one permit was asked for. So an exchange that waits holds none, and one that began got the only one.
abbrev pub AsksOnce : ℕ → ℕ → Type 0
AsksOnce old new = (new ≡ old) ⊎ Rises old new
