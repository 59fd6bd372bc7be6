-- The readings of a clock.
use Rattle.std.specs.Prelude.{ℕ}

-- One reading of a clock: the clock before, the moment, the clock after.
abbrev pub Ticks : Type 0 → Type 1
Ticks C = C → ℕ → C → Type 0
