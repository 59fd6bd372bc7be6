-- The tree of winners over positions: the children of position i are 2 i + 1 and 2 i + 2.
use Rattle.std.specs.Prelude.{◌≡◌, ◌≢◌, ℕ, zero, suc, ◌+◌, ◌*◌, ◌/◌, ◌<◌, ◌≤◌, min, List, length, slice_index_or}

-- the latest moment; a position that is not there ends then
abbrev pub never : ℕ
never = 18446744073709551615

-- the moment at a position
abbrev pub moment_at : List ℕ → ℕ → ℕ
moment_at moments i = slice_index_or moments i never

-- The least moment of a node is that of its position or of one of its children.
abbrev pub IsNode : List ℕ → List ℕ → ℕ → Type 0
IsNode ends least i = moment_at least i ≡ min (moment_at ends i) (min (moment_at least (2 * i + 1)) (moment_at least (2 * i + 2)))

-- Each node but one has the least moment of its position and its children.
abbrev pub AreRightBut : ℕ → List ℕ → List ℕ → Type 0
AreRightBut place ends least = (i : ℕ) → i < length ends → i ≢ place → IsNode ends least i

-- Each node has the least end at or below it.
pub record IsTree (ends least : List ℕ) : Type 0 where
  pub size : length least ≡ length ends
  pub nodes : (i : ℕ) → i < length ends → IsNode ends least i

-- The position has ended at a moment.
abbrev pub HasEnded : List ℕ → ℕ → ℕ → Type 0
HasEnded ends moment i = (i < length ends) × (moment_at ends i ≤ moment)

-- Every position ends after a moment.
abbrev pub AreLater : List ℕ → ℕ → Type 0
AreLater ends moment = (i : ℕ) → i < length ends → moment < moment_at ends i

-- a node so many steps up, in numbers from 1: the parent of node n is n / 2
abbrev pub up : ℕ → ℕ → ℕ
up zero n = n
up (suc k) n = up k (n / 2)

-- A position is at or below a node.
abbrev pub IsBelow : ℕ → ℕ → Type 0
IsBelow node i = (k : ℕ) × (up k (i + 1) ≡ node + 1)

-- No position at or below a node ends before a moment.
abbrev pub IsBound : List ℕ → ℕ → ℕ → Type 0
IsBound ends node moment = (i : ℕ) → IsBelow node i → i < length ends → moment ≤ moment_at ends i
