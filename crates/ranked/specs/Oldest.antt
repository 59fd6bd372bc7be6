-- The name whose last find ends first, of names whose finds end in given seconds.
use Rattle.std.specs.Prelude.{◌≡◌, ◌⊎◌, ◌<◌, ◌≤◌, ℕ}
use Rattle.dns_name.specs.Labels.{Labels}
use Rattle.dns_name.specs.Order.{IsNotAfter}

-- A second comes before another, or they are the same and so do the names.
abbrev pub IsSooner : ℕ → Labels → ℕ → Labels → Type 0
IsSooner end name later other = (end < later) ⊎ ((end ≡ later) × IsNotAfter name other)

-- Of the seconds in which finds of a name end, it is the last.
pub record IsLastEnding (Ends : Labels → ℕ → Type 0) (name : Labels) (end : ℕ) : Type 0 where
  pub ending : Ends name end
  pub last : (other : ℕ) → Ends name other → other ≤ end

-- The last find of no other name ends sooner. Of the names whose last finds end in the same second this is the first in the order of names.
pub record EndsFirst (Ends : Labels → ℕ → Type 0) (name : Labels) : Type 0 where
  pub end : ℕ
  pub own : IsLastEnding Ends name end
  pub first : (other : Labels) (later : ℕ) → IsLastEnding Ends other later → IsSooner end name later other

-- No find of any name ends.
abbrev pub NoneEnds : (Labels → ℕ → Type 0) → Type 0
NoneEnds Ends = (name : Labels) (end : ℕ) → Ends name end → ⊥
