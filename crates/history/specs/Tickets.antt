-- In which of its lists the marks of a history have a ticket.
use Rattle.std.specs.Prelude.{◌≡◌, ℕ, ◌+◌, ◌<◌, ◌≤◌, ◌==◌, cond, List, [], ◌∷◌}
use Rattle.history.specs.Marks.{Marks}

-- 1 where both are the same ticket
abbrev pub tally : ℕ → ℕ → ℕ
tally x t = cond (x == t) 1 0

-- how often a ticket is in a list
abbrev pub occurs : ℕ → List ℕ → ℕ
occurs t [] = 0
occurs t (x ∷ xs) = tally x t + occurs t xs

-- Of the lists of what can be undone and of what is struck a ticket is in one at most, and once; what can be redone is struck; and no ticket is in them before it is given out.
pub record InOne (j : Marks) (t : ℕ) : Type 0 where
  pub once : occurs t j.done + occurs t j.struck ≤ 1
  pub undone : occurs t j.undone ≤ occurs t j.struck
  pub given : j.tickets < t → occurs t j.done + occurs t j.struck ≡ 0
