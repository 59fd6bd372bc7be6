use Rattle.std.proofs.Common.{◌≡◌, ◌-◌, length}
use Rattle.shelf.proofs.EvenLaws.{evens_to}
use Rattle.shelf.proofs.ends.end_each.Given as goal

-- the moments of the names so far are changed
abbrev pub invariant-loop-place : goal.invariant-loop-place
invariant-loop-place l = (l.ends.moments ≡ evens_to l.place l.fn.ends.moments l.fn.ends.mixed.items) × (l.ends.mixed ≡ l.fn.ends.mixed) × (l.ends.lasts ≡ l.fn.ends.lasts)

abbrev pub decreases-loop-place : goal.decreases-loop-place
decreases-loop-place l = length l.ends.mixed.items - l.place
