use Rattle.std.proofs.Common.{◌≡◌, ◌-◌, length}
use Rattle.cell_store.proofs.PruneLaws.{pruned_to}
use Rattle.cell_store.proofs.prune.prune.Given as goal

-- the first entries are pruned so far
abbrev pub invariant-loop-place : goal.invariant-loop-place
invariant-loop-place l = l.versions.items ≡ pruned_to l.numbers l.upto l.place l.fn.versions.items

abbrev pub decreases-loop-place : goal.decreases-loop-place
decreases-loop-place l = length l.versions.items - l.place
