use Rattle.std.proofs.Common.{◌≡◌, vec_capacity}
use Rattle.shelf.specs.Sweep.{count_ended, IsUnderway}
use Rattle.shelf.proofs.sweep.sweep_ended.Given as goal

-- the sweep so far
abbrev pub invariant-loop-place : goal.invariant-loop-place
invariant-loop-place l = record {
  underway : IsUnderway l.kept l.moment l.asked l.fn.owners l.fn.stored l.owners l.ends l.stored;
  capacity : vec_capacity l.numbers ≡ vec_capacity l.fn.numbers;
}

abbrev pub decreases-loop-place : goal.decreases-loop-place
decreases-loop-place l = count_ended l.asked l.ends.moments
