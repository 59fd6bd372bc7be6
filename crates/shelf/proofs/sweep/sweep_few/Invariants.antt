use Rattle.std.proofs.Common.{◌≡◌, ◌+◌, vec_capacity}
use Rattle.shelf.specs.Sweep.{count_ended, IsUnderway}
use Rattle.shelf.proofs.sweep.sweep_few.Given as goal

-- the sweep so far
abbrev pub invariant-loop-left : goal.invariant-loop-left
invariant-loop-left l = record {
  underway : IsUnderway l.kept l.moment l.moment l.fn.owners l.fn.stored l.owners l.ends l.stored;
  fewer : count_ended l.moment l.ends.moments + 256 ≡ count_ended l.moment l.fn.ends.moments + l.left;
  capacity : vec_capacity l.numbers ≡ vec_capacity l.fn.numbers;
}

abbrev pub decreases-loop-left : goal.decreases-loop-left
decreases-loop-left l = l.left
