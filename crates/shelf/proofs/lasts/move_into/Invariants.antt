use Rattle.shelf.proofs.GoneLaws.{IsMovingInto}
use Rattle.shelf.proofs.lasts.move_into.Given as goal

abbrev pub invariant-loop-node : goal.invariant-loop-node
invariant-loop-node l = IsMovingInto l.place l.fn.winners.items l.winners.items l.node

abbrev pub decreases-loop-node : goal.decreases-loop-node
decreases-loop-node l = l.node
