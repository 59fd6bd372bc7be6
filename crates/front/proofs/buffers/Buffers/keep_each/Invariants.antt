use Rattle.front.proofs.buffers.Buffers.keep_each.Given as goal

abbrev pub decreases-loop-outgoing : goal.decreases-loop-outgoing
decreases-loop-outgoing l = goal.left-loop-outgoing l
