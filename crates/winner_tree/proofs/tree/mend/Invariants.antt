use Rattle.std.proofs.Common.{◌≡◌, ◌<◌, ◌≤◌, ◌+◌, ℕ, length}
use Rattle.winner_tree.specs.Tree.{IsNode}
use Rattle.winner_tree.proofs.tree.mend.Given as goal

-- each node is right but one, and its number is one more
abbrev pub invariant-loop-node : goal.invariant-loop-node
invariant-loop-node l = record {
  low : l.node ≤ length l.ends;
  size : length l.least.items ≡ length l.ends;
  others : (i : ℕ) → i < length l.ends → (i + 1 ≡ l.node → ⊥) → IsNode l.ends l.least.items i;
}

abbrev pub decreases-loop-node : goal.decreases-loop-node
decreases-loop-node l = l.node
