use Rattle.std.proofs.Common.{◌<◌, ◌≤◌, ◌-◌, length}
use Rattle.winner_tree.specs.Tree.{moment_at}
use Rattle.winner_tree.proofs.tree.WinnerTree.first_ended.Given as goal

-- a position at or below the node has ended
abbrev pub invariant-loop-self : goal.invariant-loop-self
invariant-loop-self l = record {
  low : l.place < length l.self-inside.ends.items;
  ended : moment_at l.self-inside.least.items l.place ≤ l.moment;
}

abbrev pub decreases-loop-self : goal.decreases-loop-self
decreases-loop-self l = length l.self-inside.ends.items - l.place
