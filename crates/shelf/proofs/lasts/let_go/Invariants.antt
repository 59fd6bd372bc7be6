use Rattle.shelf.proofs.GoneLaws.{IsLettingGo}
use Rattle.shelf.proofs.lasts.let_go.Given as goal

abbrev pub invariant-loop-node : goal.invariant-loop-node
invariant-loop-node l = IsLettingGo l.owners.entries l.lasts l.fn.winners.items l.winners.items l.node

abbrev pub decreases-loop-node : goal.decreases-loop-node
decreases-loop-node l = l.node
