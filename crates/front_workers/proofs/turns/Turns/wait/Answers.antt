use Rattle.front_workers.specs.Patience.{once_more, unread}
use Rattle.front_workers.proofs.turns.Turns.wait.Goals as goal
use Rattle.front_workers.proofs.turns.Turns.wait.Goals.{then-were_left, else-were_left}

pub returns-clause-read : goal.returns-clause-read
returns-clause-read g c = elim c.if-were_left.branch [
  | then-were_left w ↦ rw w.self-inside-is (rw (← c.self.view_is) unread)
  | else-were_left w ↦ rw w.self-inside-is (rw (← c.self.view_is) (once_more unread w.patience-wait.ensures.read))
]
