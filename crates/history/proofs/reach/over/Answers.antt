use Rattle.std.proofs.Common.{◌≡◌, ◌∙◌, sym}
use Rattle.history.specs.Journal.{lies_on}
use Rattle.history.proofs.ReachLaws.{last_here, last_passed}
use Rattle.history.proofs.reach.over.Goals as goal
use Rattle.history.proofs.reach.over.Goals.{then-lies_on, else-lies_on}

pub loop-held-preserved : goal.loop-held-preserved
loop-held-preserved c =
    let lies = lies_on c.args.ticket c.table_at-table.result in
    elim c.if-lies_on.branch [
      | then-lies_on w ↦
          last_here lies c.args.commands.now c.loop-held.held-index c.held-item.result c.loop-held-test.true c.held-item.is c.if-lies_on.last (sym c.lies_on.ensures ∙ w.if-lies_on.true) w.last-is
      | else-lies_on w ↦
          last_passed lies c.args.commands.now c.loop-held.held-index c.held-item.result c.loop-held-test.true c.held-item.is c.loop-held.last c.if-lies_on.last (sym c.lies_on.ensures ∙ w.if-lies_on.false) c.loop-held.invariant w.last-is
    ]
