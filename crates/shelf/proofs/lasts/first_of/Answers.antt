use Rattle.std.proofs.Common.{get_or, refl, arith}
use Rattle.shelf.proofs.WinnerLaws.{first_child, first_own, first_past}
use Rattle.shelf.proofs.lasts.first_of.Goals as goal

pub returns-then-child-winners : goal.returns-then-child-winners
returns-then-child-winners c = first_past c.args.owners.now.entries c.args.lasts.now c.args.winners.now c.args.place c.args.child (omega (arith, c.if-child-winners.true))

pub returns-then-leads : goal.returns-then-leads
returns-then-leads c =
    first_child c.args.owners.now.entries c.args.lasts.now c.args.winners.now c.args.place c.args.child (get_or c.args.winners.now c.args.child 0) refl (omega (arith, c.if-child-winners.false)) (c.leads.ensures.yes c.if-leads.true)

pub returns-else-leads : goal.returns-else-leads
returns-else-leads c = first_own c.args.owners.now.entries c.args.lasts.now c.args.winners.now c.args.place c.args.child (get_or c.args.winners.now c.args.child 0) refl (c.leads.ensures.no c.if-leads.false)
