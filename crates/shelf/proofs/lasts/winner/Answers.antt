use Rattle.shelf.proofs.WinnerLaws.{both_first, both_next}
use Rattle.shelf.proofs.lasts.winner.Goals as goal

pub returns-clause-right : goal.returns-clause-right
returns-clause-right c = both_first c.args.owners.now.entries c.args.lasts.now c.args.winners.now c.args.node c.first_of-first.result c.first_of.result c.first_of-first.ensures c.first_of.ensures

pub returns-clause-one : goal.returns-clause-one
returns-clause-one c = both_next c.args.owners.now.entries c.args.lasts.now c.args.winners.now c.args.node c.first_of-first.result c.first_of.result c.first_of-first.ensures c.first_of.ensures
