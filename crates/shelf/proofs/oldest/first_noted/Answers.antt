use Rattle.shelf.proofs.FirstLaws.{noted_first}
use Rattle.shelf.proofs.oldest.first_noted.Goals as goal

pub returns-in-Some : goal.returns-in-Some
returns-in-Some c =
    noted_first c.args.settlings.now c.args.kept.now c.args.owners.now.entries c.args.moment c.args.ends.now c.in-Some.place c.name_if_noted.result c.requires.0 c.requires.1 (c.is_visited.ensures c.if-is_visited.true) c.in-Some.ensures.1 c.name_if_noted.ensures
