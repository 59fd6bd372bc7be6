use Rattle.shelf.proofs.FirstLaws.{met}
use Rattle.shelf.proofs.oldest.first_at.Goals as goal

pub returns : goal.returns
returns c =
    met c.args.settlings.now c.args.kept.now c.args.owners.now.entries c.args.moment c.args.place c.args.best c.name_if_alive-own.result c.sooner.result c.requires.best
    c.name_if_alive-own.ensures.some c.name_if_alive-own.ensures.none c.sooner.ensures
