use Rattle.store.proofs.OldestLaws.{none_there, oldest_there}
use Rattle.store.proofs.world.ShelfWorldWorld.oldest.Goals as goal

pub returns-in-Some-clause-some : goal.returns-in-Some-clause-some
returns-in-Some-clause-some c = rw (← c.self.view_is) (λ kept h current.
    oldest_there c.self.inside.shelf kept c.args.moment current c.in-Some.name.now c.in-Some.ensures.some)

pub returns-in-None-clause-none : goal.returns-in-None-clause-none
returns-in-None-clause-none c = rw (← c.self.view_is) (λ kept h current.
    none_there c.self.inside.shelf kept c.args.moment c.in-None.ensures.none)
