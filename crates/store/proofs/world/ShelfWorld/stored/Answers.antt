use Rattle.std.proofs.Common.{arith}
use Rattle.store.proofs.PairLaws.{stored_most, stored_least}
use Rattle.store.proofs.world.ShelfWorld.stored.Goals as goal

pub returns-clause-most : goal.returns-clause-most
returns-clause-most c = rw (← c.self.view_is) (λ finds among.
    let most = stored_most c.self.inside.shelf c.stored.result (c.stored.ensures.most c.self.invariant) finds among in
    omega (arith, most, c.stored.ensures.value))

pub returns-clause-least : goal.returns-clause-least
returns-clause-least c = rw (← c.self.view_is) (λ kept t pairs all.
    let least = stored_least c.self.inside.shelf c.stored.result (c.stored.ensures.least c.self.invariant) kept t pairs all in
    omega (arith, least, c.stored.ensures.value))
