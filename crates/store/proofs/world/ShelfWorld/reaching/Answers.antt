use Rattle.store.proofs.world.ShelfWorld.reaching.Goals as goal

pub returns : goal.returns
returns c = rw (← c.self.view_is) c.reaching.ensures
