use Rattle.std.proofs.Common.{◌≡◌, ◌≤◌, length, arith}
use Rattle.store.proofs.world.ShelfWorld.names.Goals as goal

pub returns-clause-names : goal.returns-clause-names
returns-clause-names c = rw (← c.self.view_is) c.names.ensures.value

pub returns-clause-few : goal.returns-clause-few
returns-clause-few c = rw (← c.self.view_is) (c.names.ensures.few c.self.invariant)
