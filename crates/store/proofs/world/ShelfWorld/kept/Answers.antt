use Rattle.std.proofs.Common.{arith}
use Rattle.store.proofs.VersionLaws.{numbers_few}
use Rattle.store.proofs.world.ShelfWorld.kept.Goals as goal

pub returns-clause-value : goal.returns-clause-value
returns-clause-value c = rw (← c.self.view_is) c.kept.ensures.value

pub returns-clause-few : goal.returns-clause-few
returns-clause-few c = rw (← c.self.view_is) (omega (arith, c.kept.ensures.few, numbers_few c.args.question.now c.self.inside.shelf.kept.items))
