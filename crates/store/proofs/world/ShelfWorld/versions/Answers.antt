use Rattle.std.proofs.Common.{arith}
use Rattle.store.specs.World.{shelved}
use Rattle.store.proofs.VersionLaws.{flushes_kept}
use Rattle.store.proofs.world.ShelfWorld.versions.Goals as goal

pub returns-clause-versions : goal.returns-clause-versions
returns-clause-versions c = rw (← c.self.view_is) (omega (arith, c.len.ensures))

pub returns-clause-few : goal.returns-clause-few
returns-clause-few c = rw (← c.self.view_is) (λ kept is. omega (arith, c.len.ensures, flushes_kept (shelved c.self.inside.shelf) kept is))
