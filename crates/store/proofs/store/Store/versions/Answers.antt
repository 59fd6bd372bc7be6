use Rattle.std.proofs.Common.{arith}
use Rattle.store.proofs.VersionLaws.{flushes_few}
use Rattle.store.proofs.store.Store.versions.Goals as goal

pub returns-clause-few : goal.returns-clause-few
returns-clause-few c = λ kept is. omega (arith, c.versions.ensures.versions, flushes_few c.args.self.now kept is)
