use Rattle.std.proofs.Common.{refl}
use Rattle.store.specs.StoreLaws.{store_swept}
use Rattle.store.proofs.PairLaws.{needed_beside}
use Rattle.store.proofs.store.StoreWorld.sweep_some.Goals as goal

pub returns-clause-row : goal.returns-clause-row
returns-clause-row c = store_swept c.args.self.now (record { tables = c.args.self.now.tables; cells = c.sweep_some.new.self }) c.args.moment refl c.sweep_some.ensures.row

pub returns-clause-needed : goal.returns-clause-needed
returns-clause-needed c = λ none. needed_beside (record { tables = c.args.self.now.tables; cells = c.sweep_some.new.self }) c.args.moment (c.sweep_some.ensures.needed none)
