use Rattle.std.proofs.Common.{refl}
use Rattle.store.specs.Store.{of_cells}
use Rattle.store.specs.StoreLaws.{store_forgot}
use Rattle.store.proofs.OldestLaws.{cells_end}
use Rattle.table_changes.specs.Part.{part}
use Rattle.store.proofs.store.StoreWorld.forget.Goals as goal

pub returns-clause-row : goal.returns-clause-row
returns-clause-row c = store_forgot c.args.self.now (record { tables = c.args.self.now.tables; cells = c.forget.new.self }) c.args.owner.now refl c.forget.ensures.row

pub returns-clause-fewer : goal.returns-clause-fewer
returns-clause-fewer c = λ kept t end h is.
    c.forget.ensures.fewer (part of_cells kept) t end h.1 (cells_end c.args.self.now kept t c.args.owner.now end is)
