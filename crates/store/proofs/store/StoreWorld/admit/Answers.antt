use Rattle.std.proofs.Common.{refl}
use Rattle.std.proofs.lemmas.Bool.{false≢true}
use Rattle.change_law.specs.Pairs.{pair_of}
use Rattle.table_changes.specs.Part.{part}
use Rattle.store.specs.Store.{of_cells}
use Rattle.store.specs.StoreLaws.{store_admitted, store_alive, cells_same_row}
use Rattle.store.proofs.store.StoreWorld.admit.Goals as goal

pub returns-in-Ok-clause-row : goal.returns-in-Ok-clause-row
returns-in-Ok-clause-row c = store_admitted c.args.self.now (record { tables = c.args.self.now.tables; cells = c.admit.new.self }) c.args.find c.args.moment refl c.in-Ok.ensures.row

pub returns-in-Err-clause-err : goal.returns-in-Err-clause-err
returns-in-Err-clause-err c =
    let err = c.in-Err.ensures.err in
    (cells_same_row c.args.self.now (record { tables = c.args.self.now.tables; cells = c.admit.new.self }) refl err.0, err.1, err.2, err.3)

pub returns-in-Err-clause-free : goal.returns-in-Err-clause-free
returns-in-Err-clause-free c = λ kept h alive.
    absurd (false≢true (c.in-Err.ensures.free (part of_cells kept) h.1 (store_alive c.args.self.now kept c.args.moment (pair_of c.args.find) alive)))
