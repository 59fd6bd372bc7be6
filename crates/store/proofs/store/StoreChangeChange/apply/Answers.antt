use Rattle.std.proofs.Common.{◌≡◌, refl, false, subst, arith}
use Rattle.ranked.specs.Flush.{covers}
use Rattle.table_changes.specs.Both.{change_after}
use Rattle.history.specs.declared.tables.Tables.{Tables}
use Rattle.store.specs.declared.store.Made.{Made}
use Rattle.store.specs.Store.{removes_made}
use Rattle.store.specs.StoreLaws.{table_made, flush_made, tables_same_row, cells_same_row}
use Rattle.store.specs.WorldLaws.{on_err}
use Rattle.store.proofs.store.StoreChangeChange.apply.Goals as goal

pub returns-in_err-saved-in-Table-clause-same : goal.returns-in_err-saved-in-Table-clause-same
returns-in_err-saved-in-Table-clause-same c =
    let same = tables_same_row c.args.world.now (record { tables = c.apply.new.world; cells = c.args.world.now.cells }) refl c.in_err-saved-in-Table.ensures.same.0 in
    on_err c.from_residual.result (same, omega arith, refl, λ pair has. has)

pub returns-in_err-saved-in-Flush-clause-same : goal.returns-in_err-saved-in-Flush-clause-same
returns-in_err-saved-in-Flush-clause-same c =
    let same = cells_same_row c.args.world.now (record { tables = c.args.world.now.tables; cells = c.apply-in-Flush.new.world }) refl c.in_err-saved-in-Flush.ensures.same.0 in
    on_err c.from_residual-in_err-saved-in-Flush.result (same, c.in_err-saved-in-Flush.ensures.same.1, c.in_err-saved-in-Flush.ensures.same.2, c.in_err-saved-in-Flush.ensures.same.3)

pub returns-in_ok-saved-in-Table-clause-row : goal.returns-in_ok-saved-in-Table-clause-row
returns-in_ok-saved-in-Table-clause-row c = rw c.in-Table.is (table_made c.args.world.now (record { tables = c.apply.new.world; cells = c.args.world.now.cells })
    c.args.self.command c.args.ticket (change_after c.in-Table.change) c.in_ok-saved-in-Table.saved refl c.in_ok-saved-in-Table.ensures.row)

pub returns-in_ok-saved-in-Flush-clause-row : goal.returns-in_ok-saved-in-Flush-clause-row
returns-in_ok-saved-in-Flush-clause-row c = rw c.in-Flush.is (flush_made c.args.world.now (record { tables = c.args.world.now.tables; cells = c.apply-in-Flush.new.world })
    c.args.self.command c.args.ticket (covers c.in-Flush.change.flush) c.in_ok-saved-in-Flush.saved refl c.in_ok-saved-in-Flush.ensures.row)

pub returns-in_ok-saved-in-Table-clause-frees : goal.returns-in_ok-saved-in-Table-clause-frees
returns-in_ok-saved-in-Table-clause-frees c none =
    let tables : Tables = c.args.world.now.tables.tables in
    c.in_ok-saved-in-Table.ensures.frees (subst (λ (made : Made). removes_made made tables ≡ false) c.in-Table.is none)
