use Rattle.std.proofs.Common.{refl}
use Rattle.store.specs.StoreLaws.{table_settles_oldest, table_settles_cleared, flush_settles_oldest, flush_settles_cleared}
use Rattle.store.proofs.store.StoreChangeChange.settle.Goals as goal

pub returns-in-Table-clause-oldest : goal.returns-in-Table-clause-oldest
returns-in-Table-clause-oldest c =
    table_settles_oldest c.args.world.now (record { tables = c.settle.new.world; cells = c.args.world.now.cells }) c.args.saved c.in-Table.saved c.in-Table.is refl c.settle.ensures.oldest

pub returns-in-Table-clause-cleared : goal.returns-in-Table-clause-cleared
returns-in-Table-clause-cleared c =
    table_settles_cleared c.args.world.now (record { tables = c.settle.new.world; cells = c.args.world.now.cells }) c.args.saved c.in-Table.saved c.in-Table.is refl c.settle.ensures.cleared

pub returns-in-Flush-clause-oldest : goal.returns-in-Flush-clause-oldest
returns-in-Flush-clause-oldest c =
    flush_settles_oldest c.args.world.now (record { tables = c.args.world.now.tables; cells = c.settle-in-Flush.new.world }) c.args.saved c.in-Flush.saved c.in-Flush.is refl c.settle-in-Flush.ensures.oldest

pub returns-in-Flush-clause-cleared : goal.returns-in-Flush-clause-cleared
returns-in-Flush-clause-cleared c =
    flush_settles_cleared c.args.world.now (record { tables = c.args.world.now.tables; cells = c.settle-in-Flush.new.world }) c.args.saved c.in-Flush.saved c.in-Flush.is refl c.settle-in-Flush.ensures.cleared
