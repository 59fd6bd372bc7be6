use Rattle.store.specs.Store.{of_cells}
use Rattle.table_changes.specs.Part.{part}
use Rattle.store.specs.StoreLaws.{all_store_alive}
use Rattle.store.proofs.book.StoreBookWorld.stored.Goals as goal

pub returns-clause-least : goal.returns-clause-least
returns-clause-least c = λ kept h t pairs all.
    c.stored.ensures.least (part of_cells kept) t pairs (all_store_alive c.args.self.now kept t pairs all)
