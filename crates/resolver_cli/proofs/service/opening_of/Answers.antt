use Rattle.operators.specs.declared.book_figures.WatchedBook.{WatchedBook}
use Rattle.store.specs.declared.shelf_book.ShelfBook.{ShelfBook}
use Rattle.resolver_cli.proofs.Watching.{held}
use Rattle.resolver_cli.proofs.service.opening_of.Goals as goal

pub returns-in-Ok-lagging_seeded : goal.returns-in-Ok-lagging_seeded
returns-in-Ok-lagging_seeded c =
    let made = c.in-Ok-lagging_seeded in
    held _ _ (λ (w : WatchedBook ShelfBook). w.book) _ c.new-in-Ok-lagging_seeded.result made.book c.new-in-Ok-lagging_seeded.ensures made.ensures.fresh
