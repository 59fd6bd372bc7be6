use Rattle.std.proofs.Common.{◌∙◌, ap, sym}
use Rattle.history.specs.Event.{lagging_of}
use Rattle.operators.specs.declared.book_figures.WatchedBook.{WatchedBook}
use Rattle.store.specs.declared.shelf_book.ShelfBook.{ShelfBook}
use Rattle.resolver_cli.proofs.Watching.{held}
use Rattle.resolver_cli.proofs.service.new_books.Goals as goal

pub returns : goal.returns
returns g c =
    let made = c.in-Ok-seeded in
    let book = held _ _ (λ (w : WatchedBook ShelfBook). w.book) _ c.new.result made.book c.new.ensures made.ensures.fresh in
    let opening = c.in_ok-opening.ensures in
    record {
      empty = book.empty;
      lags = record { empty = opening.empty; settings_are = opening.settings_are ∙ ap lagging_of (sym book.settings_are) };
    }
