use Rattle.std.proofs.Common.{◌∙◌, ap, sym}
use Rattle.history.specs.Event.{lagging_of}
use Rattle.book_tests.proofs.new_books.shelf_books.Goals as goal

pub returns : goal.returns
returns c = record {
  empty = c.in_ok-book.ensures.fresh.empty;
  lags = record { empty = c.in_ok-opening.ensures.fresh.empty; settings_are = c.in_ok-opening.ensures.fresh.settings_are ∙ ap lagging_of (sym c.in_ok-book.ensures.fresh.settings_are) };
}
