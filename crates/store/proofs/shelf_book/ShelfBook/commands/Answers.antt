use Rattle.std.proofs.Common.{arith}
use Rattle.store.proofs.shelf_book.ShelfBook.commands.Goals as goal

pub returns-clause-few : goal.returns-clause-few
returns-clause-few c = λ h stands. omega (arith, c.commands.ensures.commands, c.commands.ensures.few h stands)
