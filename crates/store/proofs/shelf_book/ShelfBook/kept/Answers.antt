use Rattle.std.proofs.Common.{◌∙◌, length, ap, arith}
use Rattle.store.specs.Kept.{kept_in}
use Rattle.store.specs.declared.store.Store.{Store}
use Rattle.store.proofs.shelf_book.ShelfBook.kept.Goals as goal

pub returns-clause-value : goal.returns-clause-value
returns-clause-value c = c.kept.ensures.value ∙ ap (λ (w : Store). length (kept_in w.cells c.args.question.now)) c.world.ensures

pub returns-clause-few : goal.returns-clause-few
returns-clause-few c = omega (arith, c.kept.ensures.few, ap (λ (w : Store). length w.cells.flushes) c.world.ensures)
