use Rattle.std.proofs.Common.{◌≡◌, ◌≤◌, ◌+◌, length, sym, subst, ap, arith}
use Rattle.store.specs.Store.{KeepsStore}
use Rattle.store.specs.declared.store.Store.{Store}
use Rattle.store.proofs.shelf_book.ShelfBook.versions.Goals as goal

pub returns-clause-commands : goal.returns-clause-commands
returns-clause-commands c =
    let book = c.args.self.now.book in
    let kept = subst (λ (w : Store). KeepsStore w book.changes.kept) (sym c.world.ensures) c.commands-commands.ensures.kept in
    omega (arith, c.versions.ensures.few book.changes.kept kept, c.versions.ensures.versions, ap (λ (w : Store). length w.cells.flushes) c.world.ensures)

pub returns-clause-few : goal.returns-clause-few
returns-clause-few c = λ h stands.
    let book = c.args.self.now.book in
    let kept = subst (λ (w : Store). KeepsStore w book.changes.kept) (sym c.world.ensures) c.commands-commands.ensures.kept in
    omega (
      arith,
      c.versions.ensures.few book.changes.kept kept,
      c.versions.ensures.versions,
      ap (λ (w : Store). length w.cells.flushes) c.world.ensures,
      c.commands-commands.ensures.commands,
      c.commands-commands.ensures.few h stands,
    )
