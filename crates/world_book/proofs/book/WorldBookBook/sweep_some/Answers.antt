use Rattle.std.proofs.Common.{arith}
use Rattle.world_book.specs.Book.{BookState}
use Rattle.world_book.proofs.BookLaws.{swept_some}
use Rattle.world_book.proofs.book.WorldBookBook.sweep_some.Goals as goal

pub returns-clause-stands : goal.returns-clause-stands
returns-clause-stands g c =
    let j = c.self.inside in
    let book : BookState g.row.C-World.Denot g.row.C-World-Saved.Denot = record { world = j.world; changes = j.journal; settings = j.settings; moment = j.moment; count = j.count } in
    rw (← c.self.view_is) (swept_some g.C.World.World book c.sweep_some.new.world c.sweep_some.ensures.tied c.sweep_some.ensures.sound.stored c.sweep_some.ensures.sound.limit c.sweep_some.ensures.sound.pairs)

pub returns-clause-short : goal.returns-clause-short
returns-clause-short g c = rw (← c.self.view_is) (c.sweep_some.ensures.short (omega (arith, c.self.invariant.early)))
