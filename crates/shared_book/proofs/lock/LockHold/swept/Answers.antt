-- A turn of the book alone, after which another one is wanted.
use Rattle.std.proofs.Common.{Bool, false, refl, subst}
use Rattle.shared_book.specs.Kept.{IsTurnFor}
use Rattle.shared_book.proofs.RecordLaws.{book_turn}
use Rattle.shared_book.proofs.lock.LockHold.swept.Goals as goal

pub returns-then-sweep_book : goal.returns-then-sweep_book
returns-then-sweep_book g c =
    let b = g.B.Book in
    let before = c.deref_mut.result.now in
    let after = c.sweep_book.new.self in
    let swept = c.sweep_book.ensures in
    let turn = book_turn b.stands_for b.settings b.stored b.unswept before after false c.sweep_book.result refl swept.freed swept.opening swept.more swept.none in
    record {
      before = before;
      after = after;
      there = swept.there;
      turn = subst (λ (more : Bool). IsTurnFor b.stands_for b.settings b.stored b.unswept false before more after) c.if-sweep_book.true turn;
    }
