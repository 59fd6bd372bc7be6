-- A turn is of both books, or of the book alone, or there is none.
use Rattle.shared_book.proofs.RecordLaws.{book_turn, no_turn, whole_turn}
use Rattle.shared_book.proofs.kept.Kept.turn.Goals as goal

pub returns-then-whole-clause-turn : goal.returns-then-whole-clause-turn
returns-then-whole-clause-turn g c =
    let b = g.B.Book in
    whole_turn b.stands_for b.settings b.stored b.unswept c.args.self.now c.sweep_some.new.self c.args.whole c.sweep_some.result c.if-whole.true c.sweep_some.ensures.turn

pub returns-then-has_room-clause-turn : goal.returns-then-has_room-clause-turn
returns-then-has_room-clause-turn g c =
    let b = g.B.Book in
    no_turn b.stands_for b.settings b.stored b.unswept c.args.self.now c.args.whole c.if-whole.false (c.has_room.ensures.yes c.if-has_room.true)

pub returns-clause-turn : goal.returns-clause-turn
returns-clause-turn g c =
    let b = g.B.Book in
    let swept = c.sweep_book.ensures in
    book_turn b.stands_for b.settings b.stored b.unswept c.args.self.now c.sweep_book.new.self c.args.whole c.sweep_book.result c.if-whole.false swept.freed swept.opening swept.more swept.none
