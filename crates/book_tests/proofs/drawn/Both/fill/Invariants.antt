use Rattle.shelf.specs.Told.{IsShelf}
use Rattle.book_tests.proofs.drawn.Both.fill.Given as goal

abbrev pub invariant-loop-number : goal.invariant-loop-number
invariant-loop-number l = IsShelf l.self.one × IsShelf l.self.other

abbrev pub invariant-loop-number-2 : goal.invariant-loop-number-2
invariant-loop-number-2 l = IsShelf l.self.one × IsShelf l.self.other
