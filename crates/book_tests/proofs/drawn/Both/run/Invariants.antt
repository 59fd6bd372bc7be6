use Rattle.shelf.specs.Told.{IsShelf}
use Rattle.book_tests.proofs.drawn.Both.run.Given as goal

abbrev pub invariant-loop : goal.invariant-loop
invariant-loop l = IsShelf l.self.one × IsShelf l.self.other
