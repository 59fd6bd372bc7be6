use Rattle.std.proofs.Common.{◌≡◌}
use Rattle.shelf.specs.Told.{IsShelf}
use Rattle.book_tests.proofs.turns.fill.Given as goal

-- the cache is whole, and no flush was opened
abbrev pub invariant-loop-number : goal.invariant-loop-number
invariant-loop-number l = IsShelf l.shelf × (l.shelf.top ≡ l.fn.shelf.top)
