use Rattle.shelf.specs.Told.{IsShelf}
use Rattle.book_tests.proofs.oldest.in_turn.Given as goal

abbrev pub invariant-loop-step : goal.invariant-loop-step
invariant-loop-step l = IsShelf l.shelf

abbrev pub invariant-loop-step-2 : goal.invariant-loop-step-2
invariant-loop-step-2 l = IsShelf l.shelf
