use Rattle.std.proofs.Common.{◌+◌, ◌≤◌}
use Rattle.shelf.proofs.shelf.Shelf.hidden_some.Given as goal

-- no more names so far than places
abbrev pub invariant-loop-place : goal.invariant-loop-place
invariant-loop-place l = record { names : l.names + l.from ≤ l.place; visited : l.visited + l.from ≤ l.place }
