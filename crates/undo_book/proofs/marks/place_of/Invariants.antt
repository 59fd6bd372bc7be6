use Rattle.std.proofs.Common.{◌≡◌, ◌++◌, take, drop}
use Rattle.history.specs.Marks.{in_place}
use Rattle.undo_book.proofs.marks.place_of.Given as goal

-- the place is not among the tickets so far
abbrev pub invariant-loop-place : goal.invariant-loop-place
invariant-loop-place l = in_place l.ticket l.tickets ≡ take l.place l.tickets ++ in_place l.ticket (drop l.place l.tickets)
