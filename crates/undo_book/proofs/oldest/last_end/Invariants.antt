use Rattle.std.proofs.Common.{◌≡◌, take}
use Rattle.std.specs.Prelude.{fold}
use Rattle.history.specs.OldestFound.{later_end}
use Rattle.undo_book.specs.Ends.{end_now, pair_of}
use Rattle.undo_book.proofs.oldest.last_end.Given as goal

-- the last of the ends so far
abbrev pub invariant-loop-end : goal.invariant-loop-end
invariant-loop-end l = l.last ≡ fold (λ last end. later_end l.name last (pair_of (end_now end))) 0 (take l.end-index l.ends)
