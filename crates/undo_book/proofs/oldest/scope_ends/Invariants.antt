use Rattle.std.proofs.Common.{◌≡◌, [], take}
use Rattle.std.specs.Prelude.{fold}
use Rattle.undo_book.specs.Ends.{ends_after, ends_now}
use Rattle.undo_book.specs.PlainPast.{past_in}
use Rattle.undo_book.proofs.oldest.scope_ends.Given as goal

-- the ends of the entries so far
abbrev pub invariant-loop-logged : goal.invariant-loop-logged
invariant-loop-logged l = ends_now l.ends.items ≡ fold (ends_after (past_in l.past) l.moment) [] (take l.logged-index l.past.log.items)
