use Rattle.std.proofs.Common.{◌≡◌, take}
use Rattle.std.specs.Prelude.{fold}
use Rattle.undo_book.proofs.StoredLaws.{counted_past}
use Rattle.undo_book.proofs.stored.counted_at.Given as goal

-- the count by the entries so far
abbrev pub invariant-loop-logged : goal.invariant-loop-logged
invariant-loop-logged l = l.counted ≡ fold (counted_past l.name) 0 (take l.logged-index l.log.items)
