use Rattle.std.proofs.Common.{◌≡◌, ◌++◌, map, take, drop}
use Rattle.undo_book.specs.Plain.{with_flag}
use Rattle.undo_book.proofs.log.flag_entry.Given as goal

-- the flags are set so far
abbrev pub invariant-loop-logged : goal.invariant-loop-logged
invariant-loop-logged l = l.logged-items ≡ map (with_flag l.ticket l.struck) (take l.logged-index l.fn.log.items) ++ drop l.logged-index l.fn.log.items
