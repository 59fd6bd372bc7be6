use Rattle.std.proofs.Common.{◌≡◌, take}
use Rattle.std.specs.Prelude.{filter_map}
use Rattle.history.specs.Journal.{journalled_of}
use Rattle.undo_book.specs.Plain.{marks_in, entries_in}
use Rattle.undo_book.proofs.listing.commands.Given as goal

-- the commands of the entries so far
abbrev pub invariant-loop-logged : goal.invariant-loop-logged
invariant-loop-logged l =
    l.commands.items ≡ filter_map (λ entry. journalled_of (marks_in l.past.marks) entry.event entry.ticket) (entries_in (take l.logged-index l.past.log.items))
