use Rattle.std.proofs.Common.{◌≡◌, drop}
use Rattle.history.specs.Journal.{command_at}
use Rattle.undo_book.proofs.listing.command_at.Given as goal

-- the command is among those that are left, if it is there
abbrev pub invariant-loop-held : goal.invariant-loop-held
invariant-loop-held l = command_at (drop l.held-index l.commands) l.ticket ≡ command_at l.commands l.ticket
