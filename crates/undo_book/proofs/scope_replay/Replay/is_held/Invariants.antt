use Rattle.std.proofs.Common.{◌≡◌, drop}
use Rattle.history.specs.Journal.{is_among, tickets_of}
use Rattle.undo_book.proofs.scope_replay.Replay.is_held.Given as goal

-- It is not the ticket of a command so far.
abbrev pub invariant-loop-command : goal.invariant-loop-command
invariant-loop-command l = is_among (tickets_of l.self.journal.now) l.ticket ≡ is_among (tickets_of (drop l.command-index l.self.journal.now)) l.ticket
