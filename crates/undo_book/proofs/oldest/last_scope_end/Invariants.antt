use Rattle.std.proofs.Common.{◌≡◌, max, take}
use Rattle.std.specs.Prelude.{fold}
use Rattle.history.specs.OldestFound.{scope_end, settled_of, with_ticket}
use Rattle.undo_book.specs.PlainPast.{past_in}
use Rattle.undo_book.proofs.oldest.last_scope_end.Given as goal

-- the last of the ends of the choices so far
abbrev pub invariant-loop-command : goal.invariant-loop-command
invariant-loop-command l =
    l.end ≡ fold (λ end command. max end (scope_end (past_in l.past) l.moment l.owner l.scope (with_ticket (past_in l.past) command.ticket)))
    (scope_end (past_in l.past) l.moment l.owner l.scope (settled_of (past_in l.past))) (take l.command-index l.journal)
