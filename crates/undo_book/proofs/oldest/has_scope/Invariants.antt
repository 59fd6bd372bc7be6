use Rattle.std.proofs.Common.{◌≡◌, drop}
use Rattle.undo_book.specs.Ends.{ends_now, has_scope}
use Rattle.undo_book.proofs.oldest.has_scope.Given as goal

-- It is not among those so far.
abbrev pub invariant-loop-known : goal.invariant-loop-known
invariant-loop-known l = has_scope (ends_now l.ends) l.find.owner l.find.scope ≡ has_scope (ends_now (drop l.known-index l.ends)) l.find.owner l.find.scope
