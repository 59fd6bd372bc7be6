use Rattle.std.proofs.Common.{◌≡◌, vec_len}
use Rattle.front.proofs.inbox.Inbox.new.Given as goal

-- so many slots so far
abbrev pub invariant-loop : goal.invariant-loop
invariant-loop g l = vec_len l.slots ≡ l.counter
