use Rattle.std.proofs.Common.{◌≡◌, vec_len}
use Rattle.front.proofs.tcp.listener.share_listener.Given as goal

-- one listener and one waker for each worker so far
abbrev pub invariant-loop : goal.invariant-loop
invariant-loop g l = (vec_len l.polls ≡ l.counter) × (vec_len l.wakers ≡ l.counter)
