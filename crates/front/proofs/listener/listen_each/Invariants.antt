use Rattle.std.proofs.Common.{◌≡◌, vec_len, length}
use Rattle.front.proofs.listener.listen_each.Given as goal

-- one listener and one waker for each socket so far
abbrev pub invariant-loop-socket : goal.invariant-loop-socket
invariant-loop-socket g l = (vec_len l.listeners ≡ length l.yielded) × (vec_len l.wakers ≡ length l.yielded)
