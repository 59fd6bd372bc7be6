use Rattle.std.proofs.Common.{◌≡◌, vec_len}
use Rattle.front.proofs.udp_binding.bind_each.Given as goal

-- as many sockets as rounds
abbrev pub invariant-loop : goal.invariant-loop
invariant-loop g l = vec_len l.sockets ≡ l.counter
