use Rattle.std.proofs.Common.{take}
use Rattle.std.specs.List.{Contains}
use Rattle.iterate.proofs.joining.is_listed.Given as goal

abbrev pub invariant-loop-known : goal.invariant-loop-known
invariant-loop-known l = Contains (take l.known-index l.addrs) l.addr → ⊥
