use Rattle.std.proofs.Common.{ℕ, ◌<◌}
use Rattle.dns_wire.specs.Read.Chains.{IsNotedAt}
use Rattle.dns_wire.proofs.read.chains.note_ends.Given as goal

abbrev pub invariant-loop-at : goal.invariant-loop-at
invariant-loop-at l = (place : ℕ) → place < l.at → IsNotedAt l.octets l.ends place
