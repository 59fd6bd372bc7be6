use Rattle.std.proofs.Common.{◌≡◌, ◌++◌, drop}
use Rattle.hex.specs.Hex.{encode_lower}
use Rattle.dns_text.proofs.opaque.push_hex.Given as goal

abbrev pub invariant-loop-b : goal.invariant-loop-b
invariant-loop-b l = l.out.items ++ encode_lower (drop l.b-index l.octets) ≡ l.initial.out.items ++ encode_lower l.octets
