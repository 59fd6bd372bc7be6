use Rattle.std.proofs.Common.{arith}
use Rattle.dns_text.proofs.SpelledLaws.{are_strings}
use Rattle.dns_text.proofs.strings.Strings.of.Goals as goal

pub invariant_of-result : goal.invariant_of-result
invariant_of-result c = rw c.in_ok-from_slice.ensures.items (are_strings c.args.octets.now (λ i. omega (arith, c.type_inv.octets i)) c.requires)
