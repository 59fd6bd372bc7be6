use Rattle.std.proofs.Common.{◌≡◌, [], length}
use Rattle.dns_text.specs.String.{octets_after}
use Rattle.dns_text.proofs.string.read_string_octets.Given as goal

abbrev pub invariant-loop-rest : goal.invariant-loop-rest
invariant-loop-rest l = octets_after l.octets.items 0 l.rest ≡ octets_after [] 0 l.text

abbrev pub decreases-loop-rest : goal.decreases-loop-rest
decreases-loop-rest l = length l.rest
