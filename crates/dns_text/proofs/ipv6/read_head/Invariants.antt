use Rattle.std.proofs.Common.{◌≡◌, [], length}
use Rattle.dns_text.specs.Ipv6.{head_after}
use Rattle.dns_text.proofs.ipv6.read_head.Given as goal

abbrev pub invariant-loop-word : goal.invariant-loop-word
invariant-loop-word l = head_after l.octets.items l.rest ≡ head_after [] l.text

abbrev pub decreases-loop-word : goal.decreases-loop-word
decreases-loop-word l = length l.rest
