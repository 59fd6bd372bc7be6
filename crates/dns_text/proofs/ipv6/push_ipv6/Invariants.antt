use Rattle.std.proofs.Common.{◌≡◌, ◌++◌, ◌∷◌, length, flat_map}
use Rattle.std.specs.Net.Text.{hex}
use Rattle.std.specs.Net.Addr.{segments_of}
use Rattle.dns_text.specs.Ipv6.{ipv6_text}
use Rattle.dns_text.proofs.ipv6.push_ipv6.Given as goal

abbrev pub invariant-loop-rest : goal.invariant-loop-rest
invariant-loop-rest l = l.out.items ++ flat_map (λ t. 58 ∷ hex t) (segments_of l.rest) ≡ l.fn.out.items ++ ipv6_text l.octets

abbrev pub decreases-loop-rest : goal.decreases-loop-rest
decreases-loop-rest l = length l.rest
