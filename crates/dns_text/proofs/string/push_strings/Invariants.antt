use Rattle.std.proofs.Common.{◌≡◌, ◌++◌, ◌∷◌, length}
use Rattle.std.specs.List.{flat_map}
use Rattle.dns_text.specs.String.{quoted_text}
use Rattle.dns_text.proofs.string.push_strings.Given as goal

abbrev pub invariant-loop-octets : goal.invariant-loop-octets
invariant-loop-octets l =
    l.out.items ++ flat_map (λ s. 32 ∷ quoted_text s) l.left ≡ l.initial.out.items ++ flat_map (λ s. 32 ∷ quoted_text s) l.initial.left

abbrev pub decreases-loop-octets : goal.decreases-loop-octets
decreases-loop-octets l = length l.left
