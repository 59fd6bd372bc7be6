use Rattle.std.proofs.Common.{◌≡◌, length}
use Rattle.std.specs.Option.{option_map}
use Rattle.indexmap.specs.IndexMap.{values}
use Rattle.dns_name.specs.Closest.{closest_with}
use Rattle.dns_name.specs.Labels.{octets_of}
use Rattle.named_list.specs.Closest.{found_over}
use Rattle.named_list.proofs.closest.closest_but.Given as goal

abbrev pub invariant-loop-thing : goal.invariant-loop-thing
invariant-loop-thing g l =
    let has = found_over g.T.Named.named (values l.things) l.other (option_map (λ s. s.now) l.instead) in
    (l.octets ≡ octets_of l.labels) × (closest_with has l.name ≡ closest_with has l.labels)

abbrev pub decreases-loop-thing : goal.decreases-loop-thing
decreases-loop-thing g l = length l.labels
