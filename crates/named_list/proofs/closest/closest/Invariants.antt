use Rattle.std.proofs.Common.{◌≡◌, length}
use Rattle.indexmap.specs.IndexMap.{values}
use Rattle.dns_name.specs.Labels.{octets_of}
use Rattle.named_list.specs.Closest.{closest_of}
use Rattle.named_list.proofs.closest.closest.Given as goal

abbrev pub invariant-loop-thing : goal.invariant-loop-thing
invariant-loop-thing g l = (l.octets ≡ octets_of l.labels) × (closest_of g.T.Named.named (values l.things) l.name ≡ closest_of g.T.Named.named (values l.things) l.labels)

abbrev pub decreases-loop-thing : goal.decreases-loop-thing
decreases-loop-thing g l = length l.labels
