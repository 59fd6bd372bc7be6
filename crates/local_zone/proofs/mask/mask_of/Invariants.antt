use Rattle.std.proofs.Common.{◌≡◌, length}
use Rattle.dns_name.specs.Labels.{octets_of}
use Rattle.local_zone.specs.Mask.{mask_of, mask_with}
use Rattle.local_zone.proofs.mask.mask_of.Given as goal

abbrev pub invariant-loop-label : goal.invariant-loop-label
invariant-loop-label l = (l.octets ≡ octets_of l.labels) × (mask_with l.mask l.labels ≡ mask_of l.name)

abbrev pub decreases-loop-label : goal.decreases-loop-label
decreases-loop-label l = length l.labels
