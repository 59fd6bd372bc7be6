use Rattle.std.proofs.Common.{ap, ◌∙◌}
use Rattle.dns_name.specs.Labels.{octets_of}
use Rattle.dns_name.proofs.OctetLaws.{octets_of-append, below_from_prefix}
use Rattle.dns_name.proofs.name.octets_law.Goals as goal

pub returns-clause-below : goal.returns-clause-below
returns-clause-below c n z h = (octets_of h.0, ap octets_of h.1 ∙ octets_of-append h.0 z)

pub returns-clause-prefix : goal.returns-clause-prefix
returns-clause-prefix c n z rest e = below_from_prefix n z rest e
