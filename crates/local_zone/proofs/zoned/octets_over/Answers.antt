use Rattle.std.proofs.Common.{ap, ◌∙◌}
use Rattle.local_zone.specs.CountsBelow.{octets_over}
use Rattle.local_zone.proofs.zoned.octets_over.Goals as goal

pub returns : goal.returns
returns c = c.octets_in.ensures ∙ ap octets_over c.closest.ensures
