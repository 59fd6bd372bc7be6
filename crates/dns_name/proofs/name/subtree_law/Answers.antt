use Rattle.dns_name.proofs.OrderLaws.{zone_is_first, contiguous}
use Rattle.dns_name.proofs.name.subtree_law.Goals as goal

pub returns-clause-zone_is_first : goal.returns-clause-zone_is_first
returns-clause-zone_is_first c = zone_is_first

pub returns-clause-contiguous : goal.returns-clause-contiguous
returns-clause-contiguous c = contiguous
