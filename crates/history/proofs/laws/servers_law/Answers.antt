use Rattle.history.proofs.ServersLaws.{zone_above}
use Rattle.history.proofs.laws.servers_law.Goals as goal

pub returns : goal.returns
returns c = zone_above
