use Rattle.std.proofs.Common.{length}
use Rattle.history.proofs.closest.+closest_servers.Given as goal

abbrev pub decreases-closest_servers : goal.decreases-closest_servers
decreases-closest_servers g l = length l.name.now
