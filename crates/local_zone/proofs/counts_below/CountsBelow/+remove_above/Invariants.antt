use Rattle.std.proofs.Common.{length}
use Rattle.local_zone.proofs.counts_below.CountsBelow.+remove_above.Given as goal

abbrev pub decreases-remove_above : goal.decreases-remove_above
decreases-remove_above l = length l.labels.now
