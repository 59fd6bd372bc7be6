use Rattle.std.proofs.Common.{length}
use Rattle.local_zone.proofs.counts_below.CountsBelow.+add_above.Given as goal

abbrev pub decreases-add_above : goal.decreases-add_above
decreases-add_above l = length l.labels.now
