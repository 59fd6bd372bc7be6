use Rattle.std.proofs.Common.{length}
use Rattle.dns_name.proofs.name.+push_labels.Given as goal

abbrev pub decreases-push_labels : goal.decreases-push_labels
decreases-push_labels l = length l.octets.now
