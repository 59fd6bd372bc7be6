use Rattle.std.proofs.Common.{length}
use Rattle.dns_name.proofs.text.+push_label_texts.Given as goal

abbrev pub decreases-push_label_texts : goal.decreases-push_label_texts
decreases-push_label_texts l = length l.octets.now
