use Rattle.std.proofs.Common.{length}
use Rattle.dns_calls.proofs.arguments.arguments_in.Given as goal

abbrev pub decreases-loop-word : goal.decreases-loop-word
decreases-loop-word l = length l.rest
