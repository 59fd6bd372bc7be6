use Rattle.std.proofs.Common.{length}
use Rattle.play.proofs.serve.coming.Arrivals.new.Given as goal

abbrev pub decreases-loop-word : goal.decreases-loop-word
decreases-loop-word l = length l.rest
