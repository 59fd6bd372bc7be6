use Rattle.std.proofs.Common.{length}
use Rattle.dns_text.specs.Addr.{addr_in}
use Rattle.play.proofs.WordsSoFar.{SaidSoFar}
use Rattle.play.proofs.words.addrs_in.Given as goal

abbrev pub invariant-loop-word : goal.invariant-loop-word
invariant-loop-word l = SaidSoFar addr_in l.text l.rest l.addrs.items

abbrev pub decreases-loop-word : goal.decreases-loop-word
decreases-loop-word l = length l.rest
