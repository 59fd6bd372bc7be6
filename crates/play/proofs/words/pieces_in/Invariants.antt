use Rattle.std.proofs.Common.{length, map}
use Rattle.play.specs.Words.{octets_in}
use Rattle.play.proofs.WordsSoFar.{SaidSoFar}
use Rattle.play.proofs.words.pieces_in.Given as goal

abbrev pub invariant-loop-word : goal.invariant-loop-word
invariant-loop-word l = SaidSoFar octets_in l.text l.rest (map (λ v. v.items) l.pieces.items)

abbrev pub decreases-loop-word : goal.decreases-loop-word
decreases-loop-word l = length l.rest
