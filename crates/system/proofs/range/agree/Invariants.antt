use Rattle.system.specs.Ranges.{Agree}
use Rattle.system.proofs.range.agree.Given as goal

abbrev pub invariant-loop-place : goal.invariant-loop-place
invariant-loop-place l = Agree l.place l.octets l.others
