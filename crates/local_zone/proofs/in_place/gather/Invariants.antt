use Rattle.local_zone.proofs.InPlaceLaws.{Gathered}
use Rattle.local_zone.proofs.in_place.gather.Given as goal

abbrev pub invariant-loop-count : goal.invariant-loop-count
invariant-loop-count l = Gathered l.gaps l.fn.list l.list l.front l.count
