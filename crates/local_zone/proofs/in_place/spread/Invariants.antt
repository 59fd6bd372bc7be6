use Rattle.local_zone.proofs.InPlaceLaws.{Spread}
use Rattle.local_zone.proofs.in_place.spread.Given as goal

abbrev pub invariant-loop-done : goal.invariant-loop-done
invariant-loop-done l = Spread l.gaps l.fn.list l.list l.front l.done
