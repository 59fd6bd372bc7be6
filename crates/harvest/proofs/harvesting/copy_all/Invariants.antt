use Rattle.std.proofs.Common.{◌≡◌, map, take}
use Rattle.harvest.proofs.harvesting.copy_all.Given as goal

abbrev pub invariant-loop-datum : goal.invariant-loop-datum
invariant-loop-datum l = l.copies.items ≡ map (λ d. d.now) (take l.datum-index l.lent)
