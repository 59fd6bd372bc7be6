use Rattle.std.proofs.Common.{take}
use Rattle.cell_store.proofs.MixedLaws.{AreOne}
use Rattle.cell_store.proofs.mixed.any_mixed.Given as goal

-- each of the columns so far has one entry
abbrev pub invariant-loop-own : goal.invariant-loop-own
invariant-loop-own l = AreOne (take l.own-index l.kinds)
