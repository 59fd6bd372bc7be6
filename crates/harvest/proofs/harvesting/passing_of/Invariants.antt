use Rattle.std.proofs.Common.{◌≡◌, ◌++◌, map, drop}
use Rattle.std.specs.Prelude.{filter}
use Rattle.harvest.specs.Harvest.{passes}
use Rattle.harvest.specs.Learnt.{set_of}
use Rattle.harvest.proofs.harvesting.passing_of.Given as goal

-- those so far, and those to come
abbrev pub invariant-loop-set : goal.invariant-loop-set
invariant-loop-set l = map set_of l.passing.items ++ filter passes (drop l.set-index l.sets) ≡ filter passes l.sets
