use Rattle.std.proofs.Common.{◌≡◌, ◌++◌, map, drop}
use Rattle.std.specs.Prelude.{filter}
use Rattle.neg_rule.specs.Negative.{said_by}
use Rattle.harvest.specs.Harvest.{lives}
use Rattle.harvest.specs.Learnt.{said_of}
use Rattle.harvest.proofs.harvesting.finds_of.Given as goal

-- those so far, and those to come
abbrev pub invariant-loop-set : goal.invariant-loop-set
invariant-loop-set l = map said_by l.finds.items ++ map said_of (filter lives (drop l.set-index l.sets)) ≡ map said_of (filter lives l.sets)
