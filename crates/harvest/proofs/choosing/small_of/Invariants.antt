use Rattle.std.proofs.Common.{◌≡◌, ◌++◌, map, drop}
use Rattle.std.specs.Prelude.{filter}
use Rattle.neg_rule.specs.Negative.{said_by}
use Rattle.harvest.specs.Chosen.{is_small}
use Rattle.harvest.proofs.choosing.small_of.Given as goal

-- those so far, and those to come
abbrev pub invariant-loop-find : goal.invariant-loop-find
invariant-loop-find l = map said_by l.small.items ++ filter is_small (map said_by (drop l.find-index l.finds)) ≡ filter is_small (map said_by l.finds)
