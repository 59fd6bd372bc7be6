use Rattle.std.proofs.Common.{◌≡◌, ◌++◌, map, drop}
use Rattle.neg_rule.specs.Negative.{said_by}
use Rattle.harvest.specs.Chosen.{is_first, with_few}
use Rattle.harvest.proofs.choosing.with_few.Given as goal

-- those so far, and those to come
abbrev pub invariant-loop-find : goal.invariant-loop-find
invariant-loop-find l = map said_by l.some.items ++ with_few (is_first l.servers) l.left (map said_by (drop l.find-index l.finds)) ≡ with_few (is_first l.servers) l.fn.places (map said_by l.finds)
