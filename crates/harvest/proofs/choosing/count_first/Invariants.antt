use Rattle.std.proofs.Common.{◌≡◌, ◌+◌, ◌≤◌, length, map, drop}
use Rattle.std.specs.Prelude.{filter}
use Rattle.neg_rule.specs.Negative.{said_by}
use Rattle.harvest.specs.Chosen.{is_first}
use Rattle.harvest.proofs.choosing.count_first.Given as goal

-- those so far, and those to come
abbrev pub invariant-loop-find : goal.invariant-loop-find
invariant-loop-find l = record {
  so_far : l.count + length (filter (is_first l.servers) (map said_by (drop l.find-index l.finds))) ≡ length (filter (is_first l.servers) (map said_by l.finds));
  few : l.count ≤ l.find-index;
}
