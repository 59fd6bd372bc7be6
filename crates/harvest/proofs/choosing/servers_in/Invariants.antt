use Rattle.std.proofs.Common.{◌≡◌, ◌++◌, map, drop}
use Rattle.std.specs.List.{flat_map}
use Rattle.neg_rule.specs.Negative.{said_by}
use Rattle.harvest.specs.Chosen.{servers_of}
use Rattle.harvest.proofs.choosing.servers_in.Given as goal

-- those so far, and those to come
abbrev pub invariant-loop-find : goal.invariant-loop-find
invariant-loop-find l = l.servers.items ++ flat_map servers_of (map said_by (drop l.find-index l.finds)) ≡ flat_map servers_of (map said_by l.finds)
