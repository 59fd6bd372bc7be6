use Rattle.std.proofs.Common.{◌≡◌, ◌++◌, drop}
use Rattle.std.specs.List.{filter_map}
use Rattle.neg_rule.specs.Alias.{target_of}
use Rattle.harvest.proofs.choosing.push_names.Given as goal

-- those so far, and those to come
abbrev pub invariant-loop-datum : goal.invariant-loop-datum
invariant-loop-datum l = l.out.items ++ filter_map target_of (drop l.datum-index l.found) ≡ l.initial.out.items ++ filter_map target_of l.found
