use Rattle.std.proofs.Common.{map, take}
use Rattle.std.specs.List.{AllByRecursion}
use Rattle.neg_rule.specs.Negative.{said_by}
use Rattle.dns_query.specs.Believed.{IsFoundFor}
use Rattle.dns_query.proofs.believing.first_found.Given as goal

-- none so far
abbrev pub invariant-loop-find : goal.invariant-loop-find
invariant-loop-find l = AllByRecursion (λ x. ¬ (IsFoundFor (record { owner = l.owner; kind = l.kind }) x)) (map said_by (take l.find-index l.finds))
