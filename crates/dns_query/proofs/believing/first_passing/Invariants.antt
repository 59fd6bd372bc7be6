use Rattle.std.proofs.Common.{map, take}
use Rattle.std.specs.List.{AllByRecursion}
use Rattle.harvest.specs.Learnt.{set_of}
use Rattle.dns_query.specs.Believed.{IsPassingFor}
use Rattle.dns_query.proofs.believing.first_passing.Given as goal

-- none so far
abbrev pub invariant-loop-set : goal.invariant-loop-set
invariant-loop-set l = AllByRecursion (λ x. ¬ (IsPassingFor (record { owner = l.owner; kind = l.kind }) x)) (map set_of (take l.set-index l.passing))
