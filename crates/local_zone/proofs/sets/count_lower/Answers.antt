use Rattle.std.proofs.Common.{ltb, rules}
use Rattle.std.proofs.lemmas.Bool.{ltb-true, ltb-false}
use Rattle.std.proofs.lemmas.List.Sorted.{IsPartitionPoint-from_clause, IsPartitionedBy-ltb}
use Rattle.local_zone.proofs.sets.count_lower.Goals as goal

pub returns-clause-lower : goal.returns-clause-lower
returns-clause-lower c =
    let parted = IsPartitionedBy-ltb (λ r. r.kind) _ c.args.kind c.requires in
    let point = IsPartitionPoint-from_clause (λ r. ltb r.kind c.args.kind) _ _ c.partition_point.ensures.partitioned parted (λ a r q k. search rules) in
    λ k d low high. ltb-true _ _ (point.0 k d low high)

pub returns-clause-others : goal.returns-clause-others
returns-clause-others c =
    let parted = IsPartitionedBy-ltb (λ r. r.kind) _ c.args.kind c.requires in
    let point = IsPartitionPoint-from_clause (λ r. ltb r.kind c.args.kind) _ _ c.partition_point.ensures.partitioned parted (λ a r q k. search rules) in
    λ k d low high. ltb-false _ _ (point.1 k d low high)
