use Rattle.std.proofs.Common.{◌≡◌, ◌++◌, map, take}
use Rattle.std.specs.List.{flat_map}
use Rattle.dns_name.specs.Labels.{Labels}
use Rattle.ranked.specs.Addrs.{addr_of}
use Rattle.neg_rule.specs.Negative.{said_by}
use Rattle.dns_query.specs.Indexed.{addrs_at}
use Rattle.dns_query.specs.Referral.{data_found}
use Rattle.dns_query.proofs.servers.add_found.Given as goal

-- those of the finds so far
abbrev pub invariant-loop-find : goal.invariant-loop-find
invariant-loop-find l =
    (name : Labels) → addrs_at l.index name ≡ addrs_at l.initial.index name ++ flat_map (λ said. flat_map (addr_of l.port) (data_found name l.kind said)) (map said_by (take l.find-index l.finds))
