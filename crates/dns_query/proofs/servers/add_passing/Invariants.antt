use Rattle.std.proofs.Common.{◌≡◌, ◌++◌, map, take}
use Rattle.std.specs.List.{flat_map}
use Rattle.dns_name.specs.Labels.{Labels}
use Rattle.ranked.specs.Addrs.{addr_of}
use Rattle.harvest.specs.Learnt.{set_of}
use Rattle.dns_query.specs.Indexed.{addrs_at}
use Rattle.dns_query.specs.Referral.{data_passing}
use Rattle.dns_query.proofs.servers.add_passing.Given as goal

-- those of the sets so far
abbrev pub invariant-loop-set : goal.invariant-loop-set
invariant-loop-set l =
    (name : Labels) → addrs_at l.index name ≡ addrs_at l.initial.index name ++ flat_map (λ set. flat_map (addr_of l.port) (data_passing name l.kind set)) (map set_of (take l.set-index l.passing))
