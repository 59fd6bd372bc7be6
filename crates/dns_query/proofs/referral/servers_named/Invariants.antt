use Rattle.std.proofs.Common.{◌≡◌, length, take}
use Rattle.std.specs.Prelude.{filter, ◌==◌}
use Rattle.std.specs.List.{flat_map}
use Rattle.dns_query.specs.Indexed.{addrs_at}
use Rattle.dns_query.proofs.referral.servers_named.Given as goal

-- those of the names so far
abbrev pub invariant-loop-target : goal.invariant-loop-target
invariant-loop-target l = record {
  addrs : l.addrs.items ≡ flat_map (addrs_at l.index) (take l.target-index l.targets.items);
  missing : l.missing.items ≡ filter (λ name. length (addrs_at l.index name) == 0) (take l.target-index l.targets.items);
}
