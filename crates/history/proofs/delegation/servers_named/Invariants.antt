use Rattle.std.proofs.Common.{◌≡◌, take}
use Rattle.std.specs.Prelude.{filter}
use Rattle.std.specs.List.{flat_map}
use Rattle.history.specs.Servers.{addrs_at, has_no_addr}
use Rattle.history.proofs.delegation.servers_named.Given as goal

-- those of the names so far
abbrev pub invariant-loop-target : goal.invariant-loop-target
invariant-loop-target g l = record {
  addrs : l.addrs.items ≡ flat_map (addrs_at l.settings (g.C.CellSource.shows_at l.cells l.moment)) (take l.target-index l.targets.items);
  missing : l.missing.items ≡ filter (has_no_addr l.settings (g.C.CellSource.shows_at l.cells l.moment)) (take l.target-index l.targets.items);
}
