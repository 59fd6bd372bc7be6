use Rattle.std.proofs.Common.{◌≡◌, ◌+◌, ◌≤◌, count_by}
use Rattle.flight.specs.Asking.{origin_in}
use Rattle.flight.specs.Places.{is_in_network, is_in_zone}
use Rattle.flight.specs.Waiting.{count_for}
use Rattle.flight.proofs.Places.{entry_for}
use Rattle.flight.proofs.table.Table.has_place.Given as goal

-- What is counted, with what the exchanges that are left hold, is what all hold.
abbrev pub invariant-loop-job : goal.invariant-loop-job
invariant-loop-job g l = record {
  zone_is : l.zone + count_by (entry_for (is_in_zone (origin_in g.K.Client.network l.asking).zone)) l.job-iterator ≡ count_for (is_in_zone (origin_in g.K.Client.network l.asking).zone) l.self.jobs.slots;
  zone_within : l.zone + count_by (entry_for (is_in_zone (origin_in g.K.Client.network l.asking).zone)) l.job-iterator ≤ l.taken;
  network_is : l.network + count_by (entry_for (is_in_network (origin_in g.K.Client.network l.asking).network)) l.job-iterator ≡ count_for (is_in_network (origin_in g.K.Client.network l.asking).network) l.self.jobs.slots;
  network_within : l.network + count_by (entry_for (is_in_network (origin_in g.K.Client.network l.asking).network)) l.job-iterator ≤ l.taken;
}
