use Rattle.std.proofs.Common.{◌≡◌, ◌∙◌, ap, arith, count_by, max}
use Rattle.std.specs.Prelude.{◌-◌}
use Rattle.flight.specs.Asking.{origin_in}
use Rattle.flight.specs.Places.{is_in_network, is_in_zone}
use Rattle.flight.specs.Waiting.{count_for}
use Rattle.flight.proofs.Places.{all_counted, alone_decides, counted_on, entries_counted, entry_for, no_more_for, place_beside, true_decides}
use Rattle.flight.proofs.table.Table.has_place.Goals as goal

pub loop-job-init : goal.loop-job-init
loop-job-init g c =
    let zone = is_in_zone (origin_in g.K.Client.network c.args.asking.now).zone in
    let network = is_in_network (origin_in g.K.Client.network c.args.asking.now).network in
    let slots = c.args.self.now.jobs.slots in
    let all = c.into_iter-job-iterator.ensures.into_iter_gives ∙ c.iter-job-items.ensures.rest in
    let in_zone = ap (count_by (entry_for zone)) all ∙ entries_counted zone 0 slots in
    let in_network = ap (count_by (entry_for network)) all ∙ entries_counted network 0 slots in
    record {
      zone_is = omega (arith, in_zone);
      zone_within = omega (arith, in_zone, no_more_for zone slots, c.len-taken.ensures);
      network_is = omega (arith, in_network);
      network_within = omega (arith, in_network, no_more_for network slots, c.len-taken.ensures);
    }

pub loop-job-preserved : goal.loop-job-preserved
loop-job-preserved g c =
    let origin = origin_in g.K.Client.network c.args.asking.now in
    let before = c.loop-job.invariant in
    let zone = counted_on (is_in_zone origin.zone) c.loop-job.zone c.from-zone.result _ c.in-Some.job.now _ _ c.is_in_zone_of.result c.in-Some.ensures.steps c.is_in_zone_of.ensures c.from-zone.ensures in
    let network = counted_on (is_in_network origin.network) c.loop-job.network c.from-network.result _ c.in-Some.job.now _ _ c.is_in_network_of.result c.in-Some.ensures.steps c.is_in_network_of.ensures c.from-network.ensures in
    record { zone_is = zone ∙ before.zone_is; zone_within = omega (arith, zone); network_is = network ∙ before.network_is; network_within = omega (arith, network) }

pub overflow_add-zone : goal.overflow_add-zone
overflow_add-zone g c =
    let origin = origin_in g.K.Client.network c.args.asking.now in
    let zone = counted_on (is_in_zone origin.zone) c.loop-job.zone c.from-zone.result _ c.in-Some.job.now _ _ c.is_in_zone_of.result c.in-Some.ensures.steps c.is_in_zone_of.ensures c.from-zone.ensures in
    omega (arith, zone, c.loop-job.invariant.zone_within)

pub overflow_add-network : goal.overflow_add-network
overflow_add-network g c =
    let origin = origin_in g.K.Client.network c.args.asking.now in
    let network = counted_on (is_in_network origin.network) c.loop-job.network c.from-network.result _ c.in-Some.job.now _ _ c.is_in_network_of.result c.in-Some.ensures.steps c.is_in_network_of.ensures c.from-network.ensures in
    omega (arith, network, c.loop-job.invariant.network_within)

pub returns-then-taken-free : goal.returns-then-taken-free
returns-then-taken-free g c =
    let table = c.args.self.now in
    let taken = c.len-taken.ensures in
    true_decides (place_beside (max c.args.now table.latest) (origin_in g.K.Client.network c.args.asking.now) table.asker table.jobs.slots table.limit (table.limit - c.len-taken.result)
    (omega (arith, taken)) (omega (arith, taken)) (omega (arith, taken)))

pub returns : goal.returns
returns g c =
    let table = c.args.self.now in
    let taken = c.len-taken.ensures in
    let origin = origin_in g.K.Client.network c.args.asking.now in
    let free = table.limit - c.len-taken.result in
    let none = c.in-None.ensures.steps.0 in
    let zone : c.loop-job.zone ≡ count_for (is_in_zone origin.zone) table.jobs.slots = all_counted (is_in_zone origin.zone) c.loop-job.zone _ c.loop-job.job-iterator none c.loop-job.invariant.zone_is in
    let network : c.loop-job.network ≡ count_for (is_in_network origin.network) table.jobs.slots = all_counted (is_in_network origin.network) c.loop-job.network _ c.loop-job.job-iterator none c.loop-job.invariant.network_is in
    alone_decides (max c.args.now table.latest) origin table.asker table.jobs.slots table.limit free (omega (arith, taken)) (omega (arith, taken)) (omega (arith, zone)) (omega (arith, network))
    (omega (arith, network, taken, no_more_for (is_in_network origin.network) table.jobs.slots)) c.is_alone.result c.is_alone.ensures
