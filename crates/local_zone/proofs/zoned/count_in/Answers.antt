use Rattle.local_zone.proofs.CountsBelowLaws.{on_ok}
use Rattle.local_zone.proofs.ZonedLaws.{zoned_in}
use Rattle.local_zone.proofs.zoned.count_in.Goals as goal

pub returns-clause-ok : goal.returns-clause-ok
returns-clause-ok c =
    let zones = c.args.zones.now in
    on_ok c.add_from.result
    (λ added h more one. zoned_in zones more c.args.name.now one c.args.records.now c.args.zoned.now c.add_from.new.self c.octets_over-least.result c.count_of-count.result c.octets_over-least.ensures (c.count_of-count.ensures zones h) h added)
    c.add_from.ensures.ok
