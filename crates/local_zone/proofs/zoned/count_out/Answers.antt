use Rattle.local_zone.proofs.ZonedLaws.{zoned_out}
use Rattle.local_zone.proofs.zoned.count_out.Goals as goal

pub returns : goal.returns
returns c more one h =
    zoned_out c.args.zones.now more c.args.name.now one c.args.records.now c.args.zoned.now c.remove_from.new.self c.octets_over-least.result c.count_of-count.result c.octets_over-least.ensures (c.count_of-count.ensures more h) h
    (λ n. c.remove_from.ensures n)
