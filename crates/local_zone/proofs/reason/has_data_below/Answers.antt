use Rattle.std.proofs.Common.{◌&&◌, nat_lt, sym, ◌∙◌}
use Rattle.local_zone.specs.Tables.{Tables}
use Rattle.local_zone.proofs.ZonedLaws.{data_there}
use Rattle.local_zone.proofs.reason.has_data_below.Goals as goal

pub returns-then-is_redirect : goal.returns-then-is_redirect
returns-then-is_redirect c zones h =
    let t : Tables = record { zones = zones; records = c.args.records.now } in
    (λ i. ((sym c.if-is_redirect.true ∙ c.is_redirect.ensures) i) && nat_lt ((c.of.ensures ∙ h c.args.new.now.name) i) (c.count_below.ensures i)) ∙ data_there t c.args.new.now
