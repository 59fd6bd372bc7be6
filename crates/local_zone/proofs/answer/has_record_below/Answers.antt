use Rattle.std.proofs.Common.{nat_lt, sym, ◌∙◌}
use Rattle.local_zone.specs.Tables.{Tables}
use Rattle.local_zone.proofs.ZonedLaws.{others_there, own_there}
use Rattle.local_zone.proofs.answer.has_record_below.Goals as goal

pub returns-then-has_owner : goal.returns-then-has_owner
returns-then-has_owner c zones zone covers h =
    let t : Tables = record { zones = zones; records = c.args.records.now } in
    c.if-has_owner.true ∙ sym (own_there t c.args.name.now zone covers (sym c.has_owner.ensures ∙ c.if-has_owner.true))

pub returns-else-has_owner : goal.returns-else-has_owner
returns-else-has_owner c zones zone covers h =
    let t : Tables = record { zones = zones; records = c.args.records.now } in
    (λ i. nat_lt ((c.of.ensures ∙ h c.args.name.now) i) (c.count_below.ensures i)) ∙ others_there t c.args.name.now zone covers (sym c.has_owner.ensures ∙ c.if-has_owner.false)
