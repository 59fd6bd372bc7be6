use Rattle.std.proofs.Common.{ℕ, Option, length, cond, ap, sym, ◌∙◌}
use Rattle.std.specs.Option.{option_map}
use Rattle.local_zone.specs.declared.taken.Taken.{Taken}
use Rattle.local_zone.specs.declared.zone.Zone.{Zone}
use Rattle.local_zone.specs.Closest.{closest}
use Rattle.local_zone.specs.CountsBelow.{is_zone_below}
use Rattle.local_zone.proofs.TogetherLaws.{count_nothing, count_together}
use Rattle.local_zone.proofs.zoned.zone_of_first.Goals as goal

pub returns-in-Some : goal.returns-in-Some
returns-in-Some c it name =
    let zones = c.args.zones.now in
    let taken = c.args.taken.now in
    let head = ap (option_map (λ (t : Taken). t.item.owner)) c.in-Some.ensures.value in
    count_together zones taken c.in-Some.first.now.item.owner head it name
    ∙ ap {B = ℕ} (λ (found : Option Zone). cond (is_zone_below name found) (length taken) 0) (ap (closest zones) (sym c.owner.ensures) ∙ sym c.closest.ensures)

pub returns-in-None : goal.returns-in-None
returns-in-None c it name = count_nothing c.args.zones.now c.args.taken.now name c.in-None.ensures.value
