use Rattle.std.proofs.Common.{◌-◌, ℕ, Option, cond, ap, ◌∙◌, arith}
use Rattle.local_zone.specs.declared.zone.Zone.{Zone}
use Rattle.local_zone.specs.CountsBelow.{counted, is_zone_below}
use Rattle.local_zone.proofs.zoned.uncount_zone.Goals as goal

pub returns-in-Some : goal.returns-in-Some
returns-in-Some c name = c.remove.ensures name ∙ ap (λ (found : Option Zone). counted name c.args.zoned.now - cond (is_zone_below name found) 1 0) c.in-Some.ensures

pub returns-in_default : goal.returns-in_default
returns-in_default c name = omega (arith, ap {B = ℕ} (λ (found : Option Zone). cond (is_zone_below name found) 1 0) c.in_default.ensures)
