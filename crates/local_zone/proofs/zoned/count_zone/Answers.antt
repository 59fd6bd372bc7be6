use Rattle.std.proofs.Common.{◌+◌, ℕ, Option, cond, ap, ◌∙◌, arith}
use Rattle.local_zone.specs.declared.zone.Zone.{Zone}
use Rattle.local_zone.specs.CountsBelow.{counted, is_zone_below}
use Rattle.local_zone.proofs.CountsBelowLaws.{on_ok}
use Rattle.local_zone.proofs.zoned.count_zone.Goals as goal

pub returns-in-Some-clause-ok : goal.returns-in-Some-clause-ok
returns-in-Some-clause-ok c =
    on_ok c.add.result (λ more name. more name ∙ ap (λ (found : Option Zone). counted name c.args.zoned.now + cond (is_zone_below name found) 1 0) c.in-Some.ensures) c.add.ensures.ok

pub returns-in-None-clause-ok : goal.returns-in-None-clause-ok
returns-in-None-clause-ok c name = omega (arith, ap {B = ℕ} (λ (found : Option Zone). cond (is_zone_below name found) 1 0) c.in-None.ensures)
