use Rattle.std.proofs.Common.{◌≡◌, Some, subst, ◌∙◌}
use Rattle.dns_name.specs.Labels.{Labels}
use Rattle.local_zone.specs.Zoned.{HasOneMore}
use Rattle.local_zone.proofs.ZonedLaws.{no_name}
use Rattle.local_zone.proofs.zoned.count_step_out.Goals as goal

pub returns-in-Some : goal.returns-in-Some
returns-in-Some c name is more one h =
    let both : Some c.in-Some.name.now ≡ Some name = c.in-Some.ensures ∙ is in
    let same : name ≡ c.in-Some.name.now = cc in
    c.count_out.ensures more (subst (λ (n : Labels). HasOneMore c.args.zones.now n more) same one) h

pub returns-in_default : goal.returns-in_default
returns-in_default c name is = no_name name (c.in_default.ensures ∙ is)
