use Rattle.std.proofs.Common.{◌≡◌, Some, subst, ◌∙◌}
use Rattle.dns_name.specs.Labels.{Labels}
use Rattle.local_zone.specs.Zoned.{HasOneMore}
use Rattle.local_zone.proofs.CountsBelowLaws.{on_ok}
use Rattle.local_zone.proofs.ZonedLaws.{no_name}
use Rattle.local_zone.proofs.zoned.count_step_in.Goals as goal

pub returns-in-Some-clause-ok : goal.returns-in-Some-clause-ok
returns-in-Some-clause-ok c =
    on_ok c.count_in.result
    (λ ok name is h more one.
    let both : Some c.in-Some.name.now ≡ Some name = c.in-Some.ensures ∙ is in
    let same : name ≡ c.in-Some.name.now = cc in
    ok h more (subst (λ (n : Labels). HasOneMore c.args.zones.now n more) same one))
    c.count_in.ensures.ok

pub returns-in-None-clause-ok : goal.returns-in-None-clause-ok
returns-in-None-clause-ok c name is = no_name name (c.in-None.ensures ∙ is)
