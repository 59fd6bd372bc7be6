use Rattle.std.proofs.Common.{ap, ◌∙◌}
use Rattle.std.proofs.lemmas.Bool.{false≢true}
use Rattle.dns_name.specs.Labels.{Labels}
use Rattle.dns_name.specs.Order.{name_eq_exact}
use Rattle.local_zone.specs.Closest.{is_named, lies_in}
use Rattle.local_zone.proofs.own_records.lies_with.Goals as goal

pub returns-in-Some : goal.returns-in-Some
returns-in-Some c name lies =
    c.lies_under.ensures ∙ ap (λ (n : Labels). lies_in c.args.zones.now n c.args.owner.now) (name_eq_exact c.in-Some.gone.now.name name (ap (is_named name) c.in-Some.ensures ∙ lies))

pub returns-in-None : goal.returns-in-None
returns-in-None c name lies = absurd (false≢true (ap (is_named name) c.in-None.ensures ∙ lies))
