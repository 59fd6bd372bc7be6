use Rattle.std.proofs.Common.{◌≡◌, ap, sym, ◌∙◌}
use Rattle.dns_name.specs.Labels.{Labels}
use Rattle.local_zone.specs.declared.zone_type.ZoneType.TheVariants.{Transparent}
use Rattle.local_zone.proofs.ImpliedLaws.{on_ok, implied_last}
use Rattle.local_zone.proofs.zones.put_implied.Goals as goal

pub returns-clause-ok : goal.returns-clause-ok
returns-clause-ok c =
    let new : c.in_ok-implied.implied ≡ record { name = c.args.owner.now; kind = Transparent } = c.in_ok-implied.ensures ∙ ap (λ (n : Labels). record { name = n; kind = Transparent }) c.in_ok-clone.ensures in
    on_ok c.put_zone.result c.put_zone.ensures.ok c.put_zone.ensures.ok
    (λ is same. is ∙ implied_last (λ z. z.now) c.args.zones.now c.args.owner.now c.closest.result c.in_ok-implied.implied (sym c.is_some.ensures ∙ c.if-is_some.false) c.closest.ensures new)
