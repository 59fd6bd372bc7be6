use Rattle.std.proofs.Common.{◌≡◌, true, List, [], ◌∷◌, ◌++◌, map, cond, ap, sym, subst, ◌∙◌}
use Rattle.named_list.specs.NamedLaws.{names_over}
use Rattle.local_zone.specs.declared.zone.Zone.{Zone}
use Rattle.local_zone.specs.Change.{has_zone, put_over}
use Rattle.local_zone.specs.CountsBelow.{AreZoned}
use Rattle.local_zone.proofs.CountsBelowLaws.{either}
use Rattle.local_zone.proofs.ZonedLaws.{zoned_named}
use Rattle.local_zone.proofs.zone_list.put_zone.Goals as goal

pub returns-then-has-clause-zoned : goal.returns-then-has-clause-zoned
returns-then-has-clause-zoned c h =
    let zones : List Zone = c.args.zones.now in
    let new : Zone = c.args.new in
    let zoned = c.args.zoned.now in
    let records = c.args.records.now in
    let has : has_zone zones new.name ≡ true = ap (λ (z : Zone). has_zone zones z.name) (sym c.get.ensures) ∙ sym c.has.ensures ∙ c.if-has.true in
    either c.put.result c.put.ensures.ok c.put.ensures.err
    (λ is. subst (λ (zs : List Zone). AreZoned zs records zoned) (sym (is ∙ ap (λ b. cond b (map (put_over new) zones) (zones ++ new ∷ [])) has))
    (zoned_named zones (map (put_over new) zones) records zoned (names_over (λ (z : Zone). z.name) new zones) h))
    (λ is. subst (λ (zs : List Zone). AreZoned zs records zoned) (sym is) h)
