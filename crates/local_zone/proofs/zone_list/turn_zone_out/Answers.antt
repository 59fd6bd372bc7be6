use Rattle.std.proofs.Common.{◌≡◌, List, Some, ap, sym, subst, ◌∙◌}
use Rattle.named_list.specs.declared.turn.Turn.{Turn}
use Rattle.named_list.specs.declared.turn.Turn.TheVariants.{With}
use Rattle.named_list.specs.Named.{AreNamed}
use Rattle.named_list.specs.Turn.{name_in, other_of, with_at}
use Rattle.local_zone.specs.declared.zone.Zone.{Zone}
use Rattle.local_zone.specs.CountsBelow.{AreZoned}
use Rattle.local_zone.specs.Zoned.{HasOneMore}
use Rattle.local_zone.proofs.ZonedLaws.{one_more_over, same_over, takes_without, zoned_named}
use Rattle.local_zone.proofs.zone_list.turn_zone_out.Goals as goal

pub returns-then-takes-clause-zoned : goal.returns-then-takes-clause-zoned
returns-then-takes-clause-zoned c h =
    let zones : List Zone = c.args.zones.now in
    let left : List Zone = c.turn_out.new.self in
    let way = takes_without c.args.turn.now zones (sym c.takes_out-takes.ensures ∙ c.if-takes.true) c.requires.fits in
    let now : c.turn_out.new.turn ≡ With way.place way.zone = c.turn_out.ensures.taken way.place way.is ∙ ap (with_at way.place) way.at in
    let named : name_in (λ (z : Zone). z.name) c.turn_out.new.turn ≡ Some way.zone.name = ap (λ (t : Turn Zone). name_in (λ (z : Zone). z.name) t) now in
    let back : other_of c.turn_out.new.turn left ≡ zones = c.turn_out.ensures.again.1 in
    let sound : AreNamed (λ (z : Zone). z.name) (other_of c.turn_out.new.turn left) = subst (λ (zs : List Zone). AreNamed (λ (z : Zone). z.name) zs) (sym back) c.as_slice-zones.ensures.sound in
    c.count_step_out.ensures way.zone.name named zones
    (subst (λ (zs : List Zone). HasOneMore left way.zone.name zs) back (one_more_over c.turn_out.new.turn left way.zone.name named sound)) h

pub returns-else-takes-clause-zoned : goal.returns-else-takes-clause-zoned
returns-else-takes-clause-zoned c h =
    let zones : List Zone = c.args.zones.now in
    let turn : Turn Zone = c.args.turn.now in
    subst (λ (zs : List Zone). AreZoned zs c.args.records.now c.args.zoned.now) (sym c.turn_out.ensures.list)
    (zoned_named zones (other_of turn zones) c.args.records.now c.args.zoned.now (same_over turn zones c.requires.fits c.requires.puts (sym c.takes_out-takes.ensures ∙ c.if-takes.false)) h)
