use Rattle.std.proofs.Common.{◌≡◌, ◌+◌, ◌-◌, List, cond, ap, sym, subst, ◌∙◌}
use Rattle.dns_name.specs.Labels.{Labels}
use Rattle.dns_text.specs.declared.record.Record.{Record}
use Rattle.local_zone.specs.CountsBelow.{counted, is_zoned, AreZoned}
use Rattle.local_zone.proofs.CountsBelowLaws.{counted_push, counted_same, counted_undone}
use Rattle.local_zone.proofs.records.push.Goals as goal

pub returns-in_err-count_zone-clause-zoned : goal.returns-in_err-count_zone-clause-zoned
returns-in_err-count_zone-clause-zoned c h = counted_same (is_zoned c.args.zones.now) c.args.records.now c.args.zoned.now c.count_zone.new.zoned h c.in_err-count_zone.ensures.err

pub returns-in-Ok-clause-zoned : goal.returns-in-Ok-clause-zoned
returns-in-Ok-clause-zoned c h =
    let zones = c.args.zones.now in
    let start = c.args.zoned.now in
    let list = c.in-Ok.ensures.ok in
    let owner : c.owner.result.now ≡ c.args.new.owner = c.owner.ensures ∙ ap (λ (r : Record). r.owner) c.in_ok-twin.ensures in
    subst (λ (rs : List Record). AreZoned zones rs c.count_zone.new.zoned) (sym list)
    (counted_push (is_zoned zones) c.args.records.now c.args.new start c.count_zone.new.zoned h
    (λ name. c.in_ok-count_zone.ensures.ok name ∙ ap (λ (o : Labels). counted name start + cond (is_zoned zones name o) 1 0) owner))

pub returns-clause-zoned : goal.returns-clause-zoned
returns-clause-zoned c h =
    let zones = c.args.zones.now in
    let start = c.args.zoned.now in
    let mid = c.count_zone.new.zoned in
    let list = c.in-Err.ensures.err in
    let owner : c.owner.result.now ≡ c.args.new.owner = c.owner.ensures ∙ ap (λ (r : Record). r.owner) c.in_ok-twin.ensures in
    let owner-2 : c.owner-in-Err.result.now ≡ c.args.new.owner = c.owner-in-Err.ensures ∙ ap (λ (r : Record). r.owner) c.in_ok-twin.ensures in
    subst (λ (rs : List Record). AreZoned zones rs c.uncount_zone.new.zoned) (sym list)
    (counted_undone (is_zoned zones) c.args.records.now c.args.new start mid c.uncount_zone.new.zoned h
    (λ name. c.in_ok-count_zone.ensures.ok name ∙ ap (λ (o : Labels). counted name start + cond (is_zoned zones name o) 1 0) owner)
    (λ name. c.uncount_zone.ensures name ∙ ap (λ (o : Labels). counted name mid - cond (is_zoned zones name o) 1 0) owner-2))
