use Rattle.std.proofs.Common.{◌≡◌, List, ap, sym, subst, ◌∙◌}
use Rattle.named_list.specs.declared.turn.Turn.{Turn}
use Rattle.named_list.specs.Turn.{name_in, other_of}
use Rattle.local_zone.specs.declared.zone.Zone.{Zone}
use Rattle.local_zone.specs.CountsBelow.{is_zoned, AreZoned}
use Rattle.local_zone.specs.Zoned.{HasOneMore}
use Rattle.local_zone.proofs.CountsBelowLaws.{counted_same, is_err_of, is_ok_of}
use Rattle.local_zone.proofs.ZonedLaws.{one_more_over, puts_with}
use Rattle.local_zone.proofs.zone_list.put_zone_in.Goals as goal

pub returns-in_err-count_step_in-clause-zoned : goal.returns-in_err-count_step_in-clause-zoned
returns-in_err-count_step_in-clause-zoned c h = counted_same (is_zoned c.args.zones.now) c.args.records.now c.args.zoned.now c.count_step_in.new.zoned h c.in_err-count_step_in.ensures.err

pub returns-else-is_err-clause-zoned : goal.returns-else-is_err-clause-zoned
returns-else-is_err-clause-zoned c h =
    let zones : List Zone = c.args.zones.now in
    let turn : Turn Zone = c.args.turn.now in
    let way = puts_with turn c.requires.puts in
    let list : c.put_in-put.new.self ≡ other_of turn zones = is_ok_of c.put_in-put.result (sym c.is_err.ensures.value ∙ c.if-is_err.false) c.put_in-put.ensures.ok in
    subst (λ (zs : List Zone). AreZoned zs c.args.records.now c.count_step_in.new.zoned) (sym list)
    (c.in_ok-count_step_in.ensures.ok way.0 way.1 h (other_of turn zones) (one_more_over turn zones way.0 way.1 c.requires.sound))

pub returns-then-is_err-clause-zoned : goal.returns-then-is_err-clause-zoned
returns-then-is_err-clause-zoned c h =
    let zones : List Zone = c.args.zones.now in
    let turn : Turn Zone = c.args.turn.now in
    let way = puts_with turn c.requires.puts in
    let one : HasOneMore zones way.0 (other_of turn zones) = one_more_over turn zones way.0 way.1 c.requires.sound in
    let same = is_err_of c.put_in-put.result (sym c.is_err.ensures.value ∙ c.if-is_err.true) c.put_in-put.ensures.err in
    c.count_step_out.ensures way.0 (ap (λ (t : Turn Zone). name_in (λ (z : Zone). z.name) t) same.1 ∙ way.1) (other_of turn zones)
    (subst (λ (zs : List Zone). HasOneMore zs way.0 (other_of turn zones)) (sym same.0) one)
    (c.in_ok-count_step_in.ensures.ok way.0 way.1 h (other_of turn zones) one)
