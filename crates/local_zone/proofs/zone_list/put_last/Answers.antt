use Rattle.std.proofs.Common.{◌≡◌, List, [], ◌∷◌, ◌++◌, map, cond, ap, sym, subst, ◌∙◌}
use Rattle.local_zone.specs.declared.zone.Zone.{Zone}
use Rattle.local_zone.specs.Change.{put_over}
use Rattle.local_zone.specs.CountsBelow.{is_zoned, AreZoned}
use Rattle.local_zone.specs.Zoned.{HasOneMore}
use Rattle.local_zone.proofs.CountsBelowLaws.{counted_same}
use Rattle.local_zone.proofs.ZonedLaws.{one_more_last}
use Rattle.local_zone.proofs.zone_list.put_last.Goals as goal

pub returns-in_err-count_in-clause-zoned : goal.returns-in_err-count_in-clause-zoned
returns-in_err-count_in-clause-zoned c h = counted_same (is_zoned c.args.zones.now) c.args.records.now c.args.zoned.now c.count_in.new.zoned h c.in_err-count_in.ensures.err

pub returns-in-Ok-clause-zoned : goal.returns-in-Ok-clause-zoned
returns-in-Ok-clause-zoned c h =
    let zones : List Zone = c.args.zones.now in
    let new : Zone = c.args.new in
    let more : List Zone = zones ++ new ∷ [] in
    let is : c.get.result.now ≡ new = c.get.ensures ∙ c.in_ok-twin.ensures in
    let list : c.put.new.self ≡ more = c.in-Ok.ensures.ok ∙ ap (λ b. cond b (map (put_over new) zones) more) c.requires in
    subst (λ (zs : List Zone). AreZoned zs c.args.records.now c.count_in.new.zoned) (sym list)
    (c.in_ok-count_in.ensures.ok h more (subst (λ (z : Zone). HasOneMore zones z.name more) (sym is) (one_more_last zones new c.requires)))

pub returns-clause-zoned : goal.returns-clause-zoned
returns-clause-zoned c h =
    let zones : List Zone = c.args.zones.now in
    let new : Zone = c.args.new in
    let more : List Zone = zones ++ new ∷ [] in
    let is : c.get.result.now ≡ new = c.get.ensures ∙ c.in_ok-twin.ensures in
    let is-2 : c.get-in-Err.result.now ≡ new = c.get-in-Err.ensures ∙ c.in_ok-twin.ensures in
    let list : c.put.new.self ≡ zones = c.in-Err.ensures.err in
    let one : HasOneMore zones new.name more = one_more_last zones new c.requires in
    c.count_out.ensures more (subst (λ (zs : List Zone). HasOneMore zs c.get-in-Err.result.now.name more) (sym list) (subst (λ (z : Zone). HasOneMore zones z.name more) (sym is-2) one))
    (c.in_ok-count_in.ensures.ok h more (subst (λ (z : Zone). HasOneMore zones z.name more) (sym is) one))
