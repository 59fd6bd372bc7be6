use Rattle.std.proofs.Common.{◌≡◌, ◌-◌, List, Some, None, cond, length, take, slice_get, ap, sym, subst, ◌∙◌}
use Rattle.dns_name.specs.Labels.{Labels}
use Rattle.dns_text.specs.declared.record.Record.{Record}
use Rattle.local_zone.specs.CountsBelow.{counted, is_zoned, AreZoned}
use Rattle.local_zone.proofs.CountsBelowLaws.{counted_pop}
use Rattle.local_zone.proofs.ZonedLaws.{last_is, none_last}
use Rattle.local_zone.proofs.records.uncount_last.Goals as goal

pub returns-in-Some : goal.returns-in-Some
returns-in-Some c h =
    let zones = c.args.zones.now in
    let records : List Record = c.args.records.now in
    let start = c.args.zoned.now in
    let last : Record = c.in-Some.last.now in
    let front : List Record = take (length records - 1) records in
    let at : slice_get records (length records - 1) ≡ Some last = ap (λ (rs : List Record). slice_get rs (length rs - 1)) (sym c.as_slice.ensures) ∙ sym c.in-Some.ensures.value in
    counted_pop (is_zoned zones) front last start c.uncount_zone.new.zoned (subst (λ (rs : List Record). AreZoned zones rs start) (last_is records last at) h)
    (λ name. c.uncount_zone.ensures name ∙ ap (λ (o : Labels). counted name start - cond (is_zoned zones name o) 1 0) c.owner.ensures)

pub returns-in_default : goal.returns-in_default
returns-in_default c h =
    let records : List Record = c.args.records.now in
    let at : slice_get records (length records - 1) ≡ None = ap (λ (rs : List Record). slice_get rs (length rs - 1)) (sym c.as_slice.ensures) ∙ sym c.in_default.ensures.value in
    subst (λ (rs : List Record). AreZoned c.args.zones.now rs c.args.zoned.now) (sym (none_last records at)) h
