use Rattle.std.proofs.Common.{◌≡◌, ◌+◌, ◌-◌, List, ap, sym, subst, ◌∙◌, arith}
use Rattle.dns_text.specs.declared.record.Record.{Record}
use Rattle.local_zone.specs.declared.taken.Taken.{Taken}
use Rattle.local_zone.specs.CountsBelow.{count_zoned, counted, is_zoned, AreZoned}
use Rattle.local_zone.specs.Gaps.{records_of}
use Rattle.local_zone.specs.Together.{LieTogether}
use Rattle.local_zone.proofs.CountsBelowLaws.{counted_back, counted_same, is_err_of, is_ok_of}
use Rattle.local_zone.proofs.records.put_in.Goals as goal

pub returns-in_err-count_zones-clause-zoned : goal.returns-in_err-count_zones-clause-zoned
returns-in_err-count_zones-clause-zoned c it h = counted_same (is_zoned c.args.zones.now) c.args.records.now c.args.zoned.now c.count_zones.new.zoned h c.in_err-count_zones.ensures.err

pub returns-else-is_err-clause-zoned : goal.returns-else-is_err-clause-zoned
returns-else-is_err-clause-zoned c it h =
    let zones = c.args.zones.now in
    let start = c.args.zoned.now in
    let here = subst (λ (ts : List Taken). LieTogether zones ts) (sym c.as_slice.ensures) it in
    let list = is_ok_of c.put_in-gaps.result (sym c.is_err.ensures.value ∙ c.if-is_err.false) c.put_in-gaps.ensures.ok in
    subst (λ (rs : List Record). AreZoned zones rs c.count_zones.new.zoned) (sym list)
    (counted_back (is_zoned zones) c.args.removed.now c.args.records.now start c.count_zones.new.zoned h
    (λ name. c.in_ok-count_zones.ensures.ok here name ∙ ap (λ (ts : List Taken). counted name start + count_zoned zones name (records_of ts)) c.as_slice.ensures))

pub returns-then-is_err-clause-zoned : goal.returns-then-is_err-clause-zoned
returns-then-is_err-clause-zoned c it h =
    let zones = c.args.zones.now in
    let start = c.args.zoned.now in
    let mid = c.count_zones.new.zoned in
    let after = c.uncount_zones.new.zoned in
    let same = is_err_of c.put_in-gaps.result (sym c.is_err.ensures.value ∙ c.if-is_err.true) c.put_in-gaps.ensures.err in
    let here = subst (λ (ts : List Taken). LieTogether zones ts) (sym c.as_slice.ensures) it in
    let there = subst (λ (ts : List Taken). LieTogether zones ts) (sym (c.as_slice-then-is_err.ensures ∙ same.1)) it in
    subst (λ (rs : List Record). AreZoned zones rs after) (sym same.0)
    (counted_same (is_zoned zones) c.args.records.now start after h (λ name.
    let more : counted name mid ≡ counted name start + count_zoned zones name (records_of c.args.removed.now)
    = c.in_ok-count_zones.ensures.ok here name ∙ ap (λ (ts : List Taken). counted name start + count_zoned zones name (records_of ts)) c.as_slice.ensures in
    let less : counted name after ≡ counted name mid - count_zoned zones name (records_of c.args.removed.now)
    = c.uncount_zones.ensures there name ∙ ap (λ (ts : List Taken). counted name mid - count_zoned zones name (records_of ts)) (c.as_slice-then-is_err.ensures ∙ same.1) in
    omega (arith, more, less)))
