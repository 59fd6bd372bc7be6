use Rattle.std.proofs.Common.{◌-◌, List, ap, sym, subst, ◌∙◌}
use Rattle.local_zone.specs.declared.taken.Taken.{Taken}
use Rattle.local_zone.specs.CountsBelow.{count_zoned, counted, is_zoned}
use Rattle.local_zone.specs.Gaps.{records_of}
use Rattle.local_zone.specs.Together.{LieTogether}
use Rattle.local_zone.proofs.CountsBelowLaws.{counted_left}
use Rattle.local_zone.proofs.records.take_out.Goals as goal

pub returns-clause-zoned : goal.returns-clause-zoned
returns-clause-zoned c it h =
    let zones = c.args.zones.now in
    let start = c.args.zoned.now in
    let here = subst (λ (ts : List Taken). LieTogether zones ts) (sym (c.as_slice.ensures ∙ c.in_ok-removed.ensures.removed)) it in
    counted_left (is_zoned zones) c.args.records.now c.args.gaps.now c.in_ok-removed.removed c.take_out.new.self start c.uncount_zones.new.zoned c.requires.within c.in_ok-removed.ensures.removed c.in_ok-removed.ensures.ok h
    (λ name. c.uncount_zones.ensures here name ∙ ap (λ (ts : List Taken). counted name start - count_zoned zones name (records_of ts)) c.as_slice.ensures)
