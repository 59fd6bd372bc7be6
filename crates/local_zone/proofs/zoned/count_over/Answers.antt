use Rattle.std.proofs.Common.{ℕ, List, cond, ap, sym, ◌∙◌, arith, length}
use Rattle.named_list.specs.ListLaws.{length_filter}
use Rattle.named_list.specs.Turn.{other_of}
use Rattle.local_zone.specs.declared.zone.Zone.{Zone}
use Rattle.local_zone.specs.Count.{count_of, counts_for}
use Rattle.local_zone.specs.CountsBelow.{is_below_from, octets_over}
use Rattle.local_zone.proofs.ZonedLaws.{count_fewer, count_more, count_still, one_more_out, one_more_over}
use Rattle.local_zone.proofs.zoned.count_over.Goals as goal

pub returns-in-Some : goal.returns-in-Some
returns-in-Some c =
    let zones : List Zone = c.args.zones.now in
    let after : List Zone = other_of c.args.turn.now zones in
    let records = c.args.records.now in
    let name = c.args.name.now in
    let new = c.in-Some.new.now in
    let one = one_more_over c.args.turn.now zones new (sym c.in-Some.ensures) c.requires.sound in
    let least = ap {B = ℕ} (λ z. cond (is_below_from (octets_over z) new name) (count_of zones new records) 0) c.closest.ensures in
    omega (arith, count_more zones after new one name records, c.count_of-count.ensures zones c.requires.zoned, c.count_moved.ensures zones c.requires.zoned, least, c.saturating_sub.ensures)

pub returns-in-Some-zone_out : goal.returns-in-Some-zone_out
returns-in-Some-zone_out c =
    let zones : List Zone = c.args.zones.now in
    let after : List Zone = other_of c.args.turn.now zones in
    let records = c.args.records.now in
    let name = c.args.name.now in
    let gone : Zone = c.in-Some-zone_out.gone.now in
    let one = one_more_out c.args.turn.now zones gone c.in-Some-zone_out.ensures c.as_slice-zones.ensures.sound in
    let least = ap {B = ℕ} (λ z. cond (is_below_from (octets_over z) gone.name name) (count_of zones gone.name records) 0) c.closest_over-above.ensures in
    omega (
      arith,
      count_fewer after zones gone.name one name records,
      c.count_of-count.ensures zones c.requires.zoned,
      c.count_moved-in-Some-zone_out.ensures zones c.requires.zoned,
      least,
      c.saturating_add.ensures,
      length_filter (counts_for after name) records,
      ap length c.as_slice-all.ensures,
    )

pub returns-in-None : goal.returns-in-None
returns-in-None c =
    c.count_of-count.ensures c.args.zones.now c.requires.zoned
    ∙ count_still c.args.turn.now c.args.zones.now c.args.name.now c.args.records.now c.requires.fits c.in_default.ensures c.in-None.ensures
