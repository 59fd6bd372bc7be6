use Rattle.std.proofs.Common.{List, refl, ap, sym, ◌∙◌, arith}
use Rattle.std.specs.Option.{option_map}
use Rattle.dns_text.specs.declared.record.Record.{Record}
use Rattle.named_list.specs.Turn.{other_of}
use Rattle.local_zone.specs.Count.{count_of}
use Rattle.local_zone.specs.Gaps.{rest_of}
use Rattle.local_zone.proofs.OtherLaws.{all_left, count_left_owner, count_left_zone, first_goes, tested}
use Rattle.local_zone.proofs.other_counts.count_left.Goals as goal

pub first_at-requires : goal.first_at-requires
first_at-requires c = rw c.as_slice.ensures c.requires.within

pub returns-in_default : goal.returns-in_default
returns-in_default c =
    let records : List Record = c.args.records.now in
    let gaps = c.args.gaps.now in
    let none = sym (ap (λ r. option_map (λ name. name.now) r) c.in_default.is) ∙ rw c.as_slice.ensures at c.first_at.ensures in
    c.count_over.ensures ∙ ap (count_of (other_of c.args.turn.now c.args.zones.now) c.args.name.now) (all_left gaps records c.requires.within none)

pub returns-then-takes_out : goal.returns-then-takes_out
returns-then-takes_out c =
    let zones = c.args.zones.now in
    let records : List Record = c.args.records.now in
    let gaps = c.args.gaps.now in
    let name = c.args.name.now in
    let it = tested c.args.turn.now zones records (rest_of gaps records) c.requires.fits c.requires.removal in
    let first = c.in-Some.first.now in
    let passes = first_goes it gaps refl c.requires.within c.requires.apart first (rw c.as_slice.ensures at c.in-Some.ensures) in
    let w = sym c.takes_out.ensures ∙ c.if-takes_out.true in
    let z = it.zone w in
    c.count_dropped.ensures c.requires.zoned z.0 (sym (z.1.0 first) ∙ passes) ∙ sym (count_left_zone it gaps refl name w _ first passes (sym (z.1.0 name)))

pub returns : goal.returns
returns c =
    let zones = c.args.zones.now in
    let records : List Record = c.args.records.now in
    let gaps = c.args.gaps.now in
    let name = c.args.name.now in
    let it = tested c.args.turn.now zones records (rest_of gaps records) c.requires.fits c.requires.removal in
    let first = c.in-Some.first.now in
    let passes = first_goes it gaps refl c.requires.within c.requires.apart first (rw c.as_slice.ensures at c.in-Some.ensures) in
    let w = sym c.takes_out.ensures ∙ c.if-takes_out.false in
    let law = count_left_owner it gaps refl name w c.requires.within c.requires.apart first passes in
    omega (arith, law, c.count_without.ensures c.requires.zoned)
