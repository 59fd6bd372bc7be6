use Rattle.std.proofs.Common.{rules, ◌<◌, ◌≤◌, length, get_or, subst, sym, arith}
use Rattle.std.specs.Option.{option_copied}
use Rattle.dns_text.specs.declared.record.Record.{Record}
use Rattle.dns_wire.specs.declared.message.Classed.{Classed}
use Rattle.dns_wire.specs.Lent.{part_at}
use Rattle.dns_wire.specs.Write.Rdata.{data_octets}
use Rattle.dns_wire.specs.Write.Record.{record_octets}
use Rattle.std.proofs.lemmas.List.Folds.{length-flat_map-take}
use Rattle.std.proofs.lemmas.Grind.{common_steps}
use Rattle.dns_wire.specs.WellFormed.{IsRecord}
use Rattle.dns_wire.proofs.EachLaws.{all_more, all_passed}
use Rattle.dns_wire.proofs.WrittenSize.{data_of_record}
use Rattle.dns_wire.proofs.write.record.push_part.Goals as goal

pub push_record-requires-clause-short : goal.push_record-requires-clause-short
push_record-requires-clause-short g c =
    let records = part_at (g.S.Section.parts c.args.section.now) c.args.part in
    let first = option_copied c.args.first in
    let less : c.loop-place.place < length records = omega (arith, c.loop-place-test.true, c.record_count-place-end.ensures) in
    let here = length-flat_map-take (λ r. record_octets first r) records c.loop-place.place c.record_in.result less in
    let body = data_of_record first (get_or records c.loop-place.place c.record_in.result) in
    subst (λ (r : Classed Record). length (data_octets r.item.body) ≤ 65535) (sym c.record_in.ensures) (omega (arith, c.requires.short))

pub loop-place-preserved : goal.loop-place-preserved
loop-place-preserved g c =
    let records = part_at (g.S.Section.parts c.args.section.now) c.args.part in
    let less : c.loop-place.place < length records = omega (arith, c.loop-place-test.true, c.record_count-place-end.ensures) in
    record {
      told = first_of (search rules, grind (arith, common_steps));
      each = all_more IsRecord records c.loop-place.place c.record_in.result less c.record_in.ensures c.loop-place.invariant.each c.in_ok-push_record.ensures.fits;
    }

pub returns-clause-fits : goal.returns-clause-fits
returns-clause-fits g c =
    let records = part_at (g.S.Section.parts c.args.section.now) c.args.part in
    all_passed IsRecord records c.loop-place.place (omega (arith, c.loop-place-test.false, c.record_count-place-end.ensures)) c.loop-place.invariant.each
