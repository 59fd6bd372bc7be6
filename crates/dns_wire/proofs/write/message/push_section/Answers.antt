use Rattle.std.proofs.Common.{ℕ, List, [], ◌++◌, ◌<◌, length, sym, ap, ◌∙◌, arith}
use Rattle.std.specs.List.{flat_map, AllByRecursion}
use Rattle.std.specs.Option.{option_copied}
use Rattle.std.proofs.lemmas.List.{take_all}
use Rattle.std.proofs.lemmas.List.Folds.{length-flat_map-take}
use Rattle.dns_wire.specs.Lent.{Parts}
use Rattle.dns_wire.specs.WellFormed.{HasItsForm, IsRecord}
use Rattle.dns_wire.specs.Write.Record.{records_octets}
use Rattle.dns_wire.proofs.EachLaws.{all_passed}
use Rattle.dns_wire.proofs.LentLaws.{all_in_order, all_of_part, octets_by_part}
use Rattle.dns_wire.proofs.write.message.push_section.Goals as goal

pub push_part-requires-clause-forms : goal.push_part-requires-clause-forms
push_part-requires-clause-forms g c = all_of_part HasItsForm (g.S.Section.parts c.args.section.now) c.loop-part.part c.requires.forms

pub push_part-requires-clause-short : goal.push_part-requires-clause-short
push_part-requires-clause-short g c =
    let parts = g.S.Section.parts c.args.section.now in
    let first = option_copied c.args.first in
    let less : c.loop-part.part < length parts = omega (arith, c.loop-part-test.true, c.part_count-part-end.ensures) in
    let here = length-flat_map-take (λ part. records_octets first part) parts c.loop-part.part [] less in
    omega (arith, ap length (octets_by_part first parts), c.requires.short)

pub returns-clause-octets : goal.returns-clause-octets
returns-clause-octets g c =
    let parts = g.S.Section.parts c.args.section.now in
    let first = option_copied c.args.first in
    let passed = take_all c.loop-part.part parts (omega (arith, c.loop-part-test.false, c.part_count-part-end.ensures)) in
    c.loop-part.invariant.told ∙ ap (λ (octets : List ℕ). c.args.out.now.items ++ octets) (ap (λ (p : Parts). flat_map (λ part. records_octets first part) p) passed ∙ sym (octets_by_part first parts))

pub returns-clause-fits : goal.returns-clause-fits
returns-clause-fits g c =
    let parts = g.S.Section.parts c.args.section.now in
    all_in_order IsRecord parts (all_passed (λ part. AllByRecursion IsRecord part) parts c.loop-part.part (omega (arith, c.loop-part-test.false, c.part_count-part-end.ensures)) c.loop-part.invariant.each)
