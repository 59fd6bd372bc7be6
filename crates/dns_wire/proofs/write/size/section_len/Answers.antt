use Rattle.std.proofs.Common.{◌≡◌, ℕ, ◌+◌, ◌<◌, [], length, take, sym, ap, ◌∙◌, arith}
use Rattle.std.specs.List.{flat_map}
use Rattle.std.proofs.lemmas.List.{take_all}
use Rattle.std.specs.Option.{option_copied}
use Rattle.std.proofs.lemmas.List.Folds.{length-flat_map-take}
use Rattle.dns_wire.specs.Lent.{Parts, in_order}
use Rattle.dns_wire.specs.WellFormed.{HasItsForm}
use Rattle.dns_wire.specs.Write.Record.{records_octets}
use Rattle.dns_wire.proofs.LentLaws.{all_of_part, octets_by_part}
use Rattle.dns_wire.proofs.WrittenSize.{too_many, fits_within, more_than_fit}
use Rattle.dns_wire.proofs.write.size.section_len.Goals as goal

pub part_len-requires-clause-forms : goal.part_len-requires-clause-forms
part_len-requires-clause-forms g c = all_of_part HasItsForm (g.S.Section.parts c.args.section.now) c.loop-part.part c.requires.forms

pub returns-in_err-total : goal.returns-in_err-total
returns-in_err-total g c =
    let parts = g.S.Section.parts c.args.section.now in
    let first = option_copied c.args.first in
    let less : c.loop-part.part < length parts = omega (arith, c.loop-part-test.true, c.part_count-part-end.ensures) in
    let over = more_than_fit (sym c.part_len.ensures ∙ c.in_err-total.was) in
    let here = length-flat_map-take (λ part. records_octets first part) parts c.loop-part.part [] less in
    let all = ap length (octets_by_part first parts) in
    c.from_residual.ensures ∙ too_many (omega arith)

pub returns : goal.returns
returns g c =
    let parts = g.S.Section.parts c.args.section.now in
    let first = option_copied c.args.first in
    let passed = take_all c.loop-part.part parts (omega (arith, c.loop-part-test.false, c.part_count-part-end.ensures)) in
    let all : length (flat_map (λ part. records_octets first part) (take c.loop-part.part parts)) ≡ length (records_octets first (in_order parts)) = ap (λ (p : Parts). length (flat_map (λ part. records_octets first part) p)) passed ∙ sym (ap length (octets_by_part first parts)) in
    fits_within (c.loop-part.invariant.told ∙ ap (λ (n : ℕ). c.args.before + n) all) c.loop-part.invariant.fits
