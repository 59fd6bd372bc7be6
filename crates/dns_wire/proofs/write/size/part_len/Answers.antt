use Rattle.std.proofs.Common.{◌≡◌, ◌<◌, length, get_or, sym, ap, ◌∙◌, arith}
use Rattle.std.specs.Option.{option_copied}
use Rattle.dns_wire.specs.Lent.{part_at}
use Rattle.dns_wire.specs.Write.Record.{record_octets}
use Rattle.std.proofs.lemmas.List.Folds.{length-flat_map-take}
use Rattle.dns_wire.proofs.WrittenSize.{too_many, more_than_fit, as_many}
use Rattle.dns_wire.proofs.write.size.part_len.Goals as goal

pub returns-in_err-len : goal.returns-in_err-len
returns-in_err-len g c =
    let records = part_at (g.S.Section.parts c.args.section.now) c.args.part in
    let first = option_copied c.args.first in
    let less : c.loop-place.place < length records = omega (arith, c.loop-place-test.true, c.record_count-place-end.ensures) in
    let over = more_than_fit (sym c.record_len.ensures ∙ c.in_err-len.was) in
    let here = length-flat_map-take (λ r. record_octets first r) records c.loop-place.place c.record_in.result less in
    let is : length (record_octets first c.record_in.result) ≡ length (record_octets first (get_or records c.loop-place.place c.record_in.result)) = ap (λ r. length (record_octets first r)) c.record_in.ensures in
    c.from_residual.ensures ∙ too_many (omega arith)

pub returns-in_err-total : goal.returns-in_err-total
returns-in_err-total g c =
    let records = part_at (g.S.Section.parts c.args.section.now) c.args.part in
    let first = option_copied c.args.first in
    let less : c.loop-place.place < length records = omega (arith, c.loop-place-test.true, c.record_count-place-end.ensures) in
    let over = more_than_fit (sym c.sum_of.ensures ∙ c.in_err-total.was) in
    let len = as_many (sym c.record_len.ensures ∙ c.in_ok-len.was) in
    let here = length-flat_map-take (λ r. record_octets first r) records c.loop-place.place c.record_in.result less in
    let is : length (record_octets first c.record_in.result) ≡ length (record_octets first (get_or records c.loop-place.place c.record_in.result)) = ap (λ r. length (record_octets first r)) c.record_in.ensures in
    c.from_residual-in_err-total.ensures ∙ too_many (omega arith)
