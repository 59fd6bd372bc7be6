use Rattle.std.proofs.Common.{◌<◌, length, [], arith}
use Rattle.std.proofs.lemmas.List.Folds.{length-flat_map-take}
use Rattle.dns_wire.proofs.write.header.count_of.Goals as goal

pub overflow_cast-count : goal.overflow_cast-count
overflow_cast-count g c =
    let parts = g.S.Section.parts c.args.section.now in
    let less : c.loop-part.part < length parts = omega (arith, c.loop-part-test.true, c.part_count-part-end.ensures) in
    let here = length-flat_map-take (λ part. part) parts c.loop-part.part [] less in
    omega (arith, c.requires, c.record_count.ensures)

pub overflow_add-count : goal.overflow_add-count
overflow_add-count g c =
    let parts = g.S.Section.parts c.args.section.now in
    let less : c.loop-part.part < length parts = omega (arith, c.loop-part-test.true, c.part_count-part-end.ensures) in
    let here = length-flat_map-take (λ part. part) parts c.loop-part.part [] less in
    omega (arith, c.requires, c.record_count.ensures, c.loop-part.invariant.told)
