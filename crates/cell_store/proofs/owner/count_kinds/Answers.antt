use Rattle.std.proofs.Common.{◌≡◌, get_or, ap, ◌∙◌, arith}
use Rattle.cell_store.specs.Count.{is_counted, one_if}
use Rattle.cell_store.proofs.CountLaws.{count_more, one_low, count_full}
use Rattle.cell_store.proofs.owner.count_kinds.Goals as goal

pub loop-place-preserved : goal.loop-place-preserved
loop-place-preserved c =
    let kinds = c.args.kinds.now in
    let place = c.loop-place.place in
    let d = c.index-kinds-place.result in
    let more = count_more kinds place d (omega arith) in
    let here : c.one_if-count.result ≡ one_if (is_counted (get_or kinds place d).column) = c.one_if-count.ensures ∙ ap one_if c.is_counted.ensures in
    (omega (arith, more, here, c.loop-place.invariant.0), omega (arith, here, one_low (is_counted (get_or kinds place d).column), c.loop-place.invariant.1), omega arith)

pub returns-clause-count : goal.returns-clause-count
returns-clause-count c = c.loop-place.invariant.0 ∙ count_full c.args.kinds.now c.loop-place.place (omega arith)
