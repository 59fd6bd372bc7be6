use Rattle.std.proofs.Common.{◌≡◌, ◌+◌, max, min, refl, arith}
use Rattle.cell_store.specs.Ends.{latest, name_end}
use Rattle.cell_store.specs.StoredLaws.{count_set_at, count_found_at}
use Rattle.cell_store.specs.TopLaws.{top_at}
use Rattle.indexmap.specs.IndexMap.{set_value_at}
use Rattle.shelf.proofs.VisitLaws.{swept_at}
use Rattle.shelf.proofs.sweep.sweep_at.Goals as goal

pub overflow_sub-others : goal.overflow_sub-others
overflow_sub-others c = omega (arith, count_found_at c.args.owners.now.entries c.args.place c.pair_mut-cells.result.0.now c.pair_mut-cells.result.1.now c.pair_mut-cells.ensures.value, c.requires.counted, c.counted.ensures)

pub returns-clause-swept : goal.returns-clause-swept
returns-clause-swept c =
    let new = c.sweep_name.new.cells in
    let at : c.max-end.result ≡ max (name_end new) c.saturating_add.result = omega (arith, c.max-end.ensures, c.first_end.ensures) in
    let then : c.saturating_add.result ≡ min (c.args.moment + 1) latest = omega (arith, c.saturating_add.ensures) in
    swept_at c.args.kept.now c.args.moment c.args.place c.args.owners.now.entries (set_value_at c.args.owners.now.entries c.args.place new) c.pair_mut-cells.result.0.now c.pair_mut-cells.result.1.now new c.max-end.result c.saturating_add.result c.is_mixed.result c.is_mixed.ensures.alike c.is_mixed.ensures.value
    c.pair_mut-cells.ensures.value c.sweep_name.ensures.swept refl at then

pub returns-clause-counted : goal.returns-clause-counted
returns-clause-counted c =
    let set = count_set_at c.args.owners.now.entries c.args.place c.pair_mut-cells.result.0.now c.pair_mut-cells.result.1.now c.sweep_name.new.cells c.pair_mut-cells.ensures.value in
    let found = count_found_at c.args.owners.now.entries c.args.place c.pair_mut-cells.result.0.now c.pair_mut-cells.result.1.now c.pair_mut-cells.ensures.value in
    omega (arith, set, found, c.requires.counted, c.counted-2.ensures, c.counted.ensures)

pub returns-clause-fewer : goal.returns-clause-fewer
returns-clause-fewer c =
    let found = count_found_at c.args.owners.now.entries c.args.place c.pair_mut-cells.result.0.now c.pair_mut-cells.result.1.now c.pair_mut-cells.ensures.value in
    omega (arith, found, c.requires.counted, c.sweep_name.ensures.swept.lost.gains.count, c.counted-2.ensures, c.counted.ensures)

pub sweep_name-requires-clause-top : goal.sweep_name-requires-clause-top
sweep_name-requires-clause-top c = top_at c.args.owners.now c.args.place c.pair_mut-cells.result.0.now c.pair_mut-cells.result.1.now c.pair_mut-cells.ensures.unique c.pair_mut-cells.ensures.value c.requires.top
