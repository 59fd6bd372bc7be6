use Rattle.std.proofs.Common.{◌∙◌, refl, sym, arith}
use Rattle.indexmap.specs.IndexMap.{with_value_at}
use Rattle.cell_store.specs.Owner.{CanSettle, IsUpTo}
use Rattle.cell_store.specs.StoredLaws.{count_set_at}
use Rattle.cell_store.specs.TopLaws.{top_at}
use Rattle.cell_store.proofs.NamedLaws.{now_used}
use Rattle.cell_store.proofs.StoreLaws.{each_at, pairs_at, same_at, stays_at}
use Rattle.cell_store.proofs.empty.drop_empty_at.Goals as goal

pub drop_empty-requires : goal.drop_empty-requires
drop_empty-requires c = record { top = top_at c.args.owners.now c.args.place c.pair_mut-cells.result.0.now c.pair_mut-cells.result.1.now c.pair_mut-cells.ensures.unique c.pair_mut-cells.ensures.value c.requires.top }

pub returns-clause-cells : goal.returns-clause-cells
returns-clause-cells c =
    let old = c.args.owners.now in
    let new = c.drop_empty.new.self in
    same_at old (with_value_at old c.args.place new) c.args.place c.pair_mut-cells.result.0.now c.pair_mut-cells.result.1.now new c.pair_mut-cells.ensures.value refl c.drop_empty.ensures.same.cells

pub returns-clause-gains : goal.returns-clause-gains
returns-clause-gains c =
    let old = c.args.owners.now in
    let new = c.drop_empty.new.self in
    let each = each_at old (with_value_at old c.args.place new) c.args.place c.pair_mut-cells.result.0.now c.pair_mut-cells.result.1.now new c.pair_mut-cells.ensures.value refl in
    record {
      upto = λ top is name. each (IsUpTo top) (c.drop_empty.ensures.upto top) name (is name);
      settles = λ number kind name is. each (CanSettle number kind) (c.drop_empty.ensures.same.settles number kind) name is;
      pairs = pairs_at old (with_value_at old c.args.place new) c.args.place c.pair_mut-cells.result.0.now c.pair_mut-cells.result.1.now new c.pair_mut-cells.ensures.value refl
          (λ scope has. sym (c.drop_empty.ensures.same.places.places scope) ∙ has);
    }

pub returns-clause-counted : goal.returns-clause-counted
returns-clause-counted c =
    let set = count_set_at c.args.owners.now.entries c.args.place c.pair_mut-cells.result.0.now c.pair_mut-cells.result.1.now c.drop_empty.new.self c.pair_mut-cells.ensures.value in
    omega (arith, set, c.drop_empty.ensures.same.places.count)

pub returns-clause-entries : goal.returns-clause-entries
returns-clause-entries c = stays_at c.args.owners.now.entries c.args.place c.drop_empty.new.self

pub returns-clause-used : goal.returns-clause-used
returns-clause-used c = λ some.
    now_used c.args.owners.now.entries c.args.place c.pair_mut-cells.result.0.now c.pair_mut-cells.result.1.now c.drop_empty.new.self c.pair_mut-cells.ensures.value c.drop_empty.ensures.same.places c.drop_empty.ensures.tidy some
