use Rattle.std.proofs.Common.{◌≡◌, Some, None, ap, arith}
use Rattle.std.proofs.lemmas.Grind.{common_steps}
use Rattle.indexmap.specs.IndexMap.{get}
use Rattle.dns_name.specs.Order.{name_eq}
use Rattle.cell_store.specs.Owner.{IsUpTo, CanSettle}
use Rattle.cell_store.specs.Count.{count_entries}
use Rattle.cell_store.proofs.CountLaws.{count_removed}
use Rattle.cell_store.proofs.StoreLaws.{forgot_cells, forgot_each, forgot_pairs}
use Rattle.cell_store.proofs.store.forget_place.Goals as goal

pub overflow_sub-stored : goal.overflow_sub-stored
overflow_sub-stored c =
    let held : get name_eq c.args.owners.now c.args.owner.now ≡ Some c.in_ok-place.cells = grind (arith, common_steps) in
    let gone = count_removed (name_eq c.args.owner.now) c.args.owners.now.entries c.in_ok-place.cells held in
    omega (arith, gone, c.requires.counted, c.counted.ensures)

pub returns-clause-cells : goal.returns-clause-cells
returns-clause-cells c = forgot_cells c.args.owners.now c.swap_remove_full.new.self c.args.owner.now c.swap_remove_full.ensures.updates

pub returns-clause-gains : goal.returns-clause-gains
returns-clause-gains c =
    let old = c.args.owners.now in
    let new = c.swap_remove_full.new.self in
    let owner = c.args.owner.now in
    let updates = c.swap_remove_full.ensures.updates in
    record {
      upto = λ top is name. forgot_each old new owner updates (IsUpTo top) name (is name);
      settles = λ n k name settles. forgot_each old new owner updates (CanSettle n k) name settles;
      pairs = forgot_pairs old new owner updates;
    }

pub returns-clause-counted : goal.returns-clause-counted
returns-clause-counted c =
    let held : get name_eq c.args.owners.now c.args.owner.now ≡ Some c.in_ok-place.cells = grind (arith, common_steps) in
    let gone = count_removed (name_eq c.args.owner.now) c.args.owners.now.entries c.in_ok-place.cells held in
    omega (arith, gone, ap count_entries c.swap_remove_full.ensures.entries, c.requires.counted, c.counted.ensures)

pub returns-clause-fewer : goal.returns-clause-fewer
returns-clause-fewer c =
    let held : get name_eq c.args.owners.now c.args.owner.now ≡ Some c.in_ok-place.cells = grind (arith, common_steps) in
    let gone = count_removed (name_eq c.args.owner.now) c.args.owners.now.entries c.in_ok-place.cells held in
    rw held ((omega (arith, gone, c.requires.counted, c.counted.ensures), omega (arith, gone, c.requires.counted, c.counted.ensures)))

pub returns-in_err-place-clause-cells : goal.returns-in_err-place-clause-cells
returns-in_err-place-clause-cells c = forgot_cells c.args.owners.now c.swap_remove_full.new.self c.args.owner.now c.swap_remove_full.ensures.updates

pub returns-in_err-place-clause-gains : goal.returns-in_err-place-clause-gains
returns-in_err-place-clause-gains c =
    let old = c.args.owners.now in
    let new = c.swap_remove_full.new.self in
    let owner = c.args.owner.now in
    let updates = c.swap_remove_full.ensures.updates in
    record {
      upto = λ top is name. forgot_each old new owner updates (IsUpTo top) name (is name);
      settles = λ n k name settles. forgot_each old new owner updates (CanSettle n k) name settles;
      pairs = forgot_pairs old new owner updates;
    }

pub returns-in_err-place-clause-fewer : goal.returns-in_err-place-clause-fewer
returns-in_err-place-clause-fewer c =
    let none : get name_eq c.args.owners.now c.args.owner.now ≡ None = grind (arith, common_steps) in
    rw none ((omega arith, tt))
