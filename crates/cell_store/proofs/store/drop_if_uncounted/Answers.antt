use Rattle.std.proofs.Common.{◌≡◌, Option, None, true, cond, ap, sym, ◌∙◌, subst}
use Rattle.std.specs.Prelude.{IfSome, swap_remove}
use Rattle.indexmap.specs.IndexMap.{get, Updates}
use Rattle.dns_name.specs.Labels.{Labels}
use Rattle.dns_name.specs.Order.{name_eq, name_equiv}
use Rattle.cell_store.specs.declared.owner.OwnerCells.{OwnerCells}
use Rattle.cell_store.specs.Count.{count_entries}
use Rattle.cell_store.proofs.HeldLaws.{count_dropped, dropped_cells, left_removed}
use Rattle.cell_store.proofs.store.drop_if_uncounted.Goals as goal

pub returns-clause-cells : goal.returns-clause-cells
returns-clause-cells c =
    let gone = c.swap_remove_index.ensures.entry ∙ sym c.in-Some.ensures.entry in
    let updates = subst (λ (o : Option (Labels × OwnerCells)). IfSome o (λ p. Updates name_eq c.args.owners.now c.swap_remove_index.new.self p.0 None)) gone c.swap_remove_index.ensures.updates in
    dropped_cells c.args.owners.now c.swap_remove_index.new.self c.in-Some.field-0-0.now c.in-Some.cells.now updates c.in-Some.ensures.value
    (sym c.counted.ensures ∙ c.if-counted-eq0.true)

pub returns-clause-left : goal.returns-clause-left
returns-clause-left c =
    let gone = c.swap_remove_index.ensures.entry ∙ sym c.in-Some.ensures.entry in
    let updates = subst (λ (o : Option (Labels × OwnerCells)). IfSome o (λ p. Updates name_eq c.args.owners.now c.swap_remove_index.new.self p.0 None)) gone c.swap_remove_index.ensures.updates in
    left_removed c.args.owners.now c.swap_remove_index.new.self c.in-Some.field-0-0.now updates

pub returns-clause-counted : goal.returns-clause-counted
returns-clause-counted c =
    let gone = c.swap_remove_index.ensures.entry ∙ sym c.in-Some.ensures.entry in
    let entries = subst (λ (o : Option (Labels × OwnerCells)). IfSome o (λ p. c.swap_remove_index.new.self.entries ≡ swap_remove c.args.owners.now.entries c.args.place p)) gone c.swap_remove_index.ensures.entries in
    ap count_entries entries
    ∙ count_dropped c.args.owners.now.entries c.args.place c.in-Some.field-0-0.now c.in-Some.cells.now (sym c.in-Some.ensures.entry)
    (sym c.counted.ensures ∙ c.if-counted-eq0.true)

pub returns-clause-entries : goal.returns-clause-entries
returns-clause-entries c =
    let gone = c.swap_remove_index.ensures.entry ∙ sym c.in-Some.ensures.entry in
    let entries = subst (λ (o : Option (Labels × OwnerCells)). IfSome o (λ p. c.swap_remove_index.new.self.entries ≡ swap_remove c.args.owners.now.entries c.args.place p)) gone c.swap_remove_index.ensures.entries in
    ((c.in-Some.field-0-0.now, c.in-Some.cells.now), entries)

pub returns-clause-gone : goal.returns-clause-gone
returns-clause-gone c =
    let gone = c.swap_remove_index.ensures.entry ∙ sym c.in-Some.ensures.entry in
    let updates = subst (λ (o : Option (Labels × OwnerCells)). IfSome o (λ p. Updates name_eq c.args.owners.now c.swap_remove_index.new.self p.0 None)) gone c.swap_remove_index.ensures.updates in
    let none : get name_eq c.swap_remove_index.new.self c.in-Some.field-0-0.now ≡ None =
    updates.0 c.in-Some.field-0-0.now ∙ ap (λ b. cond b None (get name_eq c.args.owners.now c.in-Some.field-0-0.now)) (name_equiv.refl c.in-Some.field-0-0.now) in
    subst (λ (o : Option (Labels × OwnerCells)). IfSome o (λ e. true ≡ true → get name_eq c.swap_remove_index.new.self e.0 ≡ None)) c.in-Some.ensures.entry (λ removed. none)
