use Rattle.std.proofs.Common.{List, subst, sym, ◌∙◌}
use Rattle.cell_store.specs.declared.owner.KindColumn.{KindColumn}
use Rattle.cell_store.specs.Owner.{IsPlaceOf}
use Rattle.cell_store.proofs.CountLaws.{place_here}
use Rattle.cell_store.proofs.owner.OwnerCells.has_kind.Goals as goal

pub returns-in-Some : goal.returns-in-Some
returns-in-Some c =
    let self = c.args.self.now in
    let is = subst (λ (l : List KindColumn). IsPlaceOf l c.args.kind c.in-Some.place) c.deref.ensures.value c.in-Some.ensures.some in
    c.is_counted.ensures ∙ sym (place_here self.kinds.items c.args.kind c.in-Some.place c.index.result.now is c.index.ensures)
