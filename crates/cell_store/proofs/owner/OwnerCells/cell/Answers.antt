use Rattle.std.proofs.Common.{cond, ap, sym, ◌∙◌}
use Rattle.ranked.specs.declared.find.Find.{Find}
use Rattle.cell_store.specs.declared.version.Place.{Place}
use Rattle.cell_store.specs.Owner.{place_held, whole_cell}
use Rattle.cell_store.specs.Same.{cell_now}
use Rattle.cell_store.proofs.OwnerLaws.{cell_here}
use Rattle.cell_store.proofs.owner.OwnerCells.cell.Goals as goal

pub returns-then-content : goal.returns-then-content
returns-then-content c =
    let self = c.args.self.now in
    let content = c.place-content.result in
    let here = cell_here self.whole self.kinds.items c.deref.result.now c.args.kind c.in-Some.place c.index.result.now c.args.version c.in-Some.ensures.some c.deref.ensures.value c.index.ensures in
    c.whole_cell.ensures
    ∙ sym (here ∙ (ap (λ (p : Place Find). place_held (whole_cell self.whole) p) (sym c.place-content.ensures) ∙ ap (λ b. cond b (whole_cell self.whole) (cell_now content.cell.held)) c.if-content.true))

pub returns-else-content : goal.returns-else-content
returns-else-content c =
    let self = c.args.self.now in
    let content = c.place-content.result in
    let here = cell_here self.whole self.kinds.items c.deref.result.now c.args.kind c.in-Some.place c.index.result.now c.args.version c.in-Some.ensures.some c.deref.ensures.value c.index.ensures in
    sym (here ∙ (ap (λ (p : Place Find). place_held (whole_cell self.whole) p) (sym c.place-content.ensures) ∙ ap (λ b. cond b (whole_cell self.whole) (cell_now content.cell.held)) c.if-content.false))
