use Rattle.std.proofs.Common.{Option, length, sym, ap, ◌∙◌}
use Rattle.ranked.specs.declared.find.Find.{Find}
use Rattle.ranked.specs.declared.cell.Admitted.{Admitted}
use Rattle.cell_store.proofs.ColumnLaws.{seen_here, within_here}
use Rattle.cell_store.proofs.column.Column.place.Goals as goal

pub lend-requires : goal.lend-requires
lend-requires c =
    within_here c.self.inside.versions.items (length c.self.inside.finds) c.args.version c.deref.result.now c.place_at-place.result c.self.invariant.within c.deref.ensures.0 c.place_at-place.ensures

pub returns : goal.returns
returns c =
    let place = c.place_at-place.result in
    let here = seen_here c.args.self.now c.self.inside.versions c.self.inside.finds c.self.inside.upto c.args.version c.deref.result.now place c.self.view_is c.if-self-version.false c.deref.ensures.0 c.place_at-place.ensures in
    ap (λ (h : Option (Admitted Find)). record { left = place.left; cell = record { held = h } }) c.lend.ensures ∙ sym here
