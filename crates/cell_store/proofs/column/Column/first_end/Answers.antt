use Rattle.std.proofs.Common.{sym, ap, ◌∙◌}
use Rattle.cell_store.specs.Column.{Cells}
use Rattle.cell_store.specs.Ends.{first_end}
use Rattle.cell_store.proofs.EndLaws.{ends_seen}
use Rattle.cell_store.proofs.column.Column.first_end.Goals as goal

pub returns : goal.returns
returns c =
    c.first_end.ensures ∙ (ap first_end c.deref.ensures.0 ∙ (sym (ends_seen c.self.inside.finds c.self.inside.versions.items c.self.invariant.within) ∙ ap (λ (cells : Cells). first_end cells.versions) c.self.view_is))
