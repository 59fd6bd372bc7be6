use Rattle.std.proofs.Common.{sym, ap, ◌∙◌}
use Rattle.std.specs.List.{list_any}
use Rattle.cell_store.specs.Count.{has_find, is_counted}
use Rattle.cell_store.proofs.CountLaws.{counted_seen}
use Rattle.cell_store.proofs.column.Column.is_counted.Goals as goal

pub returns : goal.returns
returns c =
    c.has_find.ensures ∙ (ap (list_any has_find) c.deref.ensures.0 ∙ (sym (counted_seen c.self.inside.finds c.self.inside.versions.items c.self.invariant.within) ∙ ap is_counted c.self.view_is))
