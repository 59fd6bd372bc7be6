use Rattle.std.proofs.Common.{◌∙◌, sym}
use Rattle.dns_name.specs.Order.{name_eq}
use Rattle.cell_store.proofs.StoreLaws.{held_at, none_there}
use Rattle.cell_store.proofs.store.cells_at.Goals as goal

pub returns-in-None : goal.returns-in-None
returns-in-None c = λ name at. sym (none_there (name_eq name) c.args.owners.now.entries (sym c.in-None.is ∙ at))

pub returns-in-Some-get_index : goal.returns-in-Some-get_index
returns-in-Some-get_index c = λ name at.
    sym (held_at (name_eq name) c.args.owners.now.entries c.in-Some.place c.in-Some-get_index.field-0-0.now c.in-Some-get_index.cells.now (sym c.in-Some.is ∙ at) (sym c.in-Some-get_index.ensures.entry)).0
