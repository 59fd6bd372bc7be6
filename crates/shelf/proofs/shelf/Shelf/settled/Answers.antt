use Rattle.std.proofs.Common.{List, ap, ◌∙◌}
use Rattle.shelf.specs.declared.settling.Settling.{Settling}
use Rattle.shelf.specs.Settling.{settled_version}
use Rattle.shelf.proofs.shelf.Shelf.settled.Goals as goal

pub returns : goal.returns
returns c = c.settled_version.ensures ∙ ap (λ (l : List Settling). settled_version l c.args.owner.now c.args.version) c.deref.ensures.value
