use Rattle.std.proofs.Common.{◌∙◌}
use Rattle.shelf.proofs.LifeLaws.{life_of_alike}
use Rattle.shelf.proofs.oldest.last_life.Goals as goal

pub returns : goal.returns
returns c = c.name_life-2.ensures ∙ life_of_alike c.args.kept.now c.args.name.now c.args.cells.now (c.is_mixed.ensures.alike c.if-is_mixed.false)
