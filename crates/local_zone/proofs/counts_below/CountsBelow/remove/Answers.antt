use Rattle.std.proofs.Common.{◌-◌, cond, ap, ◌∙◌}
use Rattle.local_zone.specs.CountsBelow.{counted}
use Rattle.local_zone.proofs.CountsBelowLaws.{from_root}
use Rattle.local_zone.proofs.counts_below.CountsBelow.remove.Goals as goal

pub returns : goal.returns
returns c name = c.remove_from.ensures name ∙ ap (λ b. counted name c.args.self.now - cond b 1 0) (from_root c.args.owner.now name)
