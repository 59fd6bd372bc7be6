use Rattle.std.proofs.Common.{◌+◌, cond, ap, ◌∙◌}
use Rattle.local_zone.specs.CountsBelow.{counted}
use Rattle.local_zone.proofs.CountsBelowLaws.{from_root, on_ok}
use Rattle.local_zone.proofs.counts_below.CountsBelow.add.Goals as goal

pub returns-clause-ok : goal.returns-clause-ok
returns-clause-ok c =
    on_ok c.add_from.result (λ more name. more name ∙ ap (λ b. counted name c.args.self.now + cond b 1 0) (from_root c.args.owner.now name)) c.add_from.ensures.ok
