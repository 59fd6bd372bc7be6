use Rattle.std.proofs.Common.{false, None, Option, ap, ◌∙◌}
use Rattle.iterate.specs.declared.answer.Answer.TheVariants.{Reply}
use Rattle.iterate.specs.declared.answer.Soa.{Soa}
use Rattle.iterate.specs.declared.want.Want.TheVariants.{Finish}
use Rattle.iterate.proofs.PathTurns.{turned, denying}
use Rattle.iterate.proofs.finishing.denied.Goals as goal

pub returns-clause-want : goal.returns-clause-want
returns-clause-want c = c.finished.ensures.want ∙ ap (λ (a : Option Soa). Finish (Reply c.args.rcode false c.args.path.sets.items None a)) c.soa_told.ensures

pub returns-clause-goes : goal.returns-clause-goes
returns-clause-goes c = λ port moment id left question log less p denied.
    turned c.finished.ensures.phase (c.finished.ensures.want ∙ ap (λ (a : Option Soa). Finish (Reply c.args.rcode false c.args.path.sets.items None a)) c.soa_told.ensures)
    (denying c.args.path c.args.rcode _ less p denied)
