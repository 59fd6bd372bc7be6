use Rattle.neg_rule.proofs.NegativeLaws.{said_within}
use Rattle.neg_rule.proofs.laws.denial_law.Goals as goal

pub returns : goal.returns
returns c = said_within
