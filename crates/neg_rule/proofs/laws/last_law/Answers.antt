use Rattle.neg_rule.proofs.AliasLaws.{last_is}
use Rattle.neg_rule.proofs.laws.last_law.Goals as goal

pub returns : goal.returns
returns c = last_is
