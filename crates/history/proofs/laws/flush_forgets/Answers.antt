use Rattle.history.specs.FlushLaws.{last_decides}
use Rattle.history.proofs.laws.flush_forgets.Goals as goal

pub returns-clause-last : goal.returns-clause-last
returns-clause-last c = last_decides
