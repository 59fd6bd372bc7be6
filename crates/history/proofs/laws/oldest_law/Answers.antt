use Rattle.history.specs.OldestLaws.{oldest_is, oldest_only}
use Rattle.history.proofs.laws.oldest_law.Goals as goal

pub returns-clause-oldest : goal.returns-clause-oldest
returns-clause-oldest c = oldest_is

pub returns-clause-only : goal.returns-clause-only
returns-clause-only c = oldest_only
