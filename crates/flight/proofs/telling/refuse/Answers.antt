use Rattle.flight.proofs.Answering.{is_good}
use Rattle.flight.proofs.telling.refuse.Goals as goal

pub fail-requires-clause-own : goal.fail-requires-clause-own
fail-requires-clause-own g c = rw c.no_memory.ensures.client c.requires.asked.own

pub fail-requires-clause-good : goal.fail-requires-clause-good
fail-requires-clause-good g c = is_good c.requires.asked.good

pub returns : goal.returns
returns g c = rw c.no_memory.ensures.client at c.fail.ensures
