use Rattle.harvest.proofs.ZoneLaws.{finds_below, passing_below}
use Rattle.harvest.proofs.laws.zone_law.Goals as goal

pub returns-clause-finds : goal.returns-clause-finds
returns-clause-finds c = λ message question zone said h. finds_below message question zone said (c.denial_law.ensures message question zone) h

pub returns-clause-passing : goal.returns-clause-passing
returns-clause-passing c = passing_below
