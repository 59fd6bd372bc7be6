use Rattle.flight.specs.Flight.{replied}
use Rattle.flight.proofs.Flying.{unanswered}
use Rattle.flight.proofs.asking.ask_soon.Goals as goal

pub returns-in-Ok-clause-answered : goal.returns-in-Ok-clause-answered
returns-in-Ok-clause-answered g c = replied c.requires.known c.in-Ok.ensures c.seen.ensures

pub returns-in-Err-clause-answered : goal.returns-in-Err-clause-answered
returns-in-Err-clause-answered g c = unanswered _ _ g.D.Numbered.puts_off c.in-Err.fault c.requires.known c.in-Err.ensures c.seen.ensures
