use Rattle.std.proofs.Common.{Ok, Err, refl}
use Rattle.flight.specs.Flight.{replied, refused}
use Rattle.flight.proofs.asking.ask.Goals as goal

pub returns-in-Ok-clause-answered : goal.returns-in-Ok-clause-answered
returns-in-Ok-clause-answered g c = replied c.requires.known c.in-Ok.ensures c.seen.ensures

pub returns-in-Err-clause-answered : goal.returns-in-Err-clause-answered
returns-in-Err-clause-answered g c = refused c.requires.known c.in-Err.ensures c.seen.ensures

pub returns-in-Ok-clause-called : goal.returns-in-Ok-clause-called
returns-in-Ok-clause-called g c = (Ok c.in-Ok.reply, c.in-Ok.ensures, refl)

pub returns-in-Err-clause-called : goal.returns-in-Err-clause-called
returns-in-Err-clause-called g c = (Err c.in-Err.fault, c.in-Err.ensures, refl)
