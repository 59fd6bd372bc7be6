use Rattle.flight.proofs.Seats.{later}
use Rattle.flight.proofs.laws.later_law.Goals as goal

pub returns : goal.returns
returns g c = later _ _ _ _ _ _ _ _
