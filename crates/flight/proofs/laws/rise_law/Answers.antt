use Rattle.flight.proofs.Seats.{rises}
use Rattle.flight.proofs.laws.rise_law.Goals as goal

pub returns : goal.returns
returns g c = rises _ _ _ _ _ _ _ _
