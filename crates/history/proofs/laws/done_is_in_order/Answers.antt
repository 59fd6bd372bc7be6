use Rattle.history.proofs.OrderLaw.{done_ascends}
use Rattle.history.proofs.laws.done_is_in_order.Goals as goal

pub returns : goal.returns
returns c = done_ascends
