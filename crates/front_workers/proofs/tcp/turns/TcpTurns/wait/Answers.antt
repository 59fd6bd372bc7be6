use Rattle.std.proofs.Common.{arith}
use Rattle.front_workers.proofs.Reading.{onward_by}
use Rattle.front_workers.proofs.tcp.turns.TcpTurns.wait.Goals as goal

pub returns-clause-onward : goal.returns-clause-onward
returns-clause-onward g c =
    let first = onward_by c.self.inside.clock c.millis-now.new.self c.millis-now.ensures.read in
    let second = onward_by c.millis-now.new.self c.patience-wait.new.clock c.patience-wait.ensures.read in
    rw (← c.self.view_is) (omega (arith, first, second))
