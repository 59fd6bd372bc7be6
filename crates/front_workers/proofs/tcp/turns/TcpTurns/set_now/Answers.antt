use Rattle.front_workers.proofs.Reading.{onward_by}
use Rattle.front_workers.proofs.tcp.turns.TcpTurns.set_now.Goals as goal

pub returns-clause-onward : goal.returns-clause-onward
returns-clause-onward g c = rw (← c.self.view_is) (onward_by c.self.inside.clock c.millis-now.new.self c.millis-now.ensures.read)
