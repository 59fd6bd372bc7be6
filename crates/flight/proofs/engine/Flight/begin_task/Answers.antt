use Rattle.std.proofs.Common.{refl}
use Rattle.flight.proofs.Looking.{looked_flies}
use Rattle.flight.proofs.Settling.{settled_now}
use Rattle.flight.proofs.engine.Flight.begin_task.Goals as goal

pub drive-requires-clause-flies : goal.drive-requires-clause-flies
drive-requires-clause-flies g c = looked_flies c.requires.looked c.server_port-port.result (g.G.Rng.stream c.self.inside.ids) c.in-Ok.task.steps.items c.in-Ok.ensures.steps

pub returns-in-Err : goal.returns-in-Err
returns-in-Err g c = settled_now _ _ _ _ _ _ c.requires.own refl (rw c.no_memory.ensures.client at c.fail.ensures)
