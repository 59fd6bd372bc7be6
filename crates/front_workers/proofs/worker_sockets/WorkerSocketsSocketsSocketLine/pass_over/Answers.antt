use Rattle.std.proofs.Common.{refl, rules}
use Rattle.front_workers.proofs.Outboxes.{as_one}
use Rattle.front_workers.proofs.worker_sockets.WorkerSocketsSocketsSocketLine.pass_over.Goals as goal

pub returns : goal.returns
returns g c = record { port = search rules; settled = search rules; left = as_one _ _ _ _ c.drop_client.ensures refl }
