use Rattle.std.proofs.Common.{refl, rules}
use Rattle.front_workers.proofs.Outboxes.{as_one}
use Rattle.front_workers.proofs.worker_sockets.WorkerSocketsSocketsSocketLine.buffer.Goals as goal

pub returns : goal.returns
returns g c = record { counts = search rules; keeps = record { port = search rules; silent = as_one _ _ _ _ c.reply_buffer.ensures refl } }
