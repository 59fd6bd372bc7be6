use Rattle.std.proofs.Common.{rules}
use Rattle.front_workers.proofs.worker_sockets.WorkerSocketsSocketsSocketLine.give.Goals as goal

pub returns : goal.returns
returns g c = record { port = search rules; settled = search rules; left = record { left = c.send_to.ensures.posts; asking = search rules } }
