use Rattle.flight.proofs.Answering.{header_fits}
use Rattle.front_workers.proofs.worker_sockets.WorkerSockets.refuse_dear.Goals as goal

pub send_to-requires : goal.send_to-requires
send_to-requires g c = record { short = rw c.report_of.ensures.short (header_fits (g.K.Client.over c.args.client)) }

pub returns-clause-posts : goal.returns-clause-posts
returns-clause-posts g c = rw c.report_of.ensures.octets at c.send_to.ensures.posts
