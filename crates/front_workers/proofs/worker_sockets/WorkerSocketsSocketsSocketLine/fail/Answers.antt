use Rattle.std.proofs.Common.{rules}
use Rattle.flight.proofs.Answering.{header_fits}
use Rattle.front_workers.proofs.worker_sockets.WorkerSocketsSocketsSocketLine.fail.Goals as goal

pub report_of-requires : goal.report_of-requires
report_of-requires g c = c.requires.good.query.header

pub send_to-requires : goal.send_to-requires
send_to-requires g c = record { short = rw c.report_of.ensures.short (header_fits (g.K.Client.over c.into_client-client.result)) }

pub returns : goal.returns
returns g c = record { port = search rules; settled = search rules; left = record { left = rw (c.into_client-client.ensures, c.report_of.ensures.octets) at c.send_to.ensures.posts; asking = search rules } }
