use Rattle.std.proofs.Common.{◌∙◌, ap}
use Rattle.front_workers.specs.Streaming.{StreamWorker}
use Rattle.front_workers.proofs.Flowing.{streams_kept, streams_then}
use Rattle.front_workers.proofs.tcp.turns.TcpTurns.serve.Goals as goal

pub loop-init : goal.loop-init
loop-init g c = record {
  goes_on = streams_kept _ _ _ c.write_on.ensures.tends c.write_on.ensures.kept;
  reported = ap (λ (worker : StreamWorker _). worker.reported) c.write_on.ensures.kept;
}

pub loop-preserved : goal.loop-preserved
loop-preserved g c = record {
  goes_on = streams_then _ _ _ _ _ _ c.loop.invariant.goes_on c.take_message.ensures.goes_on;
  reported = c.take_message.ensures.reported ∙ c.loop.invariant.reported;
}

pub returns-then-not-take_message : goal.returns-then-not-take_message
returns-then-not-take_message g c = record {
  goes_on = streams_then _ _ _ _ _ _ c.loop.invariant.goes_on c.take_message.ensures.goes_on;
  reported = c.take_message.ensures.reported ∙ c.loop.invariant.reported;
}

pub returns : goal.returns
returns g c = rw c.queue.ensures (record { goes_on = c.loop.invariant.goes_on; reported = c.loop.invariant.reported })
