use Rattle.std.proofs.Common.{◌∙◌, ap, arith, refl}
use Rattle.front.specs.Connections.{stays}
use Rattle.front_workers.specs.Streaming.{StreamWorker}
use Rattle.front.proofs.Serving.{tends_none}
use Rattle.front_workers.proofs.Flowing.{streams_tend, streams_then}
use Rattle.front_workers.proofs.tcp.turns.TcpTurns.serve_queued.Goals as goal

pub loop-init : goal.loop-init
loop-init g c = record { goes_on = streams_tend _ _ _ stays refl refl refl refl (omega arith); reported = refl }

pub loop-preserved : goal.loop-preserved
loop-preserved g c =
    let next = c.next_queued.ensures in
    let set = c.set_now.ensures in
    record {
      goes_on = streams_then _ _ _ _ _ _ c.loop.invariant.goes_on
          (streams_then _ _ _ _ _ _ (streams_tend _ _ _ (tends_none (set.kept ∙ ap (λ (worker : StreamWorker _). worker.connections) next)) (set.taken ∙ ap (λ (worker : StreamWorker _). worker.taken) next)
          (set.counts ∙ ap (λ (worker : StreamWorker _). worker.counts) next) (set.failures ∙ ap (λ (worker : StreamWorker _). worker.failures) next)
          (set.asks ∙ ap (λ (worker : StreamWorker _). worker.asking) next)
          (omega (arith, set.onward, ap (λ (worker : StreamWorker _). worker.clock.last) next)))
          c.serve.ensures.goes_on);
      reported = c.serve.ensures.reported ∙ set.reported ∙ ap (λ (worker : StreamWorker _). worker.reported) next ∙ c.loop.invariant.reported;
    }
