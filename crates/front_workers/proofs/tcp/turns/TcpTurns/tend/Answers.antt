use Rattle.std.proofs.Common.{◌∙◌, ap, arith}
use Rattle.front_workers.specs.Streaming.{StreamWorker}
use Rattle.front.proofs.Serving.{tends_none, tends_then}
use Rattle.front_workers.proofs.tcp.turns.TcpTurns.tend.Goals as goal

pub returns-clause-tends : goal.returns-clause-tends
returns-clause-tends g c =
    tends_then (tends_none (c.set_now-now.ensures.kept ∙ ap (λ (worker : StreamWorker _). worker.connections) c.note.ensures)) (tends_then c.end_overdue.ensures.tends c.accept_each.ensures.tends)

pub returns-clause-taken : goal.returns-clause-taken
returns-clause-taken g c =
    ap (λ (worker : StreamWorker _). worker.taken) c.accept_each.ensures.kept ∙ ap (λ (worker : StreamWorker _). worker.taken) c.end_overdue.ensures.kept ∙ c.set_now-now.ensures.taken
    ∙ ap (λ (worker : StreamWorker _). worker.taken) c.note.ensures

pub returns-clause-counts : goal.returns-clause-counts
returns-clause-counts g c =
    ap (λ (worker : StreamWorker _). worker.counts) c.accept_each.ensures.kept ∙ ap (λ (worker : StreamWorker _). worker.counts) c.end_overdue.ensures.kept ∙ c.set_now-now.ensures.counts
    ∙ ap (λ (worker : StreamWorker _). worker.counts) c.note.ensures

pub returns-clause-failures : goal.returns-clause-failures
returns-clause-failures g c =
    ap (λ (worker : StreamWorker _). worker.failures) c.accept_each.ensures.kept ∙ ap (λ (worker : StreamWorker _). worker.failures) c.end_overdue.ensures.kept ∙ c.set_now-now.ensures.failures
    ∙ ap (λ (worker : StreamWorker _). worker.failures) c.note.ensures

pub returns-clause-asks : goal.returns-clause-asks
returns-clause-asks g c =
    ap (λ (worker : StreamWorker _). worker.asking) c.accept_each.ensures.kept ∙ ap (λ (worker : StreamWorker _). worker.asking) c.end_overdue.ensures.kept ∙ c.set_now-now.ensures.asks
    ∙ ap (λ (worker : StreamWorker _). worker.asking) c.note.ensures

pub returns-clause-onward : goal.returns-clause-onward
returns-clause-onward g c =
    omega (
      arith,
      c.set_now-now.ensures.onward,
      ap (λ (worker : StreamWorker _). worker.clock.last) c.note.ensures,
      ap (λ (worker : StreamWorker _). worker.clock.last) c.end_overdue.ensures.kept,
      ap (λ (worker : StreamWorker _). worker.clock.last) c.accept_each.ensures.kept,
    )

pub returns-clause-reported : goal.returns-clause-reported
returns-clause-reported g c =
    ap (λ (worker : StreamWorker _). worker.reported) c.accept_each.ensures.kept ∙ ap (λ (worker : StreamWorker _). worker.reported) c.end_overdue.ensures.kept ∙ c.set_now-now.ensures.reported
    ∙ ap (λ (worker : StreamWorker _). worker.reported) c.note.ensures
