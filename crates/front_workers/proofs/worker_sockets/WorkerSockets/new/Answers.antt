use Rattle.std.proofs.Common.{ℕ, subst}
use Rattle.outside.specs.Hashing.{IsSeeded}
use Rattle.front_workers.proofs.worker_sockets.WorkerSockets.new.Goals as goal

pub returns-clause-seed : goal.returns-clause-seed
returns-clause-seed g c = (
  subst (λ (seed : ℕ). IsSeeded seed c.in_ok-new.field-0.servers) c.number.ensures c.in_ok-new.ensures.seed.0,
  subst (λ (seed : ℕ). IsSeeded seed c.in_ok-new.field-0.questions) c.number.ensures c.in_ok-new.ensures.seed.1,
  subst (λ (seed : ℕ). IsSeeded seed c.in_ok-new-2.field-0.zones) c.number-2.ensures c.in_ok-new-2.ensures.seed,
)
