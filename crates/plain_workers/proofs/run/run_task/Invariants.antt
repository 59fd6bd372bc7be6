use Rattle.std.proofs.Common.{◌≡◌}
use Rattle.iterate.specs.Measure.{left_in}
use Rattle.plain_workers.specs.Leads.{StepsLead}
use Rattle.plain_workers.proofs.run.run_task.Given as goal

-- The steps so far lead here.
abbrev pub invariant-loop-task : goal.invariant-loop-task
invariant-loop-task g l = record {
  leads : StepsLead g.D.Desk.calls g.X.Exchange.asks g.C.Clock.ticks l.fn.tools.server_port l.fn.question l.fn.desk l.fn.tools.exchange (l.fn.tools.clock, g.R.Rng.stream l.fn.tools.ids) l.task.steps.items l.input l.desk l.tools.exchange (l.tools.clock, g.R.Rng.stream l.tools.ids);
  question : l.task.question ≡ l.fn.question;
  port : l.task.port ≡ l.fn.tools.server_port;
  kept : l.tools.server_port ≡ l.fn.tools.server_port;
}

abbrev pub decreases-loop-task : goal.decreases-loop-task
decreases-loop-task g l = left_in l.task.phase
