use Rattle.std.proofs.Common.{◌≡◌, take}
use Rattle.std.specs.List.{sum_by}
use Rattle.replies.specs.Sizing.{capped}
use Rattle.flight.specs.Kept.{step_kept}
use Rattle.flight.proofs.kept.kept_in.Given as goal

abbrev pub invariant-loop-step : goal.invariant-loop-step
invariant-loop-step l = l.total ≡ capped (sum_by step_kept (take l.step-index l.steps))
