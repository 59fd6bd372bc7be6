use Rattle.iterate.specs.Task.{IsDueAt}
use Rattle.play.proofs.resolve.asking.ask.Given as goal

abbrev pub invariant-loop : goal.invariant-loop
invariant-loop g l = IsDueAt l.task.phase l.task.steps.items l.input
