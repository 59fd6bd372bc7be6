use Rattle.std.proofs.Common.{[], ◌∷◌, List, ◌∙◌, ap}
use Rattle.history.specs.declared.event.Event.{Event}
use Rattle.iterate.specs.declared.want.Input.TheVariants.{Begin}
use Rattle.iterate.specs.declared.want.Step.{Step}
use Rattle.iterate.specs.declared.want.Want.TheVariants.{Book}
use Rattle.iterate.proofs.Settling.{looking}
use Rattle.iterate.proofs.task.Task.begun.Goals as goal

pub invariant_of-result : goal.invariant_of-result
invariant_of-result c =
    let first : Event → List Step = λ look. record { input = Begin; want = Book look } ∷ [] in
    looking c.args.port c.args.question c.args.moment c.push_reserved.new.self.items (rw c.in_ok-steps.ensures.items at c.push_reserved.ensures.items ∙ ap first c.in_ok-look.ensures)
