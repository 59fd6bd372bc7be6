-- A task that has begun by the look at its question.
use Rattle.std.proofs.Common.{◌≡◌, ℕ, List, [], ◌∷◌, refl}
use Rattle.dns_text.specs.declared.record.Question.{Question}
use Rattle.history.specs.declared.event.Ask.TheVariants.{Answer as Asked}
use Rattle.history.specs.declared.event.Event.TheVariants.{Look}
use Rattle.iterate.specs.declared.phase.Phase.TheVariants.{First}
use Rattle.iterate.specs.declared.want.Input.TheVariants.{Begin}
use Rattle.iterate.specs.declared.want.Step.{Step}
use Rattle.iterate.specs.declared.want.Want.TheVariants.{Book}
use Rattle.iterate.specs.Task.{IsUnderWay}

-- The look at its question is open.
pub looking : (port : ℕ) (question : Question) (moment : ℕ) (steps : List Step) → steps ≡ record { input = Begin; want = Book (Look moment (Asked question)) } ∷ []
    → IsUnderWay port question steps First
looking port question moment steps is = record {
  log = [];
  want = Book (Look moment (Asked question));
  stands = record { first = record { input = Begin; want = Book (Look moment (Asked question)) }; rest = []; are = is; exchanges = refl; last = refl };
  fits = (refl, record { moment = moment; wanted = refl });
}
