use Rattle.std.proofs.Common.{◌≡◌, ℕ, List, [], ◌∷◌, map, refl}
use Rattle.std.specs.Prelude.{max, fold}
use Rattle.history.specs.declared.event.Event.{Event}
use Rattle.history.specs.Event.{moment_of}
use Rattle.history.specs.History.{Past, nothing, followed_by}
use Rattle.history.proofs.laws.clock_is_greatest.Goals as goal

clock_after : (bound : ℕ) (past : Past) (events : List Event) → (fold (followed_by bound) past events).now ≡ fold max past.now (map moment_of events)
clock_after bound past [] = refl
clock_after bound past (e ∷ events) = clock_after bound (followed_by bound past e) events

pub returns : goal.returns
returns c = λ bound history. clock_after bound nothing history
