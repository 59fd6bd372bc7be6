-- The replies to some lines, by whether the next line is obeyed.
use Rattle.std.specs.Prelude.{◌≡◌, ℕ, ◌+◌, Option, List}
use Rattle.std.specs.Io.KnownBytes.{Appends}
use Rattle.streams.specs.declared.fault.Flow.{Flow}
use Rattle.streams.specs.declared.fault.Flow.TheVariants.{On, Stopped, Failed}
use Rattle.streams.specs.Transcript.{Obeying, Transcript, Partly, IsFront, IsLast}

-- The text of the replies: of all these lines, of those up to the one that stops, or up to the one whose write failed.
abbrev pub ToldOf : {O : Type 0} → Flow → Obeying O → O → List (List ℕ) → List ℕ → O → Type 0
ToldOf On obeys = Transcript obeys
ToldOf Stopped obeys = Partly obeys IsLast
ToldOf Failed obeys = Partly obeys IsFront

-- The lines are obeyed, from the first state to the second, and the text of their replies is appended to what was written.
abbrev pub Tells : {O : Type 0} → Flow → Obeying O → O → List (List ℕ) → O → Option (List ℕ) → Option (List ℕ) → Type 0
Tells flow obeys o lines next old new = (text : List ℕ) × ToldOf flow obeys o lines text next × Appends old new text

-- One more write has failed if the flow says so, and none otherwise.
abbrev pub CountsFlow : Flow → ℕ → ℕ → Type 0
CountsFlow Failed old new = new ≡ old + 1
CountsFlow _ old new = new ≡ old
