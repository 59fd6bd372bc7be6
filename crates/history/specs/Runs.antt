-- A run over a list of events, and where it stops.
use Rattle.std.specs.Prelude.{◌≡◌, Result, Ok, Err, List, [], ◌∷◌, ◌++◌}
use Rattle.history.specs.declared.event.Event.{Event}
use Rattle.history.specs.declared.event.Settings.{Settings}
use Rattle.history.specs.declared.runs.RunFault.{RunFault}
use Rattle.history.specs.declared.runs.RunFault.TheVariants.{NoMemory, Step}
use Rattle.history.specs.declared.event.Reply.{Reply}
use Rattle.history.specs.Answers.{Answers}
use Rattle.history.specs.Reply.{reply_to, replies_of}

-- Why a run stops before an event that follows a history: there is no memory for its reply, or its step returns a fault.
abbrev pub Meets : Settings → List Event → Event → RunFault → Type 0
Meets settings history event NoMemory = Unit {0}
Meets settings history event (Step fault) = Answers settings history event (Err fault)

-- Of the events that follow a history the first are taken, and the next meets this fault.
pub record StopsAfter (settings : Settings) (history events taken : List Event) (fault : RunFault) : Type 0 where
  pub next : Event
  pub later : List Event
  pub are : events ≡ taken ++ next ∷ later
  pub met : Meets settings (history ++ taken) next fault

-- The events that follow a history are taken: the book stands for them too, and the reply to each joins the replies.
pub record Takes (settings : Settings) (stands_for : List Event → Type 0) (history events : List Event) (old new : List Reply) : Type 0 where
  pub replies : new ≡ old ++ replies_of settings history events
  pub stands : stands_for (history ++ events)

-- A run takes all events, or those before the one that meets the fault.
abbrev pub Runs : Settings → (List Event → Type 0) → List Event → List Event → List Reply → List Reply → Result Unit RunFault → Type 0
Runs settings stands_for history events old new (Ok _) = Takes settings stands_for history events old new
Runs settings stands_for history events old new (Err fault) =
    (taken : List Event) × StopsAfter settings history events taken fault × Takes settings stands_for history taken old new

-- A step of a run takes its event, or leaves book and replies as they were.
abbrev pub Steps : Settings → (List Event → Type 0) → List Event → Event → List Reply → List Reply → Result Unit RunFault → Type 0
Steps settings stands_for history event old new (Ok _) = (new ≡ old ++ reply_to settings history event ∷ []) × stands_for (history ++ event ∷ [])
Steps settings stands_for history event old new (Err fault) = Meets settings history event fault × (new ≡ old) × stands_for history

-- From whatever history the book stands for before, a run takes these events.
abbrev pub RunsByHistory : {B : Type 0} → (B → List Event → Type 0) → (B → Settings) → B → List Event → List Reply → List Reply → Result Unit RunFault → B → Type 0
RunsByHistory stands_for settings book events old new result after_book =
    (h : List Event) → stands_for book h → Runs (settings book) (stands_for after_book) h events old new result

-- From whatever history the book stands for before, a step of a run takes this event.
abbrev pub StepsByHistory : {B : Type 0} → (B → List Event → Type 0) → (B → Settings) → B → Event → List Reply → List Reply → Result Unit RunFault → B → Type 0
StepsByHistory stands_for settings book event old new result after_book =
    (h : List Event) → stands_for book h → Steps (settings book) (stands_for after_book) h event old new result
