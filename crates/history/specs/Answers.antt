-- What a step may answer to an event, and what is in the history then.
use Rattle.std.specs.Prelude.{◌≡◌, ◌≢◌, ℕ, ◌<◌, ◌≤◌, IsTrue, Result, Ok, Err, List, [], ◌∷◌, ◌++◌, length, count_by}
use Rattle.history.specs.declared.event.Event.{Event}
use Rattle.history.specs.declared.event.Event.TheVariants.{Sweep}
use Rattle.history.specs.declared.event.Reply.{Reply}
use Rattle.history.specs.declared.event.Settings.{Settings}
use Rattle.history.specs.declared.book.StepFault.{StepFault}
use Rattle.history.specs.declared.book.StepFault.TheVariants.{BadMoment, CountEnded, Full, NoMemory}
use Rattle.history.specs.declared.limits.TheConstants.{MOMENT_END, MOST_EVENTS}
use Rattle.history.specs.Event.{moment_of, is_admission}
use Rattle.history.specs.History.{past_of}
use Rattle.history.specs.Reply.{reply_of}

-- The moment is not too late, and one event more than these is counted.
pub record IsTimely (count : ℕ) (event : Event) : Type 0 where
  pub moment : moment_of event < MOMENT_END
  pub count_goes_on : count < MOST_EVENTS

-- After so many events, of which so many are admissions. An event whose moment is too late is told so, and any other where no more is counted. An event that is timely gets its reply, or finds no memory, or is an admission for which there is no cell.
abbrev pub AnswersBy : Settings → ℕ → ℕ → Reply → Event → Result Reply StepFault → Type 0
AnswersBy settings count admissions told event (Ok reply) = IsTimely count event × (reply ≡ told)
AnswersBy settings count admissions told event (Err BadMoment) = MOMENT_END ≤ moment_of event
AnswersBy settings count admissions told event (Err CountEnded) = (moment_of event < MOMENT_END) × (MOST_EVENTS ≤ count)
AnswersBy settings count admissions told event (Err (Full stored)) =
    IsTimely count event × IsTrue (is_admission event) × (stored ≡ settings.cells) × (stored ≤ admissions)
AnswersBy settings count admissions told event (Err NoMemory) = IsTimely count event

-- what a step may answer after a history: the reply of the replay, or a fault for its reason
abbrev pub Answers : Settings → List Event → Event → Result Reply StepFault → Type 0
Answers settings history event answer =
    AnswersBy settings (length history) (count_by is_admission history) (reply_of settings (past_of settings.journal history) event) event answer

-- what a step may answer after a history where nobody reads the reply
abbrev pub Follows : {A : Type 0} → Settings → List Event → Event → Result A StepFault → Type 0
Follows settings history event (Ok taken) = IsTimely (length history) event
Follows settings history event (Err fault) = Answers settings history event (Err fault)

-- An event that is answered with a fault is not in the history.
abbrev pub history_after : {A : Type 0} → List Event → Event → Result A StepFault → List Event
history_after history event (Ok reply) = history ++ event ∷ []
history_after history event (Err fault) = history

-- What a fault may be at a book that stores so many of the cells that there may be. If as many are stored, no admission lacks memory: the book says that it is full.
abbrev pub TellsLimit : ℕ → ℕ → Event → StepFault → Type 0
TellsLimit stored limit event NoMemory = IsTrue (is_admission event) → stored ≢ limit
TellsLimit stored limit event _ = Unit {0}

-- The limit of cells decides this of a fault at a book, whatever history it stands for.
abbrev pub TellsLimitAt : {B : Type 0} → (B → List Event → Type 0) → (B → Settings) → (B → ℕ) → B → Event → StepFault → Type 0
TellsLimitAt stands_for settings stored book event fault =
    (h : List Event) → stands_for book h → TellsLimit (stored book) (settings book).cells event fault

-- If the event is a sweep, nothing is left to sweep. The number is what is left after it.
abbrev pub SweepsAll : Event → ℕ → Type 0
SweepsAll (Sweep moment) left = left ≡ 0
SweepsAll event left = Unit {0}
