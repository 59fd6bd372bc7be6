-- What the calls of a book over another one promise, by what the other one shows of itself.
use Rattle.std.specs.Prelude.{◌≡◌, ◌<◌, ◌≤◌, ◌+◌, ◌⊎◌, ℕ, List, Result, IfErr, OnOk}
use Rattle.dns_name.specs.Labels.{Labels}
use Rattle.ranked.specs.declared.find.Scope.{Scope}
use Rattle.history.specs.declared.book.Book.{Ghosts}
use Rattle.history.specs.declared.book.StepFault.{StepFault}
use Rattle.history.specs.declared.book.StepFault.TheVariants.{BadMoment, CountEnded}
use Rattle.history.specs.declared.event.Event.{Event}
use Rattle.history.specs.declared.event.Event.TheVariants.{Sweep}
use Rattle.history.specs.declared.event.Reply.{Reply}
use Rattle.history.specs.Answers.{Answers, Follows, SweepsAll, history_after}
use Rattle.history.specs.History.{past_of}
use Rattle.world_book.specs.Book.{IsByLimit}
use Rattle.world_book.specs.Versions.{count_pairs, pairs_left, AreAliveAfter, ForgetsOldest}
use Rattle.store.specs.Sweep.{turn_of_sweep}

-- ---- an event

-- Whatever history the book stood for, this is what a step may answer after it.
abbrev pub AnswersEach : {B : Type 0} → Ghosts B → B → Event → Result Reply StepFault → Type 0
AnswersEach by book event answer = (h : List Event) → by.stands_for book h → Answers (by.settings book) h event answer

-- The same where nobody reads the reply.
abbrev pub FollowsEach : {B A : Type 0} → Ghosts B → B → Event → Result A StepFault → Type 0
FollowsEach by book event answer = (h : List Event) → by.stands_for book h → Follows (by.settings book) h event answer

-- Whatever history the book stood for, it now stands for that one with the event, or after a fault for the same one.
abbrev pub StandsAfter : {B A : Type 0} → Ghosts B → B → Event → Result A StepFault → B → Type 0
StandsAfter by book event answer book' = (h : List Event) → by.stands_for book h → by.stands_for book' (history_after h event answer)

-- The limit of cells decides this of a fault at the book.
abbrev pub IsByLimitAt : {B : Type 0} → Ghosts B → B → Event → StepFault → Type 0
IsByLimitAt by book event fault = IsByLimit (by.stands_for book) (by.stored book) (by.settings book).cells event fault

-- If the event needs no memory, only the clock and the count of events refuse it.
abbrev pub IsUntimelyIfFree : {B A : Type 0} → Ghosts B → B → Event → Result A StepFault → Type 0
IsUntimelyIfFree by book event answer = by.is_free book event → IfErr answer (λ fault. (fault ≡ BadMoment) ⊎ (fault ≡ CountEnded))

-- If the event is a sweep that was taken, nothing is left to sweep.
abbrev pub SweepsIfTaken : {B A : Type 0} → Ghosts B → Event → Result A StepFault → B → Type 0
SweepsIfTaken by event answer book' = OnOk answer (SweepsAll event (by.unswept book'))

-- If the event forgets the name to forget first, the book stores fewer cells after it.
abbrev pub MakesRoomAt : {B : Type 0} → Ghosts B → B → Event → B → Type 0
MakesRoomAt by book event book' =
    (h : List Event) → by.stands_for book h → ForgetsOldest (past_of (by.settings book).journal h) event → by.stored book' < by.stored book

-- ---- what two books have in common

-- Whatever history the book stood for, it stands for it still.
abbrev pub StandsStill : {B : Type 0} → Ghosts B → B → B → Type 0
StandsStill by book book' = (h : List Event) → by.stands_for book h → by.stands_for book' h

-- One book stores as many cells as another.
abbrev pub StoresAsMany : {B : Type 0} → Ghosts B → B → B → Type 0
StoresAsMany by book other = by.stored book ≡ by.stored other

-- One book has the settings of another.
abbrev pub HasSettingsOf : {B : Type 0} → Ghosts B → B → B → Type 0
HasSettingsOf by book other = by.settings book ≡ by.settings other

-- ---- a sweep

-- One book has less left to sweep than another.
abbrev pub HasLessToSweep : {B : Type 0} → Ghosts B → B → B → Type 0
HasLessToSweep by book other = by.unswept book < by.unswept other

-- What was left to sweep is at most one turn more than what is left now.
abbrev pub SweepsOneTurn : {B : Type 0} → Ghosts B → B → B → Type 0
SweepsOneTurn by book book' = by.unswept book ≤ by.unswept book' + turn_of_sweep

-- The same of an event that is a sweep.
abbrev pub IsShortSweep : {B : Type 0} → Ghosts B → B → Event → B → Type 0
IsShortSweep by book event book' = (moment : ℕ) → event ≡ Sweep moment → SweepsOneTurn by book book'

-- ---- how much it holds

-- The journal of the book may have so many commands.
abbrev pub FitsJournal : {B : Type 0} → Ghosts B → B → ℕ → Type 0
FitsJournal by book commands = (h : List Event) → by.stands_for book h → commands ≤ (by.settings book).journal

-- A place of the book may have so many versions: one for each command of its journal, and one without them.
abbrev pub FitsVersions : {B : Type 0} → Ghosts B → B → ℕ → Type 0
FitsVersions by book versions = (h : List Event) → by.stands_for book h → versions ≤ (by.settings book).journal + 1

-- The book may store so many cells.
abbrev pub FitsLimit : {B : Type 0} → Ghosts B → B → ℕ → Type 0
FitsLimit by book cells = (h : List Event) → by.stands_for book h → cells ≤ (by.settings book).cells

-- So many different pairs of owner and scope were admitted, at least, whose owner was not forgotten since.
abbrev pub FitsAdmitted : {B : Type 0} → Ghosts B → B → ℕ → Type 0
FitsAdmitted by book cells = (h : List Event) → by.stands_for book h → cells ≤ count_pairs (pairs_left h)

-- No more different pairs have a find that is alive now in some version.
abbrev pub CoversAlive : {B : Type 0} → Ghosts B → B → ℕ → Type 0
CoversAlive by book cells =
    (h : List Event) → by.stands_for book h → (pairs : List (Labels × Scope)) → AreAliveAfter (by.settings book).journal h pairs → count_pairs pairs ≤ cells
