-- What a book keeps, and which histories it represents.
use Rattle.std.specs.Prelude.{◌≡◌, ◌<◌, ◌≤◌, ◌+◌, ◌⊎◌, ℕ, Bool, true, List, [], length, count_by, refl, Result, IfErr, OnErr}
use Rattle.std.specs.Coded.{Coded, code_by, coded×, coded_ℕ}
use Rattle.dns_name.specs.Labels.{Labels}
use Rattle.ranked.specs.declared.find.Scope.{Scope}
use Rattle.change_law.specs.declared.world.World.{Ghosts}
use Rattle.change_law.specs.Face.{Face, IsSame}
use Rattle.change_law.specs.Pairs.{CountsAmong}
use Rattle.undo_journal.specs.Journal.{Changes}
use Rattle.history.specs.declared.event.Command.{Command}
use Rattle.history.specs.declared.event.Event.{Event}
use Rattle.history.specs.declared.event.Settings.{Settings}
use Rattle.history.specs.declared.tables.Tables.{Tables}
use Rattle.history.specs.declared.book.StepFault.{StepFault}
use Rattle.history.specs.declared.book.StepFault.TheVariants.{BadMoment, CountEnded, Full, NoMemory}
use Rattle.history.specs.declared.limits.TheConstants.{MOMENT_END, MOST_EVENTS}
use Rattle.history.specs.Answers.{Follows, TellsLimit, history_after}
use Rattle.history.specs.Event.{is_admission}
use Rattle.history.specs.History.{past_of}
use Rattle.world_book.specs.Removals.{HasRemoved, IsFreeAfter}
use Rattle.world_book.specs.Step.{IsSound}
use Rattle.world_book.specs.Tied.{IsTied, undo_may_need}
use Rattle.world_book.specs.Versions.{count_pairs, pairs_left, AreAliveAfter, ForgetsOldest}

-- a world, the changes of its journal, the settings, the greatest moment and the count of events
pub record BookState (W S : Type 0) : Type 0 where
  pub world : W
  pub changes : Changes S
  pub settings : Settings
  pub moment : ℕ
  pub count : ℕ

abbrev pub book_code : {W S : Type 0} → Coded W → Coded (Changes S) → Coded Settings → Coded (BookState W S)
book_code {W} {S} w c s =
    code_by (W × (Changes S × (Settings × (ℕ × ℕ)))) (coded× w (coded× c (coded× s (coded× coded_ℕ coded_ℕ))))
    (λ b. (b.world, (b.changes, (b.settings, (b.moment, b.count)))))
    (λ p. record { world = p.0; changes = p.1.0; settings = p.1.1.0; moment = p.1.1.1.0; count = p.1.1.1.1 })
    (λ _. refl)

-- No more tickets were given out than events were taken. No event's moment was too late.
pub record IsWell {W T S D : Type 0} (by : Ghosts W T S D) (book : BookState W S) : Type 0 where
  pub sound : IsSound by book.world book.changes
  pub tickets : book.changes.tickets ≤ book.count
  pub count : book.count ≤ MOST_EVENTS
  pub early : book.moment < MOMENT_END

-- The book is in the state that the history gives. A command whose undo may need memory removed something when it was given.
pub record IsBookOf {W S : Type 0} (by : Ghosts W Tables S Command) (book : BookState W S) (history : List Event) : Type 0 where
  pub tied : IsTied by book.world book.changes book.settings.journal (past_of book.settings.journal history)
  pub moment : book.moment ≡ (past_of book.settings.journal history).now
  pub count : book.count ≡ length history
  pub few : by.stored book.world ≤ count_by is_admission history
  pub pairs : CountsAmong by.counts (pairs_left history) book.world
  pub most : by.limit book.world ≡ book.settings.cells
  pub some_commands : 1 ≤ book.settings.journal
  pub needs : (ticket : ℕ) → undo_may_need by book.changes ticket ≡ true → HasRemoved book.settings.journal history ticket

-- What the limit of cells decides of a fault, at a book that stands for some histories and stores so many cells. It is full only if of the
-- finds that were admitted, and whose owner was not forgotten since, as many differ in owner or scope as the limit. It finds no memory for
-- an admission only if it does not store as many cells as the limit.
abbrev pub IsByLimit : (List Event → Type 0) → ℕ → ℕ → Event → StepFault → Type 0
IsByLimit stands stored limit event (Full n) = (h : List Event) → stands h → limit ≤ count_pairs (pairs_left h)
IsByLimit stands stored limit event NoMemory = (h : List Event) → stands h → TellsLimit stored limit event NoMemory
IsByLimit stands stored limit event _ = Unit {0}

-- The limit of cells decides this of a fault at the book.
abbrev pub IsByLimitAt : {W S : Type 0} → Ghosts W Tables S Command → BookState W S → Event → StepFault → Type 0
IsByLimitAt by book event fault = IsByLimit (IsBookOf by book) (by.stored book.world) book.settings.cells event fault

-- Only the clock or the count of events refused an event.
abbrev pub IsUntimely : StepFault → Type 0
IsUntimely fault = (fault ≡ BadMoment) ⊎ (fault ≡ CountEnded)

-- The event needs no memory at the book, by some history that the book stands for.
abbrev pub IsFreeAt : {W S : Type 0} → Ghosts W Tables S Command → BookState W S → Event → Type 0
IsFreeAt by book event = (h : List Event) × IsBookOf by book h × IsFreeAfter book.settings.journal h event

-- Whatever history the book stood for, it now stands for that one with the event, or after a fault for the same one.
abbrev pub StandsAfter : {W S A : Type 0} → Ghosts W Tables S Command → BookState W S → Event → Result A StepFault → BookState W S → Type 0
StandsAfter by book event answer book' = (h : List Event) → IsBookOf by book h → IsBookOf by book' (history_after h event answer)

-- If the event forgets the name to forget first, the book stores fewer cells after it.
abbrev pub MakesRoomAt : {W S : Type 0} → Ghosts W Tables S Command → BookState W S → Event → BookState W S → Type 0
MakesRoomAt by book event book' =
    (h : List Event) → IsBookOf by book h → ForgetsOldest (past_of book.settings.journal h) event → by.stored book'.world < by.stored book.world

-- What was left to sweep is at most one turn more than what is left now.
abbrev pub SweepsOneTurn : {W T S D : Type 0} → Ghosts W T S D → BookState W S → BookState W S → Type 0
SweepsOneTurn by book book' = by.unswept book.world book.moment ≤ by.unswept book'.world book'.moment + by.turn

-- No more than so many different pairs of owner and scope have a find that is alive now in some version.
abbrev pub CoversAlive : {W S : Type 0} → Ghosts W Tables S Command → BookState W S → ℕ → Type 0
CoversAlive by book cells =
    (h : List Event) → IsBookOf by book h → (pairs : List (Labels × Scope)) → AreAliveAfter book.settings.journal h pairs → count_pairs pairs ≤ cells

-- A book took an event that changes nothing but the clock, or it was not timely. Nobody reads the reply.
pub record IsPassed {W S A : Type 0} (by : Ghosts W Tables S Command) (book : BookState W S) (event : Event) (answer : Result A StepFault) (book' : BookState W S) : Type 0 where
  pub answers : (h : List Event) → IsBookOf by book h → Follows book.settings h event answer
  pub stands : StandsAfter by book event answer book'
  pub same_store : OnErr answer (by.stored book'.world ≡ by.stored book.world)
  pub same_settings : book'.settings ≡ book.settings
  pub untimely : IfErr answer IsUntimely

-- Nothing has happened to a world: it keeps no change, by each choice it shows this face, it knows no ticket, it stores no cell, and no pair counts. It may store so many.
pub record IsUntouched {W T S D : Type 0} (by : Ghosts W T S D) (shown : Face T) (most : ℕ) (world : W) : Type 0 where
  pub keeps : by.keeps world []
  pub faces : (chosen : ℕ → Bool) → IsSame (by.face world [] chosen) shown
  pub newest : by.newest world ≡ 0
  pub stored : by.stored world ≡ 0
  pub limit : by.limit world ≡ most
  pub pairs : CountsAmong by.counts [] world
