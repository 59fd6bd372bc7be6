-- A script: lines that are obeyed at a book, one after another.
use Rattle.std.specs.Prelude.{◌≡◌, ℕ, Bool, false, Result, Ok, Err, List}
use Rattle.streams.specs.declared.fault.Ended.{Ended}
use Rattle.streams.specs.declared.fault.Ended.TheVariants.{EndOfInput}
use Rattle.streams.specs.declared.fault.ScriptFault.{ScriptFault}
use Rattle.streams.specs.declared.sink.Sink.{Ghosts as OfSink}
use Rattle.streams.specs.declared.source.Source.{Ghosts as OfSource}
use Rattle.streams.specs.Engine.{RunsLines}
use Rattle.streams.specs.Transcript.{Obeying}
use Rattle.history.specs.declared.book.Book.{Ghosts}
use Rattle.history.specs.declared.event.Settings.{Settings}
use Rattle.history.specs.declared.event.Event.{Event}
use Rattle.command_text.specs.Obeying.{Place, GoesByHistory, Obeys}

-- A script begins at moment 0.
abbrev pub start_at : List Event → Place
start_at history = record { history = history; moment = 0 }

-- The result of a run that no line stops: if it does not fail, it ends at the end of its input.
abbrev pub to_the_end : {A : Type 0} → Result A ScriptFault → Result Ended ScriptFault
to_the_end (Ok _) = Ok EndOfInput
to_the_end (Err fault) = Err fault

-- A line of a script takes the book's history from place to place, whether or not it is the last.
abbrev pub obeying : Settings → Obeying Place
obeying settings place line text ends next = Obeys settings place line text next

-- Whatever history the book stood for, a run from moment 0 obeyed lines of the input there, and wrote their replies and nothing else. The book stands
-- for the history that they lead to.
abbrev pub RunsScript : {B S W A : Type 0} → Ghosts B → OfSource S → OfSink W → Result A ScriptFault → B → B → S → S → W → W → Type 0
RunsScript by reads writes result book book' reader reader' writer writer' =
    (h : List Event) → by.stands_for book h → (next : Place)
    × RunsLines (to_the_end result) (obeying (by.settings book)) (start_at h) next
    (reads.remaining reader) (reads.remaining reader') (writes.contents writer) (writes.contents writer')
    × by.stands_for book' next.history

-- A line is obeyed at a book whatever history it stands for, its settings stay, and the line never stops the script.
abbrev pub Scripted : {B : Type 0} → (B → List Event → Type 0) → (B → Settings) → ℕ → B → List ℕ → List ℕ → Bool → ℕ → B → Type 0
Scripted stands_for settings moment book line text ends after_moment after_book =
    GoesByHistory stands_for book moment after_book after_moment (λ place next. Obeys (settings book) place line text next)
    × (settings after_book ≡ settings book) × (ends ≡ false)
