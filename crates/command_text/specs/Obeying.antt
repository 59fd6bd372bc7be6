-- Script lines: the effect of each, and its reply.
use Rattle.std.specs.Prelude.{◌≡◌, ℕ, Bool, IsTrue, ◌⊎◌, Result, Ok, Err, List, [], codes}
use Rattle.streams.specs.Split.{with_end}
use Rattle.ranked.specs.declared.find.Find.{Find}
use Rattle.history.specs.declared.event.Settings.{Settings}
use Rattle.history.specs.declared.event.Event.{Event}
use Rattle.history.specs.declared.event.Event.TheVariants.{Admit as AdmitEvent}
use Rattle.history.specs.declared.event.Reply.{Reply}
use Rattle.history.specs.declared.book.StepFault.{StepFault}
use Rattle.history.specs.declared.desk.DeskFault.{DeskFault}
use Rattle.history.specs.Answers.{Answers, history_after}
use Rattle.history.specs.Desk.{desk_answer}
use Rattle.command_text.specs.declared.line.Line.{Line}
use Rattle.command_text.specs.declared.line.Line.TheVariants.{Silent, At, Admit, Deny, Request, Stop, Status, Stats}
use Rattle.command_text.specs.declared.fault.LineFault.{LineFault}
use Rattle.command_text.specs.declared.fault.LineFault.TheVariants.{Unknown, NoMemory}
use Rattle.command_text.specs.declared.words.Channel.TheVariants.{Script}
use Rattle.command_text.specs.Admission.{IsFindOf}
use Rattle.command_text.specs.Denial.{IsDenialOf}
use Rattle.command_text.specs.Request.{event_at}
use Rattle.command_text.specs.Line.{says, takes_memory}
use Rattle.command_text.specs.Text.{is_long, reply_text, desk_fault_text, line_fault_text}

-- The state of a script: the events that were taken so far, and the moment of the next.
pub record Place : Type 0 where
  pub history : List Event
  pub moment : ℕ

-- The reply to an event. If there is no memory for the text of a set, of local data or of a list, the reply is lost;
-- the event still took effect.
abbrev pub IsTextOf : Result Reply DeskFault → List ℕ → Type 0
IsTextOf (Ok told) text = (text ≡ reply_text told) ⊎ (IsTrue (is_long told) × (text ≡ with_end (codes "fault reply_lost")))
IsTextOf (Err fault) text = text ≡ desk_fault_text fault

-- The book gets an event, the reply is its answer as text, and the history is that after the event and its answer.
abbrev pub Asks : Settings → Place → Event → List ℕ → Place → Type 0
Asks settings place event text next =
    (answer : Result Reply StepFault) × Answers settings place.history event answer × IsTextOf (desk_answer answer) text
    × (next ≡ record { history = history_after place.history event answer; moment = place.moment })

-- There is no memory for the line: the reply says so, and nothing changes.
abbrev pub Drops : Place → List ℕ → Place → Type 0
Drops place text next = (text ≡ line_fault_text NoMemory) × (next ≡ place)

-- The effect of a line that is read as this. A script has no `stop`, `status` or `stats`: here they are unknown commands.
abbrev pub Does : Settings → Place → Result Line LineFault → List ℕ → Place → Type 0
Does settings place (Ok Silent) text next = (text ≡ []) × (next ≡ place)
Does settings place (Ok (At moment)) text next = (text ≡ with_end (codes "ok")) × (next ≡ record { history = place.history; moment = moment })
Does settings place (Ok (Admit given)) text next = ((find : Find) × IsFindOf given find × Asks settings place (AdmitEvent place.moment find) text next) ⊎ Drops place text next
Does settings place (Ok (Deny denied)) text next = ((find : Find) × IsDenialOf denied find × Asks settings place (AdmitEvent place.moment find) text next) ⊎ Drops place text next
Does settings place (Ok (Request request)) text next = Asks settings place (event_at place.moment request) text next
Does settings place (Ok Stop) text next = (text ≡ line_fault_text Unknown) × (next ≡ place)
Does settings place (Ok Status) text next = (text ≡ line_fault_text Unknown) × (next ≡ place)
Does settings place (Ok Stats) text next = (text ≡ line_fault_text Unknown) × (next ≡ place)
Does settings place (Err fault) text next = (text ≡ line_fault_text fault) × (next ≡ place)

-- From whatever history the book stands for before, `goes` leads to one that it stands for afterwards, at the moment after.
abbrev pub GoesByHistory : {B : Type 0} → (B → List Event → Type 0) → B → ℕ → B → ℕ → (Place → Place → Type 0) → Type 0
GoesByHistory stands_for book moment after_book after_moment goes =
    (place : Place) → stands_for book place.history → place.moment ≡ moment → (next : Place)
    × goes place next × stands_for after_book next.history × (next.moment ≡ after_moment)

-- From whatever history the book stands for before, an event leads to one that it stands for afterwards, and is answered so.
abbrev pub AsksByHistory : {B : Type 0} → (B → List Event → Type 0) → (B → Settings) → B → Event → List ℕ → B → Type 0
AsksByHistory stands_for settings book event text after_book =
    (place : Place) → stands_for book place.history → (next : Place)
    × Asks (settings book) place event text next × stands_for after_book next.history × (next.moment ≡ place.moment)

-- From whatever history the book stands for before, what was read of a line takes effect.
abbrev pub DoesByHistory : {B : Type 0} → (B → List Event → Type 0) → (B → Settings) → ℕ → B → Result Line LineFault → List ℕ → ℕ → B → Type 0
DoesByHistory stands_for settings moment book said text after_moment after_book =
    GoesByHistory stands_for book moment after_book after_moment (λ place next. Does (settings book) place said text next)

-- The line takes effect, or it needs memory and there is none.
abbrev pub DoesUnless : Settings → Place → Result Line LineFault → Bool → List ℕ → Place → Type 0
DoesUnless settings place said takes text next = Does settings place said text next ⊎ (IsTrue takes × Drops place text next)

-- One script line: it is obeyed, or it needs memory and there is none.
abbrev pub Obeys : Settings → Place → List ℕ → List ℕ → Place → Type 0
Obeys settings place line text next = DoesUnless settings place (says Script line) (takes_memory Script line) text next

-- From whatever history the book stands for before, a line is obeyed.
abbrev pub ObeysByHistory : {B : Type 0} → (B → List Event → Type 0) → (B → Settings) → ℕ → B → List ℕ → List ℕ → ℕ → B → Type 0
ObeysByHistory stands_for settings moment book line text after_moment after_book =
    GoesByHistory stands_for book moment after_book after_moment (λ place next. Obeys (settings book) place line text next)
