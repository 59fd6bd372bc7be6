-- What a refusal leaves as it was: all but the clock.
use Rattle.std.specs.Prelude.{◌≡◌, ℕ, max, Bool, true, false, IsTrue, List, [], ◌∷◌, ◌++◌}
use Rattle.history.specs.declared.event.Event.{Event}
use Rattle.history.specs.declared.event.Reply.{Reply}
use Rattle.history.specs.declared.event.Reply.TheVariants.{Refused, NothingToUndo, NothingToRedo, NotKept, Buried}
use Rattle.history.specs.declared.event.Settings.{Settings}
use Rattle.history.specs.Event.{moment_of}
use Rattle.history.specs.History.{Past, past_of, standing_of, stubs_of, tables_of}
use Rattle.history.specs.Reply.{reply_to}

-- whether a command, an undo or a redo was refused
abbrev pub is_refusal : Reply → Bool
is_refusal (Refused reason) = true
is_refusal NothingToUndo = true
is_refusal NothingToRedo = true
is_refusal NotKept = true
is_refusal (Buried ticket) = true
is_refusal _ = false

-- The same is in force, the same can be undone and redone, the next ticket is the same, and so are local zones, records and stubs. The moment that the event gives counts.
pub record SameButClock (before after : Past) (event : Event) : Type 0 where
  pub standing : standing_of after ≡ standing_of before
  pub tables : (tables_of after).local ≡ (tables_of before).local
  pub stubs : stubs_of after ≡ stubs_of before
  pub marks : after.marks ≡ before.marks
  pub now : after.now ≡ max before.now (moment_of event)

-- An event that follows a history changes nothing but the clock.
abbrev pub ChangesOnlyClock : ℕ → List Event → Event → Type 0
ChangesOnlyClock bound history event = SameButClock (past_of bound history) (past_of bound (history ++ event ∷ [])) event

-- Whatever is refused changes nothing but the clock.
abbrev pub RefusalChangesOnlyClock : Type 0
RefusalChangesOnlyClock =
    (settings : Settings) (history : List Event) (event : Event) → IsTrue (is_refusal (reply_to settings history event))
    → ChangesOnlyClock settings.journal history event
