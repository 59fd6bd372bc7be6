-- What a redo right after an undo leaves as it was.
use Rattle.std.specs.Prelude.{◌≡◌, ℕ, ◌≤◌, max, None, List, [], ◌∷◌, ◌++◌}
use Rattle.dns_text.specs.declared.record.Question.{Question}
use Rattle.history.specs.declared.event.Event.{Event}
use Rattle.history.specs.declared.event.Event.TheVariants.{Do, Undo, Redo}
use Rattle.history.specs.declared.event.Command.{Command}
use Rattle.history.specs.declared.event.Settings.{Settings}
use Rattle.history.specs.declared.event.Reply.TheVariants.{Undone, Redone}
use Rattle.history.specs.History.{Past, past_of, reason_of, standing_of, stubs_of, tables_of}
use Rattle.history.specs.Cells.{shows}
use Rattle.history.specs.Reply.{reply_of, reply_to}

-- The same is in force, the same can be undone and redone, the next ticket is the same, and so are local zones, records and stubs. From this moment on every cell shows the same.
pub record SameFrom (moment : ℕ) (before after : Past) : Type 0 where
  pub standing : standing_of after ≡ standing_of before
  pub tables : (tables_of after).local ≡ (tables_of before).local
  pub stubs : stubs_of after ≡ stubs_of before
  pub marks : after.marks ≡ before.marks
  pub shown : (question : Question) (t : ℕ) → moment ≤ t → shows after question t ≡ shows before question t

-- A command that is accepted after a history, and then undone and redone at once, is in force as though it had only been given.
abbrev pub StandsAgain : ℕ → List Event → Command → Type 0
StandsAgain bound history command = (given undone redone : ℕ) → reason_of (past_of bound history) command ≡ None →
    SameFrom (max undone redone) (past_of bound (history ++ Do given command ∷ [])) (past_of bound (history ++ Do given command ∷ Undo undone ∷ Redo redone ∷ []))

-- If an undo takes this ticket back, a redo right after it puts that ticket back, and all is as it was before the undo.
pub record PutsBack (settings : Settings) (history : List Event) (undone redone ticket : ℕ) : Type 0 where
  pub reply : reply_of settings (past_of settings.journal (history ++ Undo undone ∷ [])) (Redo redone) ≡ Redone ticket
  pub same : SameFrom (max undone redone) (past_of settings.journal history) (past_of settings.journal (history ++ Undo undone ∷ Redo redone ∷ []))

-- Whatever an undo after a history takes back, a redo right after it puts back.
abbrev pub UndoIsPutBack : Settings → List Event → Type 0
UndoIsPutBack settings history = (undone redone ticket : ℕ) → reply_to settings history (Undo undone) ≡ Undone ticket → PutsBack settings history undone redone ticket
