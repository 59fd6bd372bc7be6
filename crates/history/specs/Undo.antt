-- What an undo right after a command leaves as it was.
use Rattle.std.specs.Prelude.{◌≡◌, ℕ, ◌≤◌, None, List, [], ◌∷◌, ◌++◌}
use Rattle.dns_text.specs.declared.record.Question.{Question}
use Rattle.history.specs.declared.event.Event.{Event}
use Rattle.history.specs.declared.event.Event.TheVariants.{Do, Undo}
use Rattle.history.specs.declared.event.Command.{Command}
use Rattle.history.specs.History.{Past, past_of, reason_of, standing_of, stubs_of, tables_of}
use Rattle.history.specs.Cells.{shows}

-- The same is in force, and so local zones, records and stubs are the same. From both moments on every cell shows the same.
pub record SameStands (given undone : ℕ) (before after : Past) : Type 0 where
  pub standing : standing_of after ≡ standing_of before
  pub tables : (tables_of after).local ≡ (tables_of before).local
  pub stubs : stubs_of after ≡ stubs_of before
  pub shown : (question : Question) (t : ℕ) → given ≤ t → undone ≤ t → shows after question t ≡ shows before question t

-- A command that is accepted after a history, and undone at once, leaves what was in force before it.
abbrev pub TakesBack : ℕ → List Event → Command → Type 0
TakesBack bound history command = (given undone : ℕ) → reason_of (past_of bound history) command ≡ None →
    SameStands given undone (past_of bound history) (past_of bound (history ++ Do given command ∷ Undo undone ∷ []))
