-- What a preview of an undo or a redo shows, and what `what_undo` does.
use Rattle.std.specs.Prelude.{◌≡◌, ℕ, max, Some, None, List, [], ◌∷◌, ◌++◌}
use Rattle.std.specs.List.{Contains}
use Rattle.dns_text.specs.declared.record.Question.{Question}
use Rattle.history.specs.declared.event.Ask.TheVariants.{After, Answer, NextUndo}
use Rattle.history.specs.declared.event.Event.{Event}
use Rattle.history.specs.declared.event.Event.TheVariants.{Look, Undo}
use Rattle.history.specs.declared.event.Journalled.{Journalled}
use Rattle.history.specs.declared.event.Move.{Move}
use Rattle.history.specs.declared.event.Refusal.{Refusal}
use Rattle.history.specs.declared.event.Refusal.TheVariants as refusal
use Rattle.history.specs.declared.event.Reply.TheVariants.{Seen, Undone, NothingToUndo}
use Rattle.history.specs.declared.event.Seen.TheVariants.{Command as CommandSeen, Refused as RefusedSeen}
use Rattle.history.specs.declared.event.Settings.{Settings}
use Rattle.history.specs.History.{Past, followed_by, is_unstruck, past_of}
use Rattle.history.specs.Journal.{commands_of}
use Rattle.history.specs.Reply.{answer_by, answer_of, marks_moved, move_at, refusal_in, reply_to}

-- If an undo or a redo would be granted, its preview shows what a lookup at the same moment sees right after it.
abbrev pub PreviewSeesAhead : Type 0
PreviewSeesAhead =
    (settings : Settings) (history : List Event) (m : ℕ) (step : Move) (q : Question) → refusal_in (reply_to settings history (move_at m step)) ≡ None
    → reply_to settings history (Look m (After q step)) ≡ reply_to settings (history ++ move_at m step ∷ []) (Look m (Answer q))

-- If an undo or a redo would be refused, its preview is refused for the same reason.
abbrev pub PreviewIsRefusedAlike : Type 0
PreviewIsRefusedAlike =
    (settings : Settings) (history : List Event) (m : ℕ) (step : Move) (q : Question) (why : Refusal)
    → refusal_in (reply_to settings history (move_at m step)) ≡ Some why
    → reply_to settings history (Look m (After q step)) ≡ Seen (RefusedSeen why)

-- Right after an undo or a redo, a lookup goes by the commands that the marks after it leave unstruck.
abbrev pub PreviewGoesByMarks : Type 0
PreviewGoesByMarks =
    (bound : ℕ) (past : Past) (m : ℕ) (step : Move) (q : Question)
    → answer_of (followed_by bound past (move_at m step)) q m ≡ answer_by (is_unstruck (marks_moved past step)) past.log q (max past.now m)

-- The command that `what_undo` shows is in the journal, and is the one that an undo takes back.
abbrev pub NextUndoIsShown : Type 0
NextUndoIsShown =
    (settings : Settings) (history : List Event) (m : ℕ) (held : Journalled) → reply_to settings history (Look m NextUndo) ≡ Seen (CommandSeen held)
    → (reply_to settings history (Undo m) ≡ Undone held.ticket) × Contains (commands_of (past_of settings.journal history)) held

-- If `what_undo` shows no command, an undo finds none.
abbrev pub NoUndoIsShown : Type 0
NoUndoIsShown =
    (settings : Settings) (history : List Event) (m : ℕ)
    → reply_to settings history (Look m NextUndo) ≡ Seen (RefusedSeen refusal.NothingToUndo) → reply_to settings history (Undo m) ≡ NothingToUndo
