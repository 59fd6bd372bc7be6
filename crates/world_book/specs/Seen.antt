-- What a lookup sees in a world under its journal.
use Rattle.std.specs.Prelude.{◌≡◌, ◌≤◌, ℕ, max, Bool, Option, Some, List, slice_get}
use Rattle.dns_name.specs.Labels.{Labels}
use Rattle.dns_text.specs.declared.record.Question.{Question}
use Rattle.change_law.specs.declared.kept.KeptChange.{KeptChange}
use Rattle.change_law.specs.declared.world.World.{Ghosts}
use Rattle.change_law.specs.Face.{Face}
use Rattle.change_law.specs.Turn.{HoldsOver}
use Rattle.undo_journal.specs.Journal.{Changes}
use Rattle.history.specs.declared.event.Ask.{Ask}
use Rattle.history.specs.declared.event.Command.{Command}
use Rattle.history.specs.declared.event.Move.{Move}
use Rattle.history.specs.declared.event.Seen.{Seen}
use Rattle.history.specs.declared.event.Settings.{Settings}
use Rattle.history.specs.declared.tables.Tables.{Tables}
use Rattle.history.specs.History.{Past}
use Rattle.history.specs.Journal.{commands_of, next_undo}
use Rattle.history.specs.Oldest.{IsOldest}
use Rattle.history.specs.Reply.{answer_after, next_seen, seen_of}
use Rattle.world_book.specs.Deeds.{answer_in}
use Rattle.world_book.specs.Tied.{IsTied}

-- Whatever history the world and its journal came to, this is what the lookup sees after it. The clock is at the later of its last moment and the lookup's.
abbrev pub SeesHistory : {W S : Type 0} → Ghosts W Tables S Command → Settings → ℕ → Ask → W → Changes S → Seen → Type 0
SeesHistory by settings clock ask world changes seen =
    (bound moment : ℕ) (past : Past) → clock ≡ max past.now moment → IsTied by world changes bound past → seen ≡ seen_of settings past ask moment

-- Whatever history the world and its journal came to, this is the name to forget first at the clock.
abbrev pub IsOldestIn : {W S : Type 0} → Ghosts W Tables S Command → ℕ → W → Changes S → Option Labels → Type 0
IsOldestIn by clock world changes name = (bound : ℕ) (past : Past) → past.now ≤ clock → IsTied by world changes bound past → IsOldest past clock name

-- ---- right after an undo or a redo

-- If the change were undone, or redone, a lookup of the question would see this.
abbrev pub AnswersOver : {W S : Type 0} → (S → Option ℕ) → (W → List (KeptChange S) → Type 0) → (W → List (KeptChange S) → (ℕ → Bool) → Face Tables) →
    W → S → Question → ℕ → Seen → Type 0
AnswersOver table keeps face world saved question moment seen =
    HoldsOver table keeps face world saved (λ face'. seen ≡ answer_in face' question moment)

-- The same of the change that the journal has at a place, if there is one.
abbrev pub AnswersOverPlace : {W S : Type 0} → Ghosts W Tables S Command → W → Changes S → ℕ → Question → ℕ → Seen → Type 0
AnswersOverPlace {S = S} by world changes place question clock seen =
    (kept : KeptChange S) → slice_get changes.kept place ≡ Some kept → AnswersOver by.table by.keeps by.face world kept.saved question clock seen

-- Whatever history the world and its journal came to, a lookup of the question right after this step would see this.
abbrev pub AnswersAfter : {W S : Type 0} → Ghosts W Tables S Command → Move → Question → ℕ → W → Changes S → Seen → Type 0
AnswersAfter by step question clock world changes seen =
    (bound settled moment : ℕ) (past : Past) → clock ≡ max past.now moment → IsTied by world changes bound past → seen ≡ answer_after settled past step question moment

-- Whatever history a world and this journal came to, this shows the command that an undo would take back.
abbrev pub ShowsNextUndo : {W S : Type 0} → Ghosts W Tables S Command → Changes S → Seen → Type 0
ShowsNextUndo {W = W} by changes seen =
    (world : W) (bound : ℕ) (past : Past) → IsTied by world changes bound past → seen ≡ next_seen (next_undo past.marks (commands_of past))
