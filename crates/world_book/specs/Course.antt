-- The deeds of a world, and the face that a replay of them gives, for each choice of its changes.
use Rattle.std.specs.Prelude.{◌≡◌, ◌≢◌, ℕ, ◌<◌, ◌≤◌, ◌==◌, Bool, true, false, not, Option, Some, None, List, [], ◌∷◌, fold, if◌then◌else◌}
use Rattle.std.specs.List.{AllByRecursion}
use Rattle.dns_name.specs.Labels.{Labels}
use Rattle.dns_text.specs.declared.record.Question.{Question}
use Rattle.ranked.specs.declared.find.Find.{Find}
use Rattle.change_law.specs.declared.kept.KeptChange.{KeptChange}
use Rattle.change_law.specs.Choice.{IsChoice, is_done}
use Rattle.change_law.specs.Effect.{effect}
use Rattle.change_law.specs.Face.{Face, IsSameAt, face_with, face_without}
use Rattle.change_law.specs.Row.{where_chosen}
pub use Rattle.undo_journal.specs.Journal.{AreAscending}
use Rattle.undo_journal.specs.declared.outcome.Outcome.{Outcome}
use Rattle.undo_journal.specs.declared.outcome.Outcome.TheVariants.{Moved, NotKept, Buried}
use Rattle.undo_journal.specs.Journal.{Changes, tickets_of, standings_of}

-- a deed: a find came at a moment, a name was forgotten, or a change was made under a ticket
pub data Deed (T : Type 0) : Type 0 where
  Came : Find → ℕ → Deed T
  Forgot : Labels → Deed T
  Made : ℕ → (T → T) → (Question → Bool) → Deed T

-- a face after a deed; a change acts if it is chosen
abbrev pub face_after : {T : Type 0} → Bool → (ℕ → Bool) → Face T → Deed T → Face T
face_after has_cells chosen face (Came find moment) = face_with has_cells find moment face
face_after has_cells chosen face (Forgot owner) = face_without has_cells owner face
face_after has_cells chosen face (Made ticket after empties) = where_chosen ticket (effect after empties) chosen face

-- the face by a replay of all deeds, with the chosen changes
abbrev pub face_by : {T : Type 0} → Bool → (ℕ → Bool) → Face T → List (Deed T) → Face T
face_by has_cells chosen start deeds = fold (face_after has_cells chosen) start deeds

-- Among the changes that are not kept any more, exactly those that are not struck are chosen.
abbrev pub IsFair : {S : Type 0} → Changes S → (ℕ → Bool) → (ℕ → Bool) → Type 0
IsFair changes struck chosen = (t : ℕ) → t ≤ changes.tickets → AllByRecursion (λ u. u ≢ t) (tickets_of changes.kept) → chosen t ≡ not (struck t)

-- For each choice of the kept changes, the face of the world is that of a replay of its deeds. Of the kept changes those not in effect are struck.
pub record Stands {W S T : Type 0} (has_cells : Bool) (table : S → Option ℕ) (keeps : W → List (KeptChange S) → Type 0) (face : W → List (KeptChange S) → (ℕ → Bool) → Face T)
    (start : Face T) (world : W) (changes : Changes S) (now : ℕ) (deeds : List (Deed T)) (struck : ℕ → Bool) : Type 0 where
  pub kept : keeps world changes.kept
  pub ascending : AreAscending (tickets_of changes.kept)
  pub given : AllByRecursion (λ t. t ≤ changes.tickets) (tickets_of changes.kept)
  pub marked : AllByRecursion (λ one. struck one.0 ≡ not (is_done one.1)) (standings_of changes.kept)
  pub later : (t : ℕ) → changes.tickets < t → struck t ≡ false
  pub faces : (chosen : ℕ → Bool) → IsChoice table changes.kept chosen → IsFair changes struck chosen →
      IsSameAt now (face world changes.kept chosen) (face_by has_cells chosen start deeds)

-- whether a ticket is struck, when one more is
abbrev pub struck_with : (ℕ → Bool) → Option ℕ → ℕ → Bool
struck_with struck None t = struck t
struck_with struck (Some ticket) t = if t == ticket then true else struck t

-- whether a ticket is struck, when one is not any more
abbrev pub struck_without : (ℕ → Bool) → Option ℕ → ℕ → Bool
struck_without struck None t = struck t
struck_without struck (Some ticket) t = if t == ticket then false else struck t

-- the ticket that an undo or a redo of a ticket moved
abbrev pub moved_by : Outcome → ℕ → Option ℕ
moved_by Moved ticket = Some ticket
moved_by NotKept ticket = None
moved_by (Buried other) ticket = None
