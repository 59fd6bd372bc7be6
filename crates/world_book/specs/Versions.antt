-- The versions of a history: the cells that it would give, if only some of the commands of its journal were in force. And the events that need no memory.
use Rattle.std.specs.Prelude.{◌≡◌, ◌≢◌, ◌⊎◌, ℕ, max, Bool, false, not, Option, Some, None, List, [], ◌∷◌, ◌++◌, filter, fold, map}
use Rattle.std.specs.List.{AllByRecursion}
use Rattle.dns_name.specs.Labels.{Labels}
use Rattle.dns_name.specs.Order.{name_eq}
use Rattle.dns_text.specs.declared.record.Question.{Question}
use Rattle.ranked.specs.declared.cell.Admitted.{Admitted}
use Rattle.ranked.specs.declared.find.Find.{Find}
use Rattle.ranked.specs.declared.find.Scope.{Scope}
use Rattle.change_law.specs.Choice.{IsOneTable}
use Rattle.change_law.specs.Face.{alive_at}
pub use Rattle.change_law.specs.Pairs.{count_pairs}
use Rattle.change_law.specs.Pairs.{pair_of}
use Rattle.history.specs.declared.event.Event.{Event}
use Rattle.history.specs.declared.event.Event.TheVariants.{Admit, Sweep, Forget, Undo, Redo, UndoOf, RedoOf}
use Rattle.history.specs.declared.event.Journalled.{Journalled}
use Rattle.history.specs.History.{Past, is_unstruck, past_of}
pub use Rattle.history.specs.Journal.{table_of}
use Rattle.history.specs.Journal.{commands_of}
use Rattle.history.specs.Marks.{last_of}
use Rattle.history.specs.Oldest.{IsOldest}
use Rattle.world_book.specs.Deeds.{face_of}

-- the finds that were admitted and not forgotten, after one event more
abbrev pub finds_after : List Find → Event → List Find
finds_after finds (Admit moment find) = finds ++ find ∷ []
finds_after finds (Forget moment owner) = filter (λ find. not (name_eq owner find.owner)) finds
finds_after finds event = finds

-- the finds of the admissions of a history that no later forget of their owner follows
abbrev pub finds_left : List Event → List Find
finds_left history = fold finds_after [] history

-- the pairs of these finds: of each its owner and its scope
abbrev pub pairs_left : List Event → List (Labels × Scope)
pairs_left history = map pair_of (finds_left history)

-- With a command of a table, all earlier ones of that table are chosen. A flush is free.
abbrev pub IsChoiceOf : List Journalled → (ℕ → Bool) → Type 0
IsChoiceOf [] chosen = Unit {0}
IsChoiceOf (held ∷ later) chosen =
    (chosen held.ticket ≡ false → AllByRecursion (λ other. IsOneTable (table_of held.command) (table_of other.command) → chosen other.ticket ≡ false) later) × IsChoiceOf later chosen

-- A choice of commands. Of those in the journal it has, with each of a table, all earlier ones of that table. Of all others it has those that are in force.
pub record IsVersion (past : Past) (chosen : ℕ → Bool) : Type 0 where
  pub journal : IsChoiceOf (commands_of past) chosen
  pub others : (ticket : ℕ) → AllByRecursion (λ held. held.ticket ≢ ticket) (commands_of past) → chosen ticket ≡ is_unstruck past.marks ticket

-- In some version of a past, a cell has a find of this pair that is alive at a moment.
pub record IsAliveInVersion (past : Past) (t : ℕ) (pair : Labels × Scope) : Type 0 where
  pub chosen : ℕ → Bool
  pub version : IsVersion past chosen
  pub question : Question
  pub held : Admitted Find
  pub alive : alive_at t ((face_of chosen past.log).cell question) ≡ Some held
  pub same : pair_of held.body ≡ pair

-- Of each of these pairs a find is alive at the end of a history, in a cell of some version.
abbrev pub AreAliveAfter : ℕ → List Event → List (Labels × Scope) → Type 0
AreAliveAfter bound history pairs = AllByRecursion (IsAliveInVersion (past_of bound history) (past_of bound history).now) pairs

-- The command of a ticket is a flush, if the journal holds it.
abbrev pub IsFlush : Past → ℕ → Type 0
IsFlush past ticket = AllByRecursion (λ held. held.ticket ≡ ticket → table_of held.command ≡ None) (commands_of past)

-- An event that needs no memory: a sweep, a forget, an undo or a redo that reaches or names a flush, an undo that reaches or names a ticket with a property, and an admission whose pair is alive in some version. (A look and a command may need memory.)
abbrev pub IsFreeWhere : (ℕ → Type 0) → Past → Event → Type 0
IsFreeWhere P past (Sweep moment) = Unit {0}
IsFreeWhere P past (Forget moment owner) = Unit {0}
IsFreeWhere P past (Undo moment) = (ticket : ℕ) × (last_of past.marks.done ≡ Some ticket) × (IsFlush past ticket ⊎ P ticket)
IsFreeWhere P past (Redo moment) = (ticket : ℕ) × (last_of past.marks.undone ≡ Some ticket) × IsFlush past ticket
IsFreeWhere P past (UndoOf moment ticket) = IsFlush past ticket ⊎ P ticket
IsFreeWhere P past (RedoOf moment ticket) = IsFlush past ticket
IsFreeWhere P past (Admit moment find) = IsAliveInVersion past (max past.now moment) (pair_of find)
IsFreeWhere P past event = ⊥

-- A forget of the name to forget first at its moment.
abbrev pub ForgetsOldest : Past → Event → Type 0
ForgetsOldest past (Forget moment owner) = IsOldest past (max past.now moment) (Some owner)
ForgetsOldest past event = ⊥
