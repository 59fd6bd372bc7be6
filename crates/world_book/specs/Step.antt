-- What a step does to a world under its journal.
use Rattle.std.specs.Prelude.{◌≡◌, ◌≢◌, ◌≤◌, ◌+◌, ◌∷◌, [], ℕ, Bool, List, Some, IsTrue, if◌then◌else◌}
use Rattle.dns_name.specs.Labels.{Labels}
use Rattle.change_law.specs.declared.world.World.{Ghosts}
use Rattle.change_law.specs.Pairs.{AddsPairs, CountsNoneOf}
use Rattle.ranked.specs.declared.cell.Fate.{Fate}
use Rattle.ranked.specs.declared.cell.Fate.TheVariants as fate
use Rattle.ranked.specs.declared.find.Scope.{Scope}
use Rattle.undo_journal.specs.Journal.{Changes, NeedsNone, done_of, last_of}
use Rattle.undo_journal.specs.Needs.{UndoNeedsNone}
use Rattle.history.specs.declared.book.StepFault.{StepFault}
use Rattle.history.specs.declared.book.StepFault.TheVariants.{Full, NoMemory}
use Rattle.history.specs.declared.event.Event.{Event}
use Rattle.history.specs.declared.event.Event.TheVariants.{Sweep, Forget, Undo, Redo, UndoOf, RedoOf}
use Rattle.history.specs.declared.event.Reason.{Reason}
use Rattle.history.specs.declared.event.Reason.TheVariants.{BelowRedirect, DataBelow, CnameClash, TooMany}
use Rattle.history.specs.declared.event.Reply.{Reply}
use Rattle.history.specs.declared.event.Reply.TheVariants.{Taken, Outranked}
use Rattle.history.specs.Event.{is_admission}
use Rattle.world_book.specs.Versions.{pairs_left}

-- The world keeps what the journal has, and knows of no later ticket.
pub record IsSound {W T S D : Type 0} (by : Ghosts W T S D) (world : W) (changes : Changes S) : Type 0 where
  pub kept : by.keeps world changes.kept
  pub latest : by.newest world ≤ changes.tickets

-- After a step the world is sound under its journal. At most one more ticket was given out, and at most so many more cells are stored.
-- No pair but these counts that did not before. The limit of cells is the same.
pub record IsSoundAfter {W T S D : Type 0} (by : Ghosts W T S D) (more : ℕ) (added : List (Labels × Scope)) (world : W) (changes : Changes S) (world' : W) (changes' : Changes S) : Type 0 where
  pub sound : IsSound by world' changes'
  pub tickets : changes'.tickets ≤ changes.tickets + 1
  pub stored : by.stored world' ≤ by.stored world + more
  pub limit : by.limit world' ≡ by.limit world
  pub pairs : AddsPairs by.counts added world world'

-- The same after an event: an admission stores one more cell at most, that of the pair of its find.
abbrev pub IsSoundAfterEvent : {W T S D : Type 0} → Ghosts W T S D → Event → W → Changes S → W → Changes S → Type 0
IsSoundAfterEvent by event world changes world' changes' =
    IsSoundAfter by (if is_admission event then 1 else 0) (pairs_left (event ∷ [])) world changes world' changes'

-- After a forget, no pair of its owner counts.
abbrev pub ForgetsPairs : {W T S D : Type 0} → Ghosts W T S D → Event → W → Type 0
ForgetsPairs by (Forget moment owner) world = CountsNoneOf by.counts owner world
ForgetsPairs by event world = Unit {0}

-- the numbers by which changes tell the reasons
abbrev pub code_of : Reason → ℕ
code_of BelowRedirect = 1
code_of DataBelow = 2
code_of CnameClash = 3
code_of TooMany = 4

abbrev pub reply_of_fate : Fate → Reply
reply_of_fate fate.Taken = Taken
reply_of_fate fate.Outranked = Outranked

-- A step found no memory, but not for an admission to a world that stores as many cells as it may. Or it was such an admission.
abbrev pub IsFaultOf : {W T S D : Type 0} → Ghosts W T S D → W → Event → StepFault → Type 0
IsFaultOf by world event NoMemory = IsTrue (is_admission event) → by.stored world ≢ by.limit world
IsFaultOf by world event (Full n) = IsTrue (is_admission event) × (by.stored world ≡ n) × (by.limit world ≡ n)
IsFaultOf by world event _ = ⊥

-- An event that wants no memory: a sweep, a forget, and an undo or a redo whose change wants none.
abbrev pub IsFree : {S : Type 0} → (S → Bool) → Changes S → Event → Type 0
IsFree needs changes (Sweep moment) = Unit {0}
IsFree needs changes (Forget moment owner) = Unit {0}
IsFree needs changes (Undo moment) = (ticket : ℕ) × (last_of (done_of changes) ≡ Some ticket) × UndoNeedsNone needs changes.kept ticket
IsFree needs changes (Redo moment) = (ticket : ℕ) × (last_of changes.undone ≡ Some ticket) × NeedsNone needs changes.kept ticket
IsFree needs changes (UndoOf moment ticket) = UndoNeedsNone needs changes.kept ticket
IsFree needs changes (RedoOf moment ticket) = NeedsNone needs changes.kept ticket
IsFree needs changes event = ⊥
