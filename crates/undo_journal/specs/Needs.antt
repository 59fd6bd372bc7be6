-- Whether the undo of a kept change may need memory.
use Rattle.std.specs.Prelude.{◌≡◌, ◌==◌, ◌&&◌, ℕ, Bool, false, Some, List, [], ◌∷◌, ◌++◌, map, if◌then◌else◌}
use Rattle.std.specs.List.{AllByRecursion, list_any}
use Rattle.change_law.specs.declared.kept.KeptChange.{KeptChange}
use Rattle.change_law.specs.declared.kept.Standing.{Standing}
use Rattle.change_law.specs.declared.kept.Standing.TheVariants.{Done}
use Rattle.change_law.specs.Choice.{is_done}
use Rattle.undo_journal.specs.Journal.{Changes, NeedsNone, in_effect, last_of, newest, turnable}

-- whether the undo of a kept change may need memory. It is the next step of a change in effect. Of another it is the step after that.
abbrev pub undo_needs : {S : Type 0} → (S → Bool) → (S → Bool) → KeptChange S → Bool
undo_needs needs_memory needs_memory_after k = if is_done k.standing then needs_memory k.saved else needs_memory_after k.saved

-- the kept changes by their tickets, each with whether its undo may need memory
abbrev pub needs_of : {S : Type 0} → (S → Bool) → (S → Bool) → List (KeptChange S) → List (ℕ × Bool)
needs_of needs_memory needs_memory_after kept = map (λ k. (k.ticket, undo_needs needs_memory needs_memory_after k)) kept

-- The undos of the kept changes need what they did.
abbrev pub HaveNeeds : {S : Type 0} → (S → Bool) → (S → Bool) → Changes S → Changes S → Type 0
HaveNeeds needs_memory needs_memory_after before after =
    needs_of needs_memory needs_memory_after after.kept ≡ needs_of needs_memory needs_memory_after before.kept

-- whether the undo of the change of a ticket may need memory
abbrev pub is_needy : List (ℕ × Bool) → ℕ → Bool
is_needy needs ticket = list_any (λ one. one.0 == ticket && one.1) needs

-- To turn the change of a ticket, which stands so, needs no memory.
abbrev pub TurnNeedsNone : {S : Type 0} → (S → Bool) → Standing → List (KeptChange S) → ℕ → Type 0
TurnNeedsNone needs_memory from kept ticket = AllByRecursion (λ k. k.ticket ≡ ticket → k.standing ≡ from → needs_memory k.saved ≡ false) kept

-- To undo the change of a ticket, which is in effect, needs no memory.
abbrev pub UndoNeedsNone : {S : Type 0} → (S → Bool) → List (KeptChange S) → ℕ → Type 0
UndoNeedsNone needs_memory kept ticket = TurnNeedsNone needs_memory Done kept ticket

-- If the last change that can be turned needs no memory for it, this holds.
abbrev pub HoldsIfTurnIsFree : {S : Type 0} → (S → Bool) → Standing → Changes S → Type 0 → Type 0
HoldsIfTurnIsFree needs_memory from before P = (ticket : ℕ) → last_of (turnable from before) ≡ Some ticket → TurnNeedsNone needs_memory from before.kept ticket → P

-- If the last change in effect needs no memory to be undone, this holds.
abbrev pub HoldsIfUndoIsFree : {S : Type 0} → (S → Bool) → Changes S → Type 0 → Type 0
HoldsIfUndoIsFree needs_memory before P = HoldsIfTurnIsFree needs_memory Done before P

-- If the change that was undone last needs no memory to be redone, this holds.
abbrev pub HoldsIfRedoIsFree : {S : Type 0} → (S → Bool) → Changes S → Type 0 → Type 0
HoldsIfRedoIsFree needs_memory before P = (ticket : ℕ) → last_of before.undone ≡ Some ticket → NeedsNone needs_memory before.kept ticket → P

-- The undo of a new change may need memory only if the change removed something. The undos of the others need what they did.
pub record IsNeededAfter {S : Type 0} (needs_memory needs_memory_after : S → Bool) (before : Changes S) (ticket : ℕ) (removed : Bool) (after : Changes S) : Type 0 where
  pub need : Bool
  pub free : removed ≡ false → need ≡ false
  pub all : needs_of needs_memory needs_memory_after after.kept
      ≡ newest before.limit (needs_of needs_memory needs_memory_after (in_effect before.kept) ++ (ticket, need) ∷ [])
