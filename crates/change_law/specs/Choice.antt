-- Choices of the kept changes, by their tickets.
use Rattle.std.specs.Prelude.{◌≡◌, ◌≢◌, ℕ, Bool, true, false, Option, Some, List, [], ◌∷◌, map}
use Rattle.std.specs.List.{AllByRecursion}
use Rattle.change_law.specs.declared.kept.KeptChange.{KeptChange}
use Rattle.change_law.specs.declared.kept.Standing.{Standing}
use Rattle.change_law.specs.declared.kept.Standing.TheVariants.{Done, Undone, Cleared}

-- Two changes have the same table.
abbrev pub IsOneTable : Option ℕ → Option ℕ → Type 0
IsOneTable (Some a) (Some b) = a ≡ b
IsOneTable _ _ = ⊥

-- No later change of the table is chosen.
abbrev pub AreLeftOut : {S : Type 0} → (S → Option ℕ) → (ℕ → Bool) → S → List (KeptChange S) → Type 0
AreLeftOut table chosen saved later = AllByRecursion (λ k. IsOneTable (table saved) (table k.saved) → chosen k.ticket ≡ false) later

-- A cleared change is not chosen. If another change is not chosen, no later one of its table is.
abbrev pub AllowsAt : {S : Type 0} → (S → Option ℕ) → (ℕ → Bool) → Standing → KeptChange S → List (KeptChange S) → Type 0
AllowsAt table chosen Cleared k later = chosen k.ticket ≡ false
AllowsAt table chosen _ k later = chosen k.ticket ≡ false → AreLeftOut table chosen k.saved later

-- A choice of kept changes: with a change of a table, all earlier ones of that table are chosen, and no cleared one is. A change without a table is free.
abbrev pub IsChoice : {S : Type 0} → (S → Option ℕ) → List (KeptChange S) → (ℕ → Bool) → Type 0
IsChoice table [] chosen = Unit {0}
IsChoice table (k ∷ later) chosen = AllowsAt table chosen k.standing k later × IsChoice table later chosen

-- Two choices agree on the kept changes.
abbrev pub Agree : {S : Type 0} → (ℕ → Bool) → (ℕ → Bool) → List (KeptChange S) → Type 0
Agree chosen other kept = AllByRecursion (λ k. chosen k.ticket ≡ other k.ticket) kept

-- whether a change is in effect
abbrev pub is_done : Standing → Bool
is_done Done = true
is_done _ = false

-- The choice of the changes in effect.
abbrev pub IsPresent : {S : Type 0} → List (KeptChange S) → (ℕ → Bool) → Type 0
IsPresent kept chosen = AllByRecursion (λ k. chosen k.ticket ≡ is_done k.standing) kept

-- ---- turns: an undo turns a change that is in effect, a redo one that is undone

-- the standing of a change after its turn
abbrev pub turned : Standing → Standing
turned Done = Undone
turned _ = Done

-- what is in the way of a turn, of what is before a place and what is after it: an undo goes past later ones, a redo past earlier ones
abbrev pub passed : {X : Type 0} → Standing → X → X → X
passed Done earlier later = later
passed _ earlier later = earlier

-- No change of its table that the turn goes past stands as it does.
abbrev pub IsClear : {S : Type 0} → (S → Option ℕ) → Standing → S → List (KeptChange S) → Type 0
IsClear table from saved others = AllByRecursion (λ k. IsOneTable (table saved) (table k.saved) → k.standing ≢ from) others

-- No later change of its table is in effect.
abbrev pub IsUncovered : {S : Type 0} → (S → Option ℕ) → S → List (KeptChange S) → Type 0
IsUncovered table saved later = IsClear table Done saved later

-- No earlier change of its table is undone.
abbrev pub IsFounded : {S : Type 0} → (S → Option ℕ) → S → List (KeptChange S) → Type 0
IsFounded table saved earlier = IsClear table Undone saved earlier

-- ---- when nothing can be redone any more

-- the standing of a change when nothing can be redone any more
abbrev pub clear : Standing → Standing
clear Done = Done
clear _ = Cleared

-- a kept change when nothing can be redone any more
abbrev pub cleared_one : {S : Type 0} → KeptChange S → KeptChange S
cleared_one k = record { ticket = k.ticket; standing = clear k.standing; saved = k.saved }

-- the kept changes when nothing can be redone any more
abbrev pub cleared : {S : Type 0} → List (KeptChange S) → List (KeptChange S)
cleared kept = map cleared_one kept
