-- The places that count against the limit: a find of a whole name, and a column that has a find in some version.
use Rattle.std.specs.Prelude.{◌≡◌, ◌⊎◌, ℕ, ◌+◌, ◌≤◌, ◌==◌, ◌&&◌, ◌||◌, Bool, true, false, List, [], ◌∷◌, None, is_some, length, map, not, if◌then◌else◌}
use Rattle.std.specs.List.{filter}
use Rattle.std.specs.Option.{option_map_or}
use Rattle.indexmap.specs.IndexMap.{IndexMap, get}
use Rattle.dns_name.specs.Labels.{Labels}
use Rattle.dns_name.specs.Order.{name_eq}
use Rattle.ranked.specs.declared.find.Find.{Find}
use Rattle.ranked.specs.declared.find.Scope.{Scope}
use Rattle.ranked.specs.declared.find.Scope.TheVariants.{One, Whole}
use Rattle.cell_store.specs.declared.owner.KindColumn.{KindColumn}
use Rattle.cell_store.specs.declared.owner.OwnerCells.{OwnerCells}
pub use Rattle.cell_store.specs.Column.{has_find, is_counted}
use Rattle.cell_store.specs.Owner.{cell_in, column_of, HasSameCells, IsUpTo, KeepsSettling, KeepsUpTo}

-- 1 if it is so, else 0
abbrev pub one_if : Bool → ℕ
one_if b = if b then 1 else 0

-- the number of columns that count
abbrev pub count_kinds : List KindColumn → ℕ
count_kinds [] = 0
count_kinds (own ∷ kinds) = one_if (is_counted own.column) + count_kinds kinds

-- the number of places of a name that count
abbrev pub count_of : OwnerCells → ℕ
count_of cells = one_if (is_some cells.whole) + count_kinds cells.kinds.items

-- the columns that count
abbrev pub counted_kinds : List KindColumn → List KindColumn
counted_kinds kinds = filter (λ own. is_counted own.column) kinds

-- Each column of a name counts, unless a find of the whole name is cached: there a column without a find may hide that one.
abbrev pub IsTidy : OwnerCells → Type 0
IsTidy cells = cells.whole ≡ None → length cells.kinds.items ≤ count_of cells

-- Some place of a name counts, and the name is tidy.
abbrev pub IsInUse : OwnerCells → Type 0
IsInUse cells = (1 ≤ count_of cells) × IsTidy cells

-- the number of places of some names that count
abbrev pub count_entries : List (Labels × OwnerCells) → ℕ
count_entries [] = 0
count_entries (entry ∷ entries) = count_of entry.1 + count_entries entries

-- the number of places that count
abbrev pub stored_in : {S : Type 0} → IndexMap Labels OwnerCells S → ℕ
stored_in owners = count_entries owners.entries

-- whether the place of a find of this scope counts
abbrev pub has_place : OwnerCells → Scope → Bool
has_place cells (One kind) = option_map_or is_counted (column_of cells.kinds.items kind) false
has_place cells Whole = is_some cells.whole

-- whether the place of a find counts: that of its owner, and of its type or of the whole name
abbrev pub has_place_for : {S : Type 0} → IndexMap Labels OwnerCells S → Find → Bool
has_place_for owners find = option_map_or (λ cells. has_place cells find.scope) (get name_eq owners find.owner) false

-- The same places of a name count, and as many.
pub record HasSamePlaces (old new : OwnerCells) : Type 0 where
  pub count : count_of new ≡ count_of old
  pub places : (scope : Scope) → has_place new scope ≡ has_place old scope

-- Only columns without a find came or went: the cells of a name and the places that count are as before, and each flush that could become permanent with no memory still can.
pub record HasSameContent (old new : OwnerCells) : Type 0 where
  pub cells : HasSameCells old new
  pub places : HasSamePlaces old new
  pub settles : KeepsSettling old new

-- The same, and no admission has reached a version past this one.
pub record OpensColumns (top : ℕ) (old new : OwnerCells) : Type 0 where
  pub same : HasSameContent old new
  pub upto : IsUpTo top new

-- whether two scopes are the same
abbrev pub scope_eq : Scope → Scope → Bool
scope_eq (One kind) (One other) = kind == other
scope_eq (One kind) Whole = false
scope_eq Whole (One other) = false
scope_eq Whole Whole = true

-- The finds of one owner and scope share a place: their pair.
abbrev pub pair_of : Find → Labels × Scope
pair_of find = (find.owner, find.scope)

-- whether two pairs are the same
abbrev pub pair_eq : Labels × Scope → Labels × Scope → Bool
pair_eq a b = name_eq a.0 b.0 && scope_eq a.1 b.1

-- whether the place of a pair counts
abbrev pub has_pair : {S : Type 0} → IndexMap Labels OwnerCells S → Labels × Scope → Bool
has_pair owners pair = option_map_or (λ cells. has_place cells pair.1) (get name_eq owners pair.0) false

-- Each place of a name that counts did so before.
abbrev pub KeepsPlaces : OwnerCells → OwnerCells → Type 0
KeepsPlaces old new = (scope : Scope) → has_place new scope ≡ true → has_place old scope ≡ true

-- Each place of a name that counts did so before, or is that of an admission of this scope.
abbrev pub AddsPlace : Scope → OwnerCells → OwnerCells → Type 0
AddsPlace added old new = (scope : Scope) → has_place new scope ≡ true → (scope_eq added scope || has_place old scope) ≡ true

-- At most one place of a name more counts, and none but that of an admission of this scope. The name is tidy if it was.
pub record AddsAtMost (added : Scope) (old new : OwnerCells) : Type 0 where
  pub count : count_of new ≤ count_of old + one_if (not (has_place old added))
  pub places : AddsPlace added old new
  pub tidy : IsTidy old → IsTidy new

-- Each place that counts did so before.
abbrev pub KeepPairs : {S : Type 0} → IndexMap Labels OwnerCells S → IndexMap Labels OwnerCells S → Type 0
KeepPairs old new = (pair : Labels × Scope) → has_pair new pair ≡ true → has_pair old pair ≡ true

-- Each place that counts did so before, or is that of an admission of this pair.
abbrev pub AddPair : {S : Type 0} → Labels × Scope → IndexMap Labels OwnerCells S → IndexMap Labels OwnerCells S → Type 0
AddPair added old new = (pair : Labels × Scope) → has_pair new pair ≡ true → (pair_eq added pair || has_pair old pair) ≡ true

-- No place of a name counts that did not, and no more do than before. Admissions have reached no version past those that they had reached, and each flush that could become permanent with no memory still can.
pub record GainsNothing (old new : OwnerCells) : Type 0 where
  pub upto : KeepsUpTo old new
  pub settles : KeepsSettling old new
  pub count : count_of new ≤ count_of old
  pub places : KeepsPlaces old new

-- Finds of a name were dropped: the name gained nothing, and each cell is as before or empty.
pub record LosesFinds (old new : OwnerCells) : Type 0 where
  pub gains : GainsNothing old new
  pub cells : (kind v : ℕ) → (cell_in new kind v ≡ cell_in old kind v) ⊎ (cell_in new kind v ≡ None)

-- Finds of one type of a name were dropped: the name has the same columns in the same order, and the others are as before.
pub record LosesFindsOf (kind : ℕ) (old new : OwnerCells) : Type 0 where
  pub others : (k : ℕ) → (kind == k) ≡ false → column_of new.kinds.items k ≡ column_of old.kinds.items k
  pub kinds : map (λ own. own.kind) new.kinds.items ≡ map (λ own. own.kind) old.kinds.items
  pub whole : new.whole ≡ old.whole
  pub lost : LosesFinds old new
