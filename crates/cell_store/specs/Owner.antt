-- The cells of one name: a find of the whole name, and columns by type.
use Rattle.std.specs.Prelude.{◌≡◌, ℕ, ◌<◌, ◌≤◌, ◌+◌, ◌==◌, max, Bool, true, false, List, [], ◌∷◌, Option, Some, None, Result, IfSome, OnErr, length, map, nat_eq, nat_lt, slice_index_or, if◌then◌else◌}
use Rattle.std.specs.List.{AllByRecursion, IsDistinct, list_any}
use Rattle.std.specs.Option.{option_map}
use Rattle.std.specs.Borrow.{Bor}
use Rattle.ranked.specs.declared.cell.Shown.{Shown}
use Rattle.ranked.specs.Cell.{shown_map}
use Rattle.ranked.specs.declared.find.Find.{Find}
use Rattle.ranked.specs.declared.find.Scope.TheVariants.{One, Whole}
use Rattle.ranked.specs.declared.cell.Admitted.{Admitted}
use Rattle.ranked.specs.Cell.{after_admission}
use Rattle.ranked.specs.Find.{admission_of, has_kind}
use Rattle.cell_store.specs.declared.version.Place.{Place}
use Rattle.cell_store.specs.declared.owner.KindColumn.{KindColumn}
use Rattle.cell_store.specs.declared.owner.WholeFind.{WholeFind}
use Rattle.cell_store.specs.declared.owner.OwnerCells.{OwnerCells}
use Rattle.cell_store.specs.Column.{Cells, place_in, is_counted}

-- the column of a type
abbrev pub column_of : List KindColumn → ℕ → Option Cells
column_of [] kind = None
column_of (own ∷ kinds) kind = if own.kind == kind then Some own.column else column_of kinds kind

-- the find of the whole name, as a cell
abbrev pub whole_cell : Option WholeFind → Option (Admitted Find)
whole_cell None = None
whole_cell (Some whole) = Some (admission_of whole.find whole.find whole.since)

-- the find of the whole name in a version, as a cell; versions opened after its admission do not have it
abbrev pub whole_held : Option WholeFind → ℕ → Option (Admitted Find)
whole_held None v = None
whole_held (Some whole) v = if nat_lt whole.upto v then None else Some (admission_of whole.find whole.find whole.since)

-- the content of a cell by its place, which may refer to the find of the whole name
abbrev pub place_held : Option (Admitted Find) → Place Find → Option (Admitted Find)
place_held whole place = if place.left then whole else place.cell.held

-- the cell of a type in a version, by the find of the whole name and the column of the type
abbrev pub column_held : Option WholeFind → Option Cells → ℕ → Option (Admitted Find)
column_held whole None v = whole_held whole v
column_held whole (Some cells) v = place_held (whole_cell whole) (place_in cells v)

-- the cell of a type in a version
abbrev pub cell_in : OwnerCells → ℕ → ℕ → Option (Admitted Find)
cell_in cells kind v = column_held cells.whole (column_of cells.kinds.items kind) v

-- The find of the whole name has reached no version past this one.
abbrev pub IsWholeUpTo : ℕ → Option WholeFind → Type 0
IsWholeUpTo top None = Unit {0}
IsWholeUpTo top (Some whole) = whole.upto ≤ top

-- A version has the find of the whole name, if there is one.
abbrev pub IsWholeIn : Option WholeFind → ℕ → Type 0
IsWholeIn None v = Unit {0}
IsWholeIn (Some whole) v = v ≤ whole.upto

-- A column refers to the find of the whole name only in versions that have it. If there is none, such a place is empty.
abbrev pub IsLeftWithin : Option WholeFind → Cells → Type 0
IsLeftWithin whole cells = (v : ℕ) → (place_in cells v).left ≡ true → IsWholeIn whole v

-- A column has finds of its own type only.
abbrev pub IsOwn : ℕ → Cells → Type 0
IsOwn kind cells = (v : ℕ) → IfSome (place_in cells v).cell.held (λ held. held.body.scope ≡ One kind)

-- No admission to a name has reached a version past this one, and columns refer to the find of the whole name only where it is. Each type has one column. Each find is where its scope says.
pub record IsUpTo (top : ℕ) (cells : OwnerCells) : Type 0 where
  pub whole : IsWholeUpTo top cells.whole
  pub kinds : AllByRecursion (λ own. own.column.upto ≤ top) cells.kinds.items
  pub left : AllByRecursion (λ own. IsLeftWithin cells.whole own.column) cells.kinds.items
  pub once : IsDistinct nat_eq (map (λ own. own.kind) cells.kinds.items)
  pub wide : IfSome cells.whole (λ whole. whole.find.scope ≡ Whole)
  pub own : AllByRecursion (λ own. IsOwn own.kind own.column) cells.kinds.items

-- No admission to a name has reached a version past some one.
abbrev pub HasTop : OwnerCells → Type 0
HasTop cells = (top : ℕ) × IsUpTo top cells

-- It is the first place of a column of this type.
pub record IsPlaceOf (kinds : List KindColumn) (kind place : ℕ) : Type 0 where
  pub low : place < length kinds
  pub here : (d : KindColumn) → (slice_index_or kinds place d).kind ≡ kind
  pub before : (i : ℕ) (d : KindColumn) → i < place → ((slice_index_or kinds i d).kind == kind) ≡ false

-- a borrowed answer, with the find itself
abbrev pub held_now : Option (Shown (Bor Find)) → Option (Shown Find)
held_now held = option_map (shown_map (λ find. find.now)) held

-- A flush of a type can become permanent with no memory: the type has a column, or no find of the whole name is older than the flush.
abbrev pub CanSettleColumn : ℕ → Option WholeFind → Option Cells → Type 0
CanSettleColumn number (Some whole) None = number ≤ whole.upto
CanSettleColumn number _ _ = Unit {0}

-- A flush of a type of a name can become permanent with no memory.
abbrev pub CanSettle : ℕ → ℕ → OwnerCells → Type 0
CanSettle number kind cells = CanSettleColumn number cells.whole (column_of cells.kinds.items kind)

-- Every flush of a type that could become permanent with no memory still can.
abbrev pub KeepsSettling : OwnerCells → OwnerCells → Type 0
KeepsSettling old new = (number kind : ℕ) → CanSettle number kind old → CanSettle number kind new

-- Admissions have reached no version past those that they had reached.
abbrev pub KeepsUpTo : OwnerCells → OwnerCells → Type 0
KeepsUpTo old new = (top : ℕ) → IsUpTo top old → IsUpTo top new

-- Each cell of a name has the same content in every version.
abbrev pub HasSameCells : OwnerCells → OwnerCells → Type 0
HasSameCells old new = (kind v : ℕ) → cell_in new kind v ≡ cell_in old kind v

-- The column of a type before and after a flush becomes permanent.
abbrev pub IsSettled : ℕ → KindColumn → KindColumn → Type 0
IsSettled number old new = (new.kind ≡ old.kind) × (new.column.upto ≡ old.column.upto) × ((v : ℕ) → place_in new.column v ≡ place_in old.column (max number v)) × (is_counted new.column ≡ true → is_counted old.column ≡ true)

-- the find of the whole name, once a flush is permanent
abbrev pub whole_settled : ℕ → Option WholeFind → Option WholeFind
whole_settled number None = None
whole_settled number (Some whole) = if nat_lt whole.upto number then None else Some whole

-- the content of a cell after an admission, if the find is about its question
abbrev pub after_touch : {B : Type 0} → Bool → Option (Admitted B) → Admitted B → Option (Admitted B)
after_touch touched cell new = if touched then after_admission cell new else cell

-- A find was admitted to a name: each version up to this one has it for each type that it is about, unless the content there outranks it.
abbrev pub HasAdmission : ℕ → Find → ℕ → OwnerCells → OwnerCells → Type 0
HasAdmission top find moment old new =
    (kind v : ℕ) → v ≤ top → cell_in new kind v ≡ after_touch (has_kind find.scope kind) (cell_in old kind v) (admission_of find find moment)

-- the version whose content a version gets when a flush becomes permanent: its own, or that of the flush if it is older
abbrev pub after_settle : Bool → ℕ → ℕ → ℕ
after_settle covered number v = if covered then max number v else v

-- A find of one type was admitted to a name: each version up to this one has it, unless the content there outranks it.
abbrev pub HasKindAdmission : ℕ → ℕ → Find → ℕ → OwnerCells → OwnerCells → Type 0
HasKindAdmission top kind find moment old new =
    (k v : ℕ) → v ≤ top → cell_in new k v ≡ after_touch (kind == k) (cell_in old k v) (admission_of find find moment)

-- A flush of some types is permanent: each version of their cells before it has the content of the flush's own version.
abbrev pub SettlesKinds : List ℕ → ℕ → OwnerCells → OwnerCells → Type 0
SettlesKinds kinds number old new = (k v : ℕ) → cell_in new k v ≡ cell_in old k (after_settle (list_any (λ kind. kind == k) kinds) number v)

-- In each version a column has the content of a type that has no column.
abbrev pub HasWholeAlone : Option WholeFind → Cells → Type 0
HasWholeAlone whole column = (v : ℕ) → place_held (whole_cell whole) (place_in column v) ≡ whole_held whole v

-- There is at most one more than before, and after an error there are as many as before.
abbrev pub GrowsByOne : {X E : Type 0} → Result X E → ℕ → ℕ → Type 0
GrowsByOne result old new = (new ≤ old + 1) × OnErr result (new ≡ old)
