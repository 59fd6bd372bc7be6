-- The sweep: the content of cells after it.
use Rattle.std.specs.Prelude.{◌≡◌, ℕ, ◌-◌, ◌==◌, Bool, true, false, not, nat_lt, List, Option, Some, None, is_some, if◌then◌else◌}
use Rattle.ranked.specs.declared.cell.Admitted.{Admitted}
use Rattle.ranked.specs.Cell.{is_alive}
use Rattle.cell_store.specs.declared.version.Place.{Place}
use Rattle.cell_store.specs.declared.version.Version.{Version}
use Rattle.ranked.specs.declared.find.Scope.TheVariants.{One}
use Rattle.cell_store.specs.declared.owner.OwnerCells.{OwnerCells}
use Rattle.cell_store.specs.declared.owner.WholeFind.{WholeFind}
use Rattle.cell_store.specs.Version.{own, whole}
use Rattle.cell_store.specs.Column.{Cells, place_in}
use Rattle.cell_store.specs.Prune.{is_asked}
use Rattle.cell_store.specs.Owner.{cell_in}
use Rattle.cell_store.specs.Count.{has_place}

-- the content of a cell, if it is alive at a moment
abbrev pub alive_at : {B : Type 0} → ℕ → Option (Admitted B) → Option (Admitted B)
alive_at t None = None
alive_at t (Some held) = if is_alive held t then Some held else None

-- a place without a find that is dead at a moment
abbrev pub swept : {B : Type 0} → ℕ → Place B → Place B
swept t place = if place.left then whole else own (alive_at t place.cell.held)

-- an entry without a find that is dead at a moment
abbrev pub version_swept : {B : Type 0} → ℕ → Version B → Version B
version_swept t version = record { from = version.from; place = swept t version.place }

-- Each version of a column has its old content without a find that is dead at a moment, and admissions have reached the same versions.
abbrev pub IsSweptColumn : ℕ → Cells → Cells → Type 0
IsSweptColumn t old new = ((v : ℕ) → place_in new v ≡ swept t (place_in old v)) × (new.upto ≡ old.upto)

-- If a type had a column, that column is swept now. If it had none, it has none now.
abbrev pub IsSweptKind : ℕ → Option Cells → Option Cells → Type 0
IsSweptKind t None None = Unit {0}
IsSweptKind t (Some old) (Some new) = IsSweptColumn t old new
IsSweptKind t _ _ = ⊥

-- A version in use has a find.
abbrev pub IsSeenAt : List ℕ → Cells → Type 0
IsSeenAt numbers cells = (v : ℕ) × ((is_asked numbers v ≡ true) × (is_some (place_in cells v).cell.held ≡ true))

-- What is alive at a moment is the same in each version of each cell of a name.
abbrev pub HasSameAlive : ℕ → OwnerCells → OwnerCells → Type 0
HasSameAlive t old new = (kind v : ℕ) → alive_at t (cell_in new kind v) ≡ alive_at t (cell_in old kind v)

-- What is alive at a moment is the same in the versions in use of the cells of one type, and in each version of the other cells.
abbrev pub KeepsAlive : ℕ → List ℕ → ℕ → OwnerCells → OwnerCells → Type 0
KeepsAlive kind numbers t old new = (k v : ℕ) → ((kind == k) ≡ true → is_asked numbers v ≡ true) → alive_at t (cell_in new k v) ≡ alive_at t (cell_in old k v)

-- If the place of a type counts, a version in use has a find that is alive at a moment.
abbrev pub IsSeenAlive : ℕ → List ℕ → ℕ → OwnerCells → Type 0
IsSeenAlive kind numbers t cells =
    has_place cells (One kind) ≡ true → (v : ℕ) × ((is_asked numbers v ≡ true) × (is_some (alive_at t (cell_in cells kind v)) ≡ true))

-- whether the find of the whole name is dead at a moment
abbrev pub is_dead : ℕ → Option WholeFind → Bool
is_dead t None = false
is_dead t (Some whole) = not (nat_lt (t - whole.since) whole.find.ttl)

-- the find of the whole name, if it is alive at a moment
abbrev pub whole_swept : ℕ → Option WholeFind → Option WholeFind
whole_swept t whole = if is_dead t whole then None else whole
