-- The finds of a name are alive before its first end: lemmas.
use Rattle.std.proofs.Common.{◌≡◌, ℕ, ◌+◌, ◌<◌, ◌≤◌, Bool, true, false, cond, min, Option, Some, None, List, [], ◌∷◌, refl, ap, arith}
use Rattle.std.specs.Prelude.{fold, nat_le, nat_lt, ◌==◌, not, is_some, IfSome}
use Rattle.std.specs.List.{AllByRecursion}
use Rattle.std.proofs.lemmas.Bool.{false≢true}
use Rattle.std.proofs.lemmas.Bool.Decides.{nat_tests}
use Rattle.ranked.specs.declared.find.Find.{Find}
use Rattle.ranked.specs.declared.cell.Admitted.{Admitted}
use Rattle.ranked.specs.Cell.{is_alive}
use Rattle.cell_store.specs.declared.version.Place.{Place}
use Rattle.cell_store.specs.declared.version.Version.{Version}
use Rattle.cell_store.specs.declared.owner.KindColumn.{KindColumn}
use Rattle.cell_store.specs.declared.owner.WholeFind.{WholeFind}
use Rattle.cell_store.specs.declared.owner.OwnerCells.{OwnerCells}
use Rattle.cell_store.specs.Version.{nothing, later_place, place_at}
use Rattle.cell_store.specs.Column.{Cells, place_in}
use Rattle.cell_store.specs.Owner.{cell_in, column_of, column_held, whole_cell, whole_held}
use Rattle.cell_store.specs.Sweep.{alive_at, is_dead}
use Rattle.cell_store.specs.Ends.{cell_end, earlier, first_end, kind_earlier, latest, name_end}

-- ---- a cell

alive_of : {B : Type 0} (held : Admitted B) (t : ℕ) → t < cell_end (Some held) → is_alive held t ≡ true
alive_of held t before = split (held.ttl == 0) refl before
  where
    split : (b : Bool) → (held.ttl == 0) ≡ b → t < cond b 0 (min (held.since + held.ttl) latest) → is_alive held t ≡ true
    split true none low = absurd (omega arith)
    split false some low = grind (arith, nat_tests)

-- A cell has no find that is dead at a moment.
abbrev pub HasNoneDead : ℕ → Option (Admitted Find) → Type 0
HasNoneDead t held = IfSome held (λ h. is_alive h t ≡ true)

alive_held : (held : Option (Admitted Find)) (t : ℕ) → t < cell_end held → HasNoneDead t held
alive_held None t before = tt
alive_held (Some held) t before = alive_of held t before

-- ---- a column

early : {B : Type 0} (versions : List (Version B)) (end t : ℕ) → t < fold earlier end versions → (t < end) × AllByRecursion (λ (x : Version B). t < cell_end x.place.cell.held) versions
early [] end t before = (before, tt)
early (x ∷ versions) end t before =
    let rest = early versions (earlier end x) t before in
    let both : t < min end (cell_end x.place.cell.held) = rest.0 in
    (omega arith, (omega arith, rest.1))

place_alive : (versions : List (Version Find)) (place : Place Find) (v t : ℕ) → AllByRecursion (λ (x : Version Find). t < cell_end x.place.cell.held) versions → HasNoneDead t place.cell.held → HasNoneDead t (fold (later_place v) place versions).cell.held
place_alive [] place v t all was = was
place_alive (x ∷ versions) place v t all was = place_alive versions (later_place v place x) v t all.1 (split (nat_le x.from v))
  where
    split : (b : Bool) → HasNoneDead t (cond b x.place place).cell.held
    split true = alive_held x.place.cell.held t all.0
    split false = was

column_alive : (column : Cells) (v t : ℕ) → t < first_end column.versions → HasNoneDead t (place_in column v).cell.held
column_alive column v t before = split (nat_lt column.upto v)
  where
    split : (b : Bool) → HasNoneDead t (cond b nothing (place_at column.versions v)).cell.held
    split true = tt
    split false = place_alive column.versions nothing v t (early column.versions latest t before).1 tt

-- ---- a name

early_kinds : (kinds : List KindColumn) (end t : ℕ) → t < fold kind_earlier end kinds → (t < end) × AllByRecursion (λ own. t < first_end own.column.versions) kinds
early_kinds [] end t before = (before, tt)
early_kinds (x ∷ kinds) end t before =
    let rest = early_kinds kinds (kind_earlier end x) t before in
    let both : t < min end (first_end x.column.versions) = rest.0 in
    (omega arith, (omega arith, rest.1))

early_column : (kinds : List KindColumn) (k t : ℕ) → AllByRecursion (λ own. t < first_end own.column.versions) kinds → IfSome (column_of kinds k) (λ column. t < first_end column.versions)
early_column [] k t all = tt
early_column (x ∷ kinds) k t all = split (x.kind == k) (early_column kinds k t all.1)
  where
    split : (b : Bool) → IfSome (column_of kinds k) (λ column. t < first_end column.versions) → IfSome (cond b (Some x.column) (column_of kinds k)) (λ column. t < first_end column.versions)
    split true rest = all.0
    split false rest = rest

whole_alive : (whole : Option WholeFind) (v t : ℕ) → HasNoneDead t (whole_cell whole) → HasNoneDead t (whole_held whole v)
whole_alive None v t was = tt
whole_alive (Some whole) v t was = split (nat_lt whole.upto v)
  where
    split : (b : Bool) → HasNoneDead t (cond b None (whole_cell (Some whole)))
    split true = tt
    split false = was

held_alive : (whole : Option WholeFind) (column : Option Cells) (v t : ℕ) → HasNoneDead t (whole_cell whole) → IfSome column (λ cells. t < first_end cells.versions) → HasNoneDead t (column_held whole column v)
held_alive whole None v t was before = whole_alive whole v t was
held_alive whole (Some column) v t was before = split (place_in column v).left
  where
    split : (l : Bool) → HasNoneDead t (cond l (whole_cell whole) (place_in column v).cell.held)
    split true = was
    split false = column_alive column v t before

-- The cells of a name have no dead find before its first end.
pub alive_before : (cells : OwnerCells) (t : ℕ) → t < name_end cells → (k v : ℕ) → HasNoneDead t (cell_in cells k v)
alive_before cells t before k v =
    let all = early_kinds cells.kinds.items (cell_end (whole_cell cells.whole)) t before in
    held_alive cells.whole (column_of cells.kinds.items k) v t (alive_held (whole_cell cells.whole) t all.0) (early_column cells.kinds.items k t all.1)

not_dead : (whole : Option WholeFind) (t : ℕ) → HasNoneDead t (whole_cell whole) → is_dead t whole ≡ false
not_dead None t alive = refl
not_dead (Some whole) t alive = ap not alive

-- Nor is the find of the whole name dead then.
pub whole_before : (cells : OwnerCells) (t : ℕ) → t < name_end cells → is_dead t cells.whole ≡ false
whole_before cells t before = not_dead cells.whole t (alive_held (whole_cell cells.whole) t (early_kinds cells.kinds.items (cell_end (whole_cell cells.whole)) t before).0)

-- ---- a moment earlier

-- A find that is alive at a moment was alive before.
pub alive_earlier : (held : Option (Admitted Find)) (t s : ℕ) → t ≤ s → is_some (alive_at s held) ≡ true → is_some (alive_at t held) ≡ true
alive_earlier None t s low is = is
alive_earlier (Some held) t s low is = split (is_alive held s) refl is
  where
    split : (b : Bool) → is_alive held s ≡ b → is_some (cond b (Some held) None) ≡ true → is_some (cond (is_alive held t) (Some held) None) ≡ true
    split true alive some = let was : is_alive held t ≡ true = grind (arith, nat_tests) in ap (λ b. is_some (cond b (Some held) None)) was
    split false dead none = absurd (false≢true none)

-- The find of the whole name that is not dead at a moment was not dead before.
pub whole_earlier : (whole : Option WholeFind) (t s : ℕ) → t ≤ s → is_dead s whole ≡ false → is_dead t whole ≡ false
whole_earlier None t s low is = refl
whole_earlier (Some whole) t s low is = grind (arith, nat_tests)

-- A find is alive at a moment, if its cell has none that is dead then.
pub some_alive : (held : Option (Admitted Find)) (t s : ℕ) → HasNoneDead t held → is_some (alive_at s held) ≡ true → is_some (alive_at t held) ≡ true
some_alive None t s none is = is
some_alive (Some held) t s none is = ap (λ b. is_some (cond b (Some held) None)) none
