-- Names of which no place counts: no version of them has a find, so they can go.
use Rattle.std.proofs.Common.{◌≡◌, ℕ, zero, suc, ◌<◌, Bool, true, false, cond, Option, Some, None, List, [], ◌∷◌, length, get_or, slice_get, refl, sym, ap, ◌∙◌, subst, arith, inl, inr}
use Rattle.std.specs.Prelude.{◌==◌, ◌||◌, fold, is_some, nat_le, nat_lt, IfSome, swap_remove}
use Rattle.std.specs.List.{list_any}
use Rattle.std.specs.Option.{option_map_or}
use Rattle.std.proofs.lemmas.Bool.{cases_Bool}
use Rattle.indexmap.specs.IndexMap.{IndexMap, get, Updates}
use Rattle.dns_name.specs.Labels.{Labels}
use Rattle.dns_name.specs.Order.{name_eq, name_eq_exact}
use Rattle.cell_store.specs.declared.version.Place.{Place}
use Rattle.cell_store.specs.declared.version.Version.{Version}
use Rattle.cell_store.specs.declared.owner.KindColumn.{KindColumn}
use Rattle.cell_store.specs.declared.owner.WholeFind.{WholeFind}
use Rattle.cell_store.specs.declared.owner.OwnerCells.{OwnerCells}
use Rattle.cell_store.specs.Version.{nothing, later_place, place_at}
use Rattle.cell_store.specs.Column.{Cells, place_in, has_find, is_counted}
use Rattle.cell_store.specs.Owner.{cell_in, column_held, column_of}
use Rattle.cell_store.specs.Count.{count_entries, count_kinds, count_of, one_if}
use Rattle.cell_store.specs.Store.{cell_by_owner, cell_of, AreLeft, AreSameCells}
use Rattle.cell_store.proofs.CountLaws.{count_swap}
use Rattle.cell_store.proofs.StoreLaws.{forgot_cells}

-- ---- a name without a counted place has no find

or_left_false : (a b : Bool) → (a || b) ≡ false → a ≡ false
or_left_false true b is = is
or_left_false false b is = refl

or_right_false : (a b : Bool) → (a || b) ≡ false → b ≡ false
or_right_false true b is = absurd cc
or_right_false false b is = is

none_of : {A : Type 0} (o : Option A) → is_some o ≡ false → o ≡ None
none_of None is = refl
none_of (Some a) is = absurd cc

fold_empty : {B : Type 0} (v : ℕ) (versions : List (Version B)) (place : Place B) → place.cell.held ≡ None → list_any has_find versions ≡ false
    → (fold (later_place v) place versions).cell.held ≡ None
fold_empty v [] place none off = none
fold_empty {B} v (x ∷ versions) place none off =
    fold_empty v versions (later_place v place x) (pick (nat_le x.from v)) (or_right_false (has_find x) (list_any has_find versions) off)
  where
    pick : (b : Bool) → (cond b x.place place).cell.held ≡ None
    pick true = none_of x.place.cell.held (or_left_false (has_find x) (list_any has_find versions) off)
    pick false = none

place_empty : (cells : Cells) (v : ℕ) → is_counted cells ≡ false → (place_in cells v).cell.held ≡ None
place_empty cells v off = pick (nat_lt cells.upto v)
  where
    pick : (b : Bool) → (cond b nothing (place_at cells.versions v)).cell.held ≡ None
    pick true = refl
    pick false = fold_empty v cells.versions nothing refl off

pub column_empty : (column : Option Cells) (v : ℕ) → option_map_or is_counted column false ≡ false → column_held None column v ≡ None
column_empty None v off = refl
column_empty (Some cells) v off = pick (place_in cells v).left
  where
    pick : (b : Bool) → cond b None (place_in cells v).cell.held ≡ None
    pick true = refl
    pick false = place_empty cells v off

one_off : (b : Bool) → one_if b ≡ 0 → b ≡ false
one_off true is = absurd (omega (arith, is))
one_off false is = refl

columns_off : (kinds : List KindColumn) (k : ℕ) → count_kinds kinds ≡ 0 → option_map_or is_counted (column_of kinds k) false ≡ false
columns_off [] k none = refl
columns_off (x ∷ kinds) k none = elim (cases_Bool (x.kind == k)) [
  | inl here ↦
      ap (λ b. option_map_or is_counted (cond b (Some x.column) (column_of kinds k)) false) here ∙ one_off (is_counted x.column) (omega (arith, none))
  | inr gone ↦
      ap (λ b. option_map_or is_counted (cond b (Some x.column) (column_of kinds k)) false) gone ∙ columns_off kinds k (omega (arith, none))
]

-- no version of a name has a find, if no place of the name counts
pub uncounted_cell : (cells : OwnerCells) (k v : ℕ) → count_of cells ≡ 0 → cell_in cells k v ≡ None
uncounted_cell cells k v none = split cells.whole refl
  where
    split : (w : Option WholeFind) → cells.whole ≡ w → column_held cells.whole (column_of cells.kinds.items k) v ≡ None
    split None is =
        ap (λ (w : Option WholeFind). column_held w (column_of cells.kinds.items k) v) is
        ∙ column_empty (column_of cells.kinds.items k) v (columns_off cells.kinds.items k (omega (arith, none)))
    split (Some w) is = absurd (omega (arith, none, ap (λ (o : Option WholeFind). one_if (is_some o)) is))

-- ---- such a name is removed

module _ {S : Type 0} (old new : IndexMap Labels OwnerCells S) (owner : Labels) (cells : OwnerCells) (updates : Updates name_eq old new owner None)
    (found : get name_eq old owner ≡ Some cells) (none : count_of cells ≡ 0) where
  pub dropped_cells : AreSameCells old new
  dropped_cells q v = forgot_cells old new owner updates q v ∙ split (name_eq owner q.owner) refl
    where
      split : (b : Bool) → name_eq owner q.owner ≡ b → cond b None (cell_of old q v) ≡ cell_of old q v
      split true same =
          sym (ap (λ (n : Labels). cell_by_owner (get name_eq old n) q.kind v) (sym (name_eq_exact owner q.owner same))
          ∙ (ap (λ (o : Option OwnerCells). cell_by_owner o q.kind v) found ∙ uncounted_cell cells q.kind v none))
      split false apart = refl

pub left_removed : {S : Type 0} (old new : IndexMap Labels OwnerCells S) (owner : Labels) → Updates name_eq old new owner None → AreLeft old new
left_removed old new owner updates name =
    subst (λ (o : Option OwnerCells). IfSome o (λ cells. get name_eq old name ≡ Some cells)) (sym (updates.0 name)) (split (name_eq owner name))
  where
    all : (o : Option OwnerCells) → IfSome o (λ cells. o ≡ Some cells)
    all None = tt
    all (Some cells) = refl

    split : (b : Bool) → IfSome (cond b None (get name_eq old name)) (λ cells. get name_eq old name ≡ Some cells)
    split true = tt
    split false = all (get name_eq old name)

pub left_same : {S : Type 0} (owners : IndexMap Labels OwnerCells S) → AreLeft owners owners
left_same owners name = all (get name_eq owners name)
  where
    all : (o : Option OwnerCells) → IfSome o (λ cells. o ≡ Some cells)
    all None = tt
    all (Some cells) = refl

-- ---- a name is removed

-- the entry at a place
pub low_at : {X : Type 0} (xs : List X) (i : ℕ) (x : X) → slice_get xs i ≡ Some x → i < length xs
low_at [] i x is = let none : None ≡ Some x = is in absurd cc
low_at (y ∷ xs) zero x is = omega arith
low_at (y ∷ xs) (suc i) x is = omega (arith, low_at xs i x is)

pub read_at : {X : Type 0} (xs : List X) (i : ℕ) (x d : X) → slice_get xs i ≡ Some x → get_or xs i d ≡ x
read_at [] i x d is = let none : None ≡ Some x = is in absurd cc
read_at (y ∷ xs) zero x d is = let there : Some y ≡ Some x = is in cc
read_at (y ∷ xs) (suc i) x d is = read_at xs i x d is

pub count_dropped : (entries : List (Labels × OwnerCells)) (place : ℕ) (key : Labels) (cells : OwnerCells) → slice_get entries place ≡ Some (key, cells) → count_of cells ≡ 0
    → count_entries (swap_remove entries place (key, cells)) ≡ count_entries entries
count_dropped entries place key cells at none =
    omega (arith, count_swap entries place (key, cells) (low_at entries place (key, cells) at), none, ap (λ (e : Labels × OwnerCells). count_of e.1) (read_at entries place (key, cells) (key, cells) at))
