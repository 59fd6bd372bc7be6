-- A name whose columns have one entry each.
use Rattle.std.proofs.Common.{◌≡◌, ℕ, zero, suc, ◌+◌, ◌<◌, ◌≤◌, Bool, true, false, cond, Option, Some, None, List, [], ◌∷◌, length, get_or, take, refl, sym, ap, ◌∙◌, subst, arith, ◌⊎◌, inl, inr}
use Rattle.std.specs.Prelude.{◌==◌, ◌||◌, nat_le, nat_lt, is_some, IfSome}
use Rattle.std.specs.List.{AllByRecursion, list_any}
use Rattle.std.proofs.lemmas.Bool.{false≢true}
use Rattle.std.proofs.lemmas.Bool.Decides.{nat_tests}
use Rattle.std.proofs.Math.Bool.{or-false}
use Rattle.ranked.specs.declared.find.Find.{Find}
use Rattle.ranked.specs.declared.cell.Admitted.{Admitted}
use Rattle.cell_store.specs.declared.version.Place.{Place}
use Rattle.cell_store.specs.declared.version.Version.{Version}
use Rattle.cell_store.specs.declared.owner.KindColumn.{KindColumn}
use Rattle.cell_store.specs.declared.owner.WholeFind.{WholeFind}
use Rattle.cell_store.specs.declared.owner.OwnerCells.{OwnerCells}
use Rattle.cell_store.specs.Version.{nothing, place_at, IsFromStart}
use Rattle.cell_store.specs.Column.{Cells, place_in, has_find, is_counted}
use Rattle.cell_store.specs.Few.{contents, DoDiffer}
use Rattle.cell_store.specs.Owner.{column_held, column_of, place_held, whole_cell, whole_held}
use Rattle.cell_store.specs.Mixed.{is_mixed, IsEven, IsLikeFirst}
use Rattle.cell_store.specs.TestLaws.{not_past, neither, or_right}

-- ---- a column

at_start : (from v : ℕ) → from ≡ 0 → nat_le from v ≡ true
at_start from v start = grind (arith, nat_tests)

two_many : {A : Type 0} (x y : A) (xs : List A) → nat_lt 1 (length (x ∷ y ∷ xs)) ≡ false → ⊥
two_many x y xs is = let more : nat_lt 1 (length (x ∷ y ∷ xs)) ≡ true = grind (arith, nat_tests) in false≢true (sym is ∙ more)

one_place : (upto : ℕ) (versions : List (Version Find)) → IsFromStart versions → nat_lt 1 (length versions) ≡ false → (v : ℕ) → v ≤ upto → cond (nat_lt upto v) nothing (place_at versions v) ≡ cond (nat_lt upto 0) nothing (place_at versions 0)
one_place upto [] starts few v low = absurd starts
one_place upto (x ∷ []) starts few v low =
    ap (λ b. cond b nothing (cond (nat_le x.from v) x.place nothing)) (not_past v upto low)
    ∙ (ap (λ b. cond b x.place nothing) (at_start x.from v starts)
    ∙ sym (ap (λ b. cond b nothing (cond (nat_le x.from 0) x.place nothing)) (not_past 0 upto (omega arith)) ∙ ap (λ b. cond b x.place nothing) (at_start x.from 0 starts)))
one_place upto (x ∷ y ∷ versions) starts few v low = absurd (two_many x y versions few)

pub even_one : (cells now : Cells) → cells ≡ now → IsFromStart cells.versions → is_mixed now ≡ false → IsEven now
even_one cells now view starts few =
    subst (λ (c : Cells). is_mixed c ≡ false → IsEven c) view (λ one v low. one_place cells.upto cells.versions starts one v low) few

-- version 0 has the find of the one entry
one_find : (upto : ℕ) (versions : List (Version Find)) → IsFromStart versions → nat_lt 1 (length versions) ≡ false → list_any has_find versions ≡ true → is_some (cond (nat_lt upto 0) nothing (place_at versions 0)).cell.held ≡ true
one_find upto [] starts few some = absurd starts
one_find upto (x ∷ []) starts few some =
    ap (λ b. is_some (cond b nothing (cond (nat_le x.from 0) x.place nothing)).cell.held) (not_past 0 upto (omega arith))
    ∙ (ap (λ b. is_some (cond b x.place nothing).cell.held) (at_start x.from 0 starts) ∙ (sym (or-false (has_find x)) ∙ some))
one_find upto (x ∷ y ∷ versions) starts few some = absurd (two_many x y versions few)

pub one_seen : (cells : Cells) → IsFromStart cells.versions → is_mixed cells ≡ false → is_counted cells ≡ true → is_some (place_in cells 0).cell.held ≡ true
one_seen cells starts few some = one_find cells.upto cells.versions starts few some

-- one entry has no neighbour
pub one_differs : (versions : List (Version ℕ)) → nat_lt 1 (length versions) ≡ false → DoDiffer (contents versions)
one_differs [] few = tt
one_differs (x ∷ []) few = refl
one_differs (x ∷ y ∷ versions) few = absurd (two_many x y versions few)

-- ---- the columns of a name

none_next : (kinds : List KindColumn) (i : ℕ) (own : KindColumn) → i < length kinds → list_any (λ (own : KindColumn). is_mixed own.column) (take i kinds) ≡ false → is_mixed (get_or kinds i own).column ≡ false
    → list_any (λ (own : KindColumn). is_mixed own.column) (take (suc i) kinds) ≡ false
none_next [] i own low none is = absurd (omega arith)
none_next (x ∷ kinds) zero own low none is = ap (λ b. b || false) is
none_next (x ∷ kinds) (suc i) own low none is =
    let parts = neither (is_mixed x.column) (list_any (λ (own : KindColumn). is_mixed own.column) (take i kinds)) none in
    ap (λ b. b || list_any (λ (own : KindColumn). is_mixed own.column) (take (suc i) kinds)) parts.0 ∙ none_next kinds i own (omega arith) parts.1 is

some_at : (kinds : List KindColumn) (i : ℕ) (own : KindColumn) → i < length kinds → is_mixed (get_or kinds i own).column ≡ true → list_any (λ (own : KindColumn). is_mixed own.column) kinds ≡ true
some_at [] i own low is = absurd (omega arith)
some_at (x ∷ kinds) zero own low is = ap (λ b. b || list_any (λ (own : KindColumn). is_mixed own.column) kinds) is
some_at (x ∷ kinds) (suc i) own low is = or_right (is_mixed x.column) (list_any (λ (own : KindColumn). is_mixed own.column) kinds) (some_at kinds i own (omega arith) is)

even_next : (kinds : List KindColumn) (i : ℕ) (own : KindColumn) → i < length kinds → AllByRecursion (λ (own : KindColumn). IsEven own.column) (take i kinds) → IsEven (get_or kinds i own).column
    → AllByRecursion (λ (own : KindColumn). IsEven own.column) (take (suc i) kinds)
even_next [] i own low all is = absurd (omega arith)
even_next (x ∷ kinds) zero own low all is = (is, tt)
even_next (x ∷ kinds) (suc i) own low all is = (all.0, even_next kinds i own (omega arith) all.1 is)

pub record AreOne (kinds : List KindColumn) : Type 0 where
  pub none : list_any (λ (own : KindColumn). is_mixed own.column) kinds ≡ false
  pub even : AllByRecursion (λ (own : KindColumn). IsEven own.column) kinds

pub one_next : (kinds : List KindColumn) (i : ℕ) (own : KindColumn) → i < length kinds → own ≡ get_or kinds i own → AreOne (take i kinds) → is_mixed own.column ≡ false → IsEven own.column → AreOne (take (i + 1) kinds)
one_next kinds i own low item was none even =
    let next : suc i ≡ i + 1 = omega arith in
    subst (λ n. AreOne (take n kinds)) next (record {
      none = none_next kinds i own low was.none (ap (λ (k : KindColumn). is_mixed k.column) (sym item) ∙ none);
      even = even_next kinds i own low was.even (subst (λ (k : KindColumn). IsEven k.column) item even);
    })

pub mixed_at : (kinds : List KindColumn) (i : ℕ) (own : KindColumn) → i < length kinds → own ≡ get_or kinds i own → is_mixed own.column ≡ true → list_any (λ (own : KindColumn). is_mixed own.column) kinds ≡ true
mixed_at kinds i own low item is = some_at kinds i own low (ap (λ (k : KindColumn). is_mixed k.column) (sym item) ∙ is)

-- ---- a name

even_column : (kinds : List KindColumn) (k : ℕ) → AllByRecursion (λ (own : KindColumn). IsEven own.column) kinds → IfSome (column_of kinds k) IsEven
even_column [] k all = tt
even_column (x ∷ kinds) k all = split (x.kind == k) (even_column kinds k all.1)
  where
    split : (b : Bool) → IfSome (column_of kinds k) IsEven → IfSome (cond b (Some x.column) (column_of kinds k)) IsEven
    split true rest = all.0
    split false rest = rest

like_whole : (whole : Option WholeFind) (v : ℕ) → (whole_held whole v ≡ whole_held whole 0) ⊎ (whole_held whole v ≡ None)
like_whole None v = inl refl
like_whole (Some whole) v = split (nat_lt whole.upto v) refl
  where
    cell : Option (Admitted Find)
    cell = whole_cell (Some whole)

    split : (b : Bool) → nat_lt whole.upto v ≡ b → (whole_held (Some whole) v ≡ whole_held (Some whole) 0) ⊎ (whole_held (Some whole) v ≡ None)
    split true late = inr (ap (λ b. cond b None (whole_cell (Some whole))) late)
    split false here = inl (ap (λ b. cond b None (whole_cell (Some whole))) (here ∙ sym (not_past 0 whole.upto (omega arith))))

like_place : (held : Option (Admitted Find)) (column : Cells) (v : ℕ) → IsEven column → (place_held held (place_in column v) ≡ place_held held (place_in column 0)) ⊎ (place_held held (place_in column v) ≡ None)
like_place held column v even = split (nat_lt column.upto v) refl
  where
    split : (b : Bool) → nat_lt column.upto v ≡ b → (place_held held (place_in column v) ≡ place_held held (place_in column 0)) ⊎ (place_held held (place_in column v) ≡ None)
    split true late = inr (ap (λ b. place_held held (cond b nothing (place_at column.versions v))) late)
    split false here = let low : v ≤ column.upto = grind (arith, nat_tests) in inl (ap (λ (p : Place Find). place_held held p) (even v low))

like_column : (whole : Option WholeFind) (column : Option Cells) (v : ℕ) → IfSome column IsEven → (column_held whole column v ≡ column_held whole column 0) ⊎ (column_held whole column v ≡ None)
like_column whole None v even = like_whole whole v
like_column whole (Some column) v even = like_place (whole_cell whole) column v even

pub like_first : (cells : OwnerCells) → AllByRecursion (λ (own : KindColumn). IsEven own.column) cells.kinds.items → IsLikeFirst cells
like_first cells all k v = like_column cells.whole (column_of cells.kinds.items k) v (even_column cells.kinds.items k all)
