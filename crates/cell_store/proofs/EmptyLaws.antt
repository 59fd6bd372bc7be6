-- Columns without a find are removed: no cell changes, if no find of the whole name is cached.
use Rattle.std.proofs.Common.{◌≡◌, ℕ, ◌+◌, ◌≤◌, Bool, true, false, cond, Option, Some, None, List, [], ◌∷◌, length, get_or, map, slice_set, refl, sym, ap, ◌∙◌, subst, arith, ◌⊎◌, inl, inr}
use Rattle.std.specs.Prelude.{◌==◌, not, nat_eq, is_some, IfSome}
use Rattle.std.specs.List.{AllByRecursion, IsDistinct}
use Rattle.std.specs.Option.{option_map_or}
use Rattle.std.proofs.Math.ListN.{length-set}
use Rattle.std.proofs.lemmas.Bool.{cases_Bool, eqb-true, false≢true}
use Rattle.std.proofs.lemmas.Cmp.{nat_eq_equiv}
use Rattle.std.proofs.lemmas.Map.Keys.{IsDistinct-cons, IsDistinct-head, IsDistinct-tail}
use Rattle.ranked.specs.declared.find.Find.{Find}
use Rattle.ranked.specs.declared.find.Scope.{Scope}
use Rattle.ranked.specs.declared.find.Scope.TheVariants.{One, Whole}
use Rattle.ranked.specs.declared.cell.Admitted.{Admitted}
use Rattle.ranked.specs.Cell.{after_admission}
use Rattle.cell_store.specs.declared.version.Place.{Place}
use Rattle.cell_store.specs.declared.owner.KindColumn.{KindColumn}
use Rattle.cell_store.specs.declared.owner.WholeFind.{WholeFind}
use Rattle.cell_store.specs.declared.owner.OwnerCells.{OwnerCells}
use Rattle.cell_store.specs.Version.{after_find, own}
use Rattle.cell_store.specs.Column.{Cells, place_in, is_counted}
use Rattle.cell_store.specs.Owner.{column_held, column_of, CanSettleColumn, HasSameCells, IsLeftWithin, IsOwn, IsPlaceOf, IsUpTo, IsWholeUpTo}
use Rattle.cell_store.specs.Count.{count_kinds, count_of, counted_kinds, has_place, one_if, HasSamePlaces, IsTidy}
use Rattle.cell_store.specs.HeldLaws.{found_counted}
use Rattle.cell_store.proofs.CountLaws.{count_put, place_here}
use Rattle.cell_store.proofs.HeldLaws.{column_empty}
use Rattle.cell_store.proofs.NamedLaws.{admission_found}

-- ---- the columns that count

-- the column of a type is as it was, or did not count and is gone
abbrev IsThinned : Option Cells → Option Cells → Type 0
IsThinned old new = (new ≡ old) ⊎ ((new ≡ None) × (option_map_or is_counted old false ≡ false))

none_apart : (kinds : List KindColumn) (kind k : ℕ) → kind ≡ k → AllByRecursion (λ y. nat_eq kind y ≡ false) (map (λ (own : KindColumn). own.kind) kinds) → column_of (counted_kinds kinds) k ≡ None
none_apart [] kind k same all = refl
none_apart (x ∷ kinds) kind k same all = split (is_counted x.column) (none_apart kinds kind k same all.1)
  where
    off : (x.kind == k) ≡ false
    off = sym (nat_eq_equiv.symm k x.kind) ∙ (ap (λ n. nat_eq n x.kind) (sym same) ∙ all.0)

    split : (b : Bool) → column_of (counted_kinds kinds) k ≡ None → column_of (cond b (x ∷ counted_kinds kinds) (counted_kinds kinds)) k ≡ None
    split true rest = ap (λ b. cond b (Some x.column) (column_of (counted_kinds kinds) k)) off ∙ rest
    split false rest = rest

thinned : (kinds : List KindColumn) → IsDistinct nat_eq (map (λ (own : KindColumn). own.kind) kinds) → (k : ℕ) → IsThinned (column_of kinds k) (column_of (counted_kinds kinds) k)
thinned [] once k = inl refl
thinned (x ∷ kinds) once k = split (is_counted x.column) refl (thinned kinds (IsDistinct-tail nat_eq x.kind (map (λ (own : KindColumn). own.kind) kinds) once) k)
  where
    stays : (h : Bool) → IsThinned (column_of kinds k) (column_of (counted_kinds kinds) k) → IsThinned (cond h (Some x.column) (column_of kinds k)) (cond h (Some x.column) (column_of (counted_kinds kinds) k))
    stays true rest = inl refl
    stays false rest = rest

    split : (b : Bool) → is_counted x.column ≡ b → IsThinned (column_of kinds k) (column_of (counted_kinds kinds) k)
        → IsThinned (cond (x.kind == k) (Some x.column) (column_of kinds k)) (column_of (cond b (x ∷ counted_kinds kinds) (counted_kinds kinds)) k)
    split true is rest = stays (x.kind == k) rest
    split false is rest = elim (cases_Bool (x.kind == k)) [
      | inl here ↦
          subst (λ b. IsThinned (cond b (Some x.column) (column_of kinds k)) (column_of (counted_kinds kinds) k)) (sym here)
          (inr (none_apart kinds x.kind k (eqb-true x.kind k here) (IsDistinct-head nat_eq x.kind (map (λ (own : KindColumn). own.kind) kinds) once), is))
      | inr gone ↦ subst (λ b. IsThinned (cond b (Some x.column) (column_of kinds k)) (column_of (counted_kinds kinds) k)) (sym gone) rest
    ]

count_same : (kinds : List KindColumn) → count_kinds (counted_kinds kinds) ≡ count_kinds kinds
count_same [] = refl
count_same (x ∷ kinds) = split (is_counted x.column) refl (count_same kinds)
  where
    split : (b : Bool) → is_counted x.column ≡ b → count_kinds (counted_kinds kinds) ≡ count_kinds kinds → count_kinds (cond b (x ∷ counted_kinds kinds) (counted_kinds kinds)) ≡ one_if (is_counted x.column) + count_kinds kinds
    split true is rest = ap (λ n. one_if (is_counted x.column) + n) rest
    split false is rest = omega (arith, rest, ap one_if is)

all_count : (kinds : List KindColumn) → length (counted_kinds kinds) ≤ count_kinds (counted_kinds kinds)
all_count [] = omega arith
all_count (x ∷ kinds) = split (is_counted x.column) refl (all_count kinds)
  where
    split : (b : Bool) → is_counted x.column ≡ b → length (counted_kinds kinds) ≤ count_kinds (counted_kinds kinds) → length (cond b (x ∷ counted_kinds kinds) (counted_kinds kinds)) ≤ count_kinds (cond b (x ∷ counted_kinds kinds) (counted_kinds kinds))
    split true is rest = omega (arith, rest, ap one_if is)
    split false is rest = rest

all_left : (P : KindColumn → Type 0) (kinds : List KindColumn) → AllByRecursion P kinds → AllByRecursion P (counted_kinds kinds)
all_left P [] all = tt
all_left P (x ∷ kinds) all = split (is_counted x.column) (all_left P kinds all.1)
  where
    split : (b : Bool) → AllByRecursion P (counted_kinds kinds) → AllByRecursion P (cond b (x ∷ counted_kinds kinds) (counted_kinds kinds))
    split true rest = (all.0, rest)
    split false rest = rest

kinds_left : (P : ℕ → Type 0) (kinds : List KindColumn) → AllByRecursion P (map (λ (own : KindColumn). own.kind) kinds) → AllByRecursion P (map (λ (own : KindColumn). own.kind) (counted_kinds kinds))
kinds_left P [] all = tt
kinds_left P (x ∷ kinds) all = split (is_counted x.column) (kinds_left P kinds all.1)
  where
    split : (b : Bool) → AllByRecursion P (map (λ (own : KindColumn). own.kind) (counted_kinds kinds)) → AllByRecursion P (map (λ (own : KindColumn). own.kind) (cond b (x ∷ counted_kinds kinds) (counted_kinds kinds)))
    split true rest = (all.0, rest)
    split false rest = rest

once_left : (kinds : List KindColumn) → IsDistinct nat_eq (map (λ (own : KindColumn). own.kind) kinds) → IsDistinct nat_eq (map (λ (own : KindColumn). own.kind) (counted_kinds kinds))
once_left [] once = once
once_left (x ∷ kinds) once = split (is_counted x.column) (once_left kinds (IsDistinct-tail nat_eq x.kind (map (λ (own : KindColumn). own.kind) kinds) once))
  where
    split : (b : Bool) → IsDistinct nat_eq (map (λ (own : KindColumn). own.kind) (counted_kinds kinds)) → IsDistinct nat_eq (map (λ (own : KindColumn). own.kind) (cond b (x ∷ counted_kinds kinds) (counted_kinds kinds)))
    split true rest =
        IsDistinct-cons nat_eq x.kind (map (λ (own : KindColumn). own.kind) (counted_kinds kinds))
        (kinds_left (λ y. nat_eq x.kind y ≡ false) kinds (IsDistinct-head nat_eq x.kind (map (λ (own : KindColumn). own.kind) kinds) once)) rest
    split false rest = rest

-- ---- a name

none_of : {A : Type 0} (o : Option A) → is_some o ≡ false → o ≡ None
none_of None is = refl
none_of (Some a) is = absurd (false≢true (sym is))

-- no find of the whole name
pub no_whole : (cells : OwnerCells) (some : Bool) → some ≡ is_some cells.whole → some ≡ false → cells.whole ≡ None
no_whole cells some at off = none_of cells.whole (sym at ∙ off)

-- a find of the whole name
pub tidy_whole : (cells : OwnerCells) (some : Bool) → some ≡ is_some cells.whole → some ≡ true → IsTidy cells
tidy_whole cells some at on none = absurd (false≢true (sym (ap is_some none) ∙ (sym at ∙ on)))

module _ (old new : OwnerCells) (whole : new.whole ≡ old.whole) (items : new.kinds.items ≡ counted_kinds old.kinds.items) where
  pub thin_upto : (top : ℕ) → IsUpTo top old → IsUpTo top new
  thin_upto top is = record {
    whole = subst (λ (o : Option WholeFind). IsWholeUpTo top o) (sym whole) is.whole;
    kinds = subst (λ (l : List KindColumn). AllByRecursion (λ own. own.column.upto ≤ top) l) (sym items) (all_left (λ own. own.column.upto ≤ top) old.kinds.items is.kinds);
    left = subst (λ (o : Option WholeFind). AllByRecursion (λ own. IsLeftWithin o own.column) new.kinds.items) (sym whole)
        (subst (λ (l : List KindColumn). AllByRecursion (λ own. IsLeftWithin old.whole own.column) l) (sym items) (all_left (λ own. IsLeftWithin old.whole own.column) old.kinds.items is.left));
    once = subst (λ (l : List KindColumn). IsDistinct nat_eq (map (λ (own : KindColumn). own.kind) l)) (sym items) (once_left old.kinds.items is.once);
    wide = subst (λ (o : Option WholeFind). IfSome o (λ w. w.find.scope ≡ Whole)) (sym whole) is.wide;
    own = subst (λ (l : List KindColumn). AllByRecursion (λ own. IsOwn own.kind own.column) l) (sym items) (all_left (λ own. IsOwn own.kind own.column) old.kinds.items is.own);
  }

  pub thin_tidy : IsTidy new
  thin_tidy none =
      let few = subst (λ (l : List KindColumn). length l ≤ count_kinds l) (sym items) (all_count old.kinds.items) in
      omega (arith, few)

  module _ (none : old.whole ≡ None) where
    pub thin_settles : (n k : ℕ) → CanSettleColumn n new.whole (column_of new.kinds.items k)
    thin_settles n k = subst (λ (o : Option WholeFind). CanSettleColumn n o (column_of new.kinds.items k)) (sym (whole ∙ none)) tt

    module _ (once : IsDistinct nat_eq (map (λ (own : KindColumn). own.kind) old.kinds.items)) where
      pub thin_cells : HasSameCells old new
      thin_cells k v =
          ap (λ (w : Option WholeFind). column_held w (column_of new.kinds.items k) v) (whole ∙ none)
          ∙ (ap (λ (l : List KindColumn). column_held None (column_of l k) v) items
          ∙ (held (column_of old.kinds.items k) (column_of (counted_kinds old.kinds.items) k) (thinned old.kinds.items once k)
          ∙ sym (ap (λ (w : Option WholeFind). column_held w (column_of old.kinds.items k) v) none)))
        where
          held : (o n : Option Cells) → IsThinned o n → column_held None n v ≡ column_held None o v
          held o n thin = elim thin [
            | inl same ↦ ap (λ (c : Option Cells). column_held None c v) same
            | inr gone ↦ ap (λ (c : Option Cells). column_held None c v) gone.0 ∙ sym (column_empty o v gone.1)
          ]

      pub thin_places : HasSamePlaces old new
      thin_places = record { count = count; places = places }
        where
          count : count_of new ≡ count_of old
          count = omega (arith, ap (λ (w : Option WholeFind). one_if (is_some w)) whole, ap count_kinds items, count_same old.kinds.items)

          kept : (o n : Option Cells) → IsThinned o n → option_map_or is_counted n false ≡ option_map_or is_counted o false
          kept o n thin = elim thin [
            | inl same ↦ ap (λ (c : Option Cells). option_map_or is_counted c false) same
            | inr gone ↦ ap (λ (c : Option Cells). option_map_or is_counted c false) gone.0 ∙ sym gone.1
          ]

          places : (scope : Scope) → has_place new scope ≡ has_place old scope
          places (One k) =
              ap (λ (l : List KindColumn). option_map_or is_counted (column_of l k) false) items
              ∙ kept (column_of old.kinds.items k) (column_of (counted_kinds old.kinds.items) k) (thinned old.kinds.items once k)
          places Whole = ap is_some whole

-- ---- an admission

find_held : (adm : Admitted Find) (place : Place Find) → is_some (after_find adm false place).cell.held ≡ true
find_held adm place = split place.left
  where
    split : (l : Bool) → is_some (cond l (own (Some adm)) (own (after_admission place.cell.held adm))).cell.held ≡ true
    split true = refl
    split false = admission_found place.cell.held adm

-- if no find of the whole name outranks it, the column of its type counts then
pub hold_counts : (old new : Cells) (adm : Admitted Find) (outranked : Bool) → outranked ≡ false → place_in new 0 ≡ after_find adm outranked (place_in old 0) → is_counted new ≡ true
hold_counts old new adm outranked off at =
    found_counted new 0 (ap (λ (p : Place Find). is_some p.cell.held) at ∙ (ap (λ b. is_some (after_find adm b (place_in old 0)).cell.held) off ∙ find_held adm (place_in old 0)))

-- the columns are as many as those that count
pub held_tidy : (kinds : List KindColumn) (kind place was : ℕ) (lent : KindColumn) (column : Cells) (has : Bool) → IsPlaceOf kinds kind place → lent ≡ get_or kinds place lent → is_counted column ≡ true
    → option_map_or is_counted (column_of kinds kind) false ≡ has → length kinds ≤ was + one_if (not has) → was ≤ count_kinds kinds
    → length (slice_set kinds place (record { kind = lent.kind; column = column })) ≤ count_kinds (slice_set kinds place (record { kind = lent.kind; column = column }))
held_tidy kinds kind place was lent column has is read counted at size few =
    let put = count_put kinds place (record { kind = lent.kind; column = column }) lent is.low in
    let seen : is_counted (get_or kinds place lent).column ≡ has = ap (λ (own : KindColumn). is_counted own.column) (sym read) ∙ (sym (place_here kinds kind place lent is read) ∙ at) in
    split has (ap one_if seen) size put
  where
    news : List KindColumn
    news = slice_set kinds place (record { kind = lent.kind; column = column })

    long : length news ≡ length kinds
    long = length-set kinds place (record { kind = lent.kind; column = column })

    split : (b : Bool) → one_if (is_counted (get_or kinds place lent).column) ≡ one_if b → length kinds ≤ was + one_if (not b)
        → count_kinds news + one_if (is_counted (get_or kinds place lent).column) ≡ count_kinds kinds + one_if (is_counted column) → length news ≤ count_kinds news
    split true had size put = omega (arith, had, size, put, long, few, ap one_if counted)
    split false had size put = omega (arith, had, size, put, long, few, ap one_if counted)
