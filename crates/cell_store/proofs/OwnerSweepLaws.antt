-- The cells of a name after a sweep.
use Rattle.std.proofs.Common.{◌≡◌, ℕ, zero, suc, ◌-◌, ◌<◌, ◌≤◌, Bool, true, false, cond, Option, Some, None, List, [], ◌∷◌, length, get_or, map, slice_set, refl, sym, ap, ◌∙◌, subst, arith, inl, inr}
use Rattle.std.specs.Prelude.{◌==◌, ◌||◌, is_some, nat_eq, nat_lt, IfSome}
use Rattle.std.specs.List.{AllByRecursion, IsDistinct}
use Rattle.std.specs.Option.{option_map_or}
use Rattle.std.proofs.lemmas.Bool.{cases_Bool, eqb-true, eq-eqb, false≢true}
use Rattle.ranked.specs.declared.find.Find.{Find}
use Rattle.ranked.specs.declared.find.Scope.TheVariants.{Whole}
use Rattle.ranked.specs.declared.cell.Admitted.{Admitted}
use Rattle.ranked.specs.Find.{admission_of}
use Rattle.ranked.specs.Cell.{is_alive}
use Rattle.cell_store.specs.declared.version.Place.{Place}
use Rattle.cell_store.specs.declared.owner.KindColumn.{KindColumn}
use Rattle.cell_store.specs.declared.owner.WholeFind.{WholeFind}
use Rattle.cell_store.specs.declared.owner.OwnerCells.{OwnerCells}
use Rattle.cell_store.specs.Version.{own, whole}
use Rattle.cell_store.specs.Column.{Cells, place_in, is_counted}
use Rattle.cell_store.specs.Owner.{column_of, whole_cell, place_held, column_held, IsWholeUpTo, IsLeftWithin, IsOwn, IsUpTo, CanSettleColumn, IsPlaceOf}
use Rattle.cell_store.specs.Count.{one_if}
use Rattle.cell_store.specs.Prune.{is_asked}
use Rattle.cell_store.specs.Sweep.{alive_at, swept, is_dead, whole_swept, IsSeenAt, IsSweptColumn, IsSweptKind}
use Rattle.cell_store.proofs.OwnerLaws.{column_put, column_here}
use Rattle.cell_store.specs.TestLaws.{not_true, or_right}

-- ---- the find of the whole name

dead_none : (t : ℕ) (w : WholeFind) → is_dead t (Some w) ≡ true → alive_at t (Some (admission_of w.find w.find w.since)) ≡ None
dead_none t w dead = ap (λ b. cond b (Some (admission_of w.find w.find w.since)) None) (not_true (nat_lt (t - w.since) w.find.ttl) dead)

dead_either : (t : ℕ) (w : WholeFind) (b : Bool) → is_dead t (Some w) ≡ true → None ≡ alive_at t (cond b None (Some (admission_of w.find w.find w.since)))
dead_either t w true dead = refl
dead_either t w false dead = sym (dead_none t w dead)

dead_place : (t : ℕ) (w : WholeFind) (place : Place Find) → is_dead t (Some w) ≡ true → alive_at t (place_held None place) ≡ alive_at t (place_held (whole_cell (Some w)) place)
dead_place t w place dead = split place.left
  where
    split : (l : Bool) → alive_at t (cond l None place.cell.held) ≡ alive_at t (cond l (whole_cell (Some w)) place.cell.held)
    split true = sym (dead_none t w dead)
    split false = refl

dead_column : (t : ℕ) (w : WholeFind) (column : Option Cells) (v : ℕ) → is_dead t (Some w) ≡ true → alive_at t (column_held None column v) ≡ alive_at t (column_held (Some w) column v)
dead_column t w None v dead = dead_either t w (nat_lt w.upto v) dead
dead_column t w (Some cells) v dead = dead_place t w (place_in cells v) dead

pub swept_whole_cell : (t : ℕ) (old new : Option WholeFind) (kinds : List KindColumn) (k v : ℕ) → new ≡ whole_swept t old → alive_at t (column_held new (column_of kinds k) v) ≡ alive_at t (column_held old (column_of kinds k) v)
swept_whole_cell t None new kinds k v is = ap (λ (o : Option WholeFind). alive_at t (column_held o (column_of kinds k) v)) is
swept_whole_cell t (Some w) new kinds k v is = elim (cases_Bool (is_dead t (Some w))) [
  | inl dead ↦
      ap (λ (o : Option WholeFind). alive_at t (column_held o (column_of kinds k) v)) (is ∙ ap (λ b. cond b None (Some w)) dead) ∙ dead_column t w (column_of kinds k) v dead
  | inr lives ↦
      ap (λ (o : Option WholeFind). alive_at t (column_held o (column_of kinds k) v)) (is ∙ ap (λ b. cond b None (Some w)) lives)
]

lefts_none : (kinds : List KindColumn) → AllByRecursion (λ own. IsLeftWithin None own.column) kinds
lefts_none [] = tt
lefts_none (x ∷ kinds) = ((λ v is. tt), lefts_none kinds)

pub swept_whole_upto : (t top : ℕ) (old new : OwnerCells) → new.whole ≡ whole_swept t old.whole → new.kinds.items ≡ old.kinds.items → IsUpTo top old → IsUpTo top new
swept_whole_upto t top old new whole_is kinds is = elim (cases_Bool (is_dead t old.whole)) [
  | inl dead ↦
      let none : new.whole ≡ None = whole_is ∙ ap (λ b. cond b None old.whole) dead in
      record {
        whole = subst (λ (o : Option WholeFind). IsWholeUpTo top o) (sym none) tt;
        kinds = subst (λ (l : List KindColumn). AllByRecursion (λ own. own.column.upto ≤ top) l) (sym kinds) is.kinds;
        left = subst (λ (o : Option WholeFind). AllByRecursion (λ own. IsLeftWithin o own.column) new.kinds.items) (sym none) (lefts_none new.kinds.items);
        once = subst (λ (l : List KindColumn). IsDistinct nat_eq (map (λ (own : KindColumn). own.kind) l)) (sym kinds) is.once;
        wide = subst (λ (o : Option WholeFind). IfSome o (λ w. w.find.scope ≡ Whole)) (sym none) tt;
        own = subst (λ (l : List KindColumn). AllByRecursion (λ own. IsOwn own.kind own.column) l) (sym kinds) is.own;
      }
  | inr lives ↦
      let same : new.whole ≡ old.whole = whole_is ∙ ap (λ b. cond b None old.whole) lives in
      record {
        whole = subst (λ (o : Option WholeFind). IsWholeUpTo top o) (sym same) is.whole;
        kinds = subst (λ (l : List KindColumn). AllByRecursion (λ own. own.column.upto ≤ top) l) (sym kinds) is.kinds;
        left = subst (λ (o : Option WholeFind). AllByRecursion (λ own. IsLeftWithin o own.column) new.kinds.items) (sym same)
            (subst (λ (l : List KindColumn). AllByRecursion (λ own. IsLeftWithin old.whole own.column) l) (sym kinds) is.left);
        once = subst (λ (l : List KindColumn). IsDistinct nat_eq (map (λ (own : KindColumn). own.kind) l)) (sym kinds) is.once;
        wide = subst (λ (o : Option WholeFind). IfSome o (λ w. w.find.scope ≡ Whole)) (sym same) is.wide;
        own = subst (λ (l : List KindColumn). AllByRecursion (λ own. IsOwn own.kind own.column) l) (sym kinds) is.own;
      }
]

pub swept_whole_settles : (t n : ℕ) (old new : Option WholeFind) (column : Option Cells) → new ≡ whole_swept t old → CanSettleColumn n old column → CanSettleColumn n new column
swept_whole_settles t n old new column is settles = elim (cases_Bool (is_dead t old)) [
  | inl dead ↦ subst (λ (o : Option WholeFind). CanSettleColumn n o column) (sym (is ∙ ap (λ b. cond b None old) dead)) tt
  | inr lives ↦ subst (λ (o : Option WholeFind). CanSettleColumn n o column) (sym (is ∙ ap (λ b. cond b None old) lives)) settles
]

pub swept_whole_count : (t : ℕ) (old new : Option WholeFind) → new ≡ whole_swept t old → one_if (is_some new) ≤ one_if (is_some old)
swept_whole_count t old new is = elim (cases_Bool (is_dead t old)) [
  | inl dead ↦ subst (λ (o : Option WholeFind). one_if (is_some o) ≤ one_if (is_some old)) (sym (is ∙ ap (λ b. cond b None old) dead)) (omega arith)
  | inr lives ↦ subst (λ (o : Option WholeFind). one_if (is_some o) ≤ one_if (is_some old)) (sym (is ∙ ap (λ b. cond b None old) lives)) (omega arith)
]

-- ---- a type

alive_twice : (t : ℕ) (held : Option (Admitted Find)) → alive_at t (alive_at t held) ≡ alive_at t held
alive_twice t None = refl
alive_twice t (Some h) = split (is_alive h t) refl
  where
    split : (b : Bool) → is_alive h t ≡ b → alive_at t (cond b (Some h) None) ≡ cond b (Some h) None
    split true is = ap (λ b. cond b (Some h) None) is
    split false is = refl

swept_held : (t : ℕ) (cell : Option (Admitted Find)) (place : Place Find) → alive_at t (place_held cell (swept t place)) ≡ alive_at t (place_held cell place)
swept_held t cell place = split place.left
  where
    split : (l : Bool) → alive_at t (place_held cell (cond l whole (own (alive_at t place.cell.held)))) ≡ alive_at t (cond l cell place.cell.held)
    split true = refl
    split false = alive_twice t place.cell.held

swept_some : (t : ℕ) (cell : Option (Admitted Find)) (place : Place Find) → is_some (swept t place).cell.held ≡ true → is_some (alive_at t (place_held cell (swept t place))) ≡ true
swept_some t cell place is = split place.left refl
  where
    split : (l : Bool) → place.left ≡ l → is_some (alive_at t (place_held cell (cond place.left whole (own (alive_at t place.cell.held))))) ≡ true
    split true at = absurd (false≢true (ap (λ b. is_some (cond b whole (own (alive_at t place.cell.held))).cell.held) (sym at) ∙ is))
    split false at =
        ap (λ b. is_some (alive_at t (place_held cell (cond b whole (own (alive_at t place.cell.held)))))) at
        ∙ (ap is_some (alive_twice t place.cell.held) ∙ (ap (λ b. is_some (cond b whole (own (alive_at t place.cell.held))).cell.held) (sym at) ∙ is))

module _ (w : Option WholeFind) (kinds : List KindColumn) (kind place : ℕ) (lent : KindColumn) (column : Cells) (numbers : List ℕ) (t : ℕ) (is : IsPlaceOf kinds kind place) (read : lent ≡ get_or kinds place lent)
    (places : (v : ℕ) → is_asked numbers v ≡ true → place_in column v ≡ swept t (place_in lent.column v)) where
  put : (k : ℕ) → column_of (slice_set kinds place (record { kind = lent.kind; column = column })) k ≡ cond (kind == k) (Some column) (column_of kinds k)
  put k =
      let same : lent.kind ≡ kind = ap (λ (own : KindColumn). own.kind) read ∙ is.here lent in
      ap (λ m. column_of (slice_set kinds place (record { kind = m; column = column })) k) same ∙ column_put kinds kind place column k is

  was : column_of kinds kind ≡ Some lent.column
  was = column_here kinds kind place lent is ∙ ap (λ (own : KindColumn). Some own.column) (sym read)

  pub swept_kind_cell : (k v : ℕ) → ((kind == k) ≡ true → is_asked numbers v ≡ true) → alive_at t (column_held w (column_of (slice_set kinds place (record { kind = lent.kind; column = column })) k) v) ≡ alive_at t (column_held w (column_of kinds k) v)
  swept_kind_cell k v asked = ap (λ (o : Option Cells). alive_at t (column_held w o v)) (put k) ∙ elim (cases_Bool (kind == k)) [
    | inl here ↦
        let old : column_of kinds k ≡ Some lent.column = ap (column_of kinds) (sym (eqb-true kind k here)) ∙ was in
        ap (λ b. alive_at t (column_held w (cond b (Some column) (column_of kinds k)) v)) here
        ∙ (ap (λ (p : Place Find). alive_at t (place_held (whole_cell w) p)) (places v (asked here))
        ∙ (swept_held t (whole_cell w) (place_in lent.column v) ∙ sym (ap (λ (o : Option Cells). alive_at t (column_held w o v)) old)))
    | inr gone ↦ ap (λ b. alive_at t (column_held w (cond b (Some column) (column_of kinds k)) v)) gone
  ]

  pub swept_kind_others : (k : ℕ) → (kind == k) ≡ false → column_of (slice_set kinds place (record { kind = lent.kind; column = column })) k ≡ column_of kinds k
  swept_kind_others k gone = put k ∙ ap (λ b. cond b (Some column) (column_of kinds k)) gone

  now : column_of (slice_set kinds place (record { kind = lent.kind; column = column })) kind ≡ Some column
  now = put kind ∙ ap (λ b. cond b (Some column) (column_of kinds kind)) (eq-eqb kind kind refl)

  -- a version in use whose find stays
  seen_in : (v : ℕ) → is_asked numbers v ≡ true → is_some (place_in column v).cell.held ≡ true → is_some (alive_at t (column_held w (column_of (slice_set kinds place (record { kind = lent.kind; column = column })) kind) v)) ≡ true
  seen_in v asked there =
      let here = places v asked in
      let some : is_some (swept t (place_in lent.column v)).cell.held ≡ true = ap (λ (p : Place Find). is_some p.cell.held) (sym here) ∙ there in
      ap (λ (o : Option Cells). is_some (alive_at t (column_held w o v))) now ∙ (ap (λ (p : Place Find). is_some (alive_at t (place_held (whole_cell w) p))) here ∙ swept_some t (whole_cell w) (place_in lent.column v) some)

  counted_in : option_map_or is_counted (column_of (slice_set kinds place (record { kind = lent.kind; column = column })) kind) false ≡ true → is_counted column ≡ true
  counted_in has = ap (λ (o : Option Cells). option_map_or is_counted o false) (sym now) ∙ has

  pub swept_kind_seen : (is_counted column ≡ true → IsSeenAt numbers column) → option_map_or is_counted (column_of (slice_set kinds place (record { kind = lent.kind; column = column })) kind) false ≡ true
      → (v : ℕ) × ((is_asked numbers v ≡ true) × (is_some (alive_at t (column_held w (column_of (slice_set kinds place (record { kind = lent.kind; column = column })) kind) v)) ≡ true))
  swept_kind_seen seen has = let at = seen (counted_in has) in (at.0, (at.1.0, seen_in at.0 at.1.0 at.1.1))

  -- version 0, which is always in use
  pub swept_kind_first : (is_counted column ≡ true → is_some (place_in column 0).cell.held ≡ true) → option_map_or is_counted (column_of (slice_set kinds place (record { kind = lent.kind; column = column })) kind) false ≡ true
      → is_some (alive_at t (column_held w (column_of (slice_set kinds place (record { kind = lent.kind; column = column })) kind) 0)) ≡ true
  swept_kind_first seen has = seen_in 0 refl (seen (counted_in has))

  pub swept_kind_even : IsSweptColumn t lent.column column → IsSweptKind t (column_of kinds kind) (column_of (slice_set kinds place (record { kind = lent.kind; column = column })) kind)
  swept_kind_even swept =
      subst (λ (o : Option Cells). IsSweptKind t o (column_of (slice_set kinds place (record { kind = lent.kind; column = column })) kind)) (sym was)
      (subst (λ (o : Option Cells). IsSweptKind t (Some lent.column) o) (sym now) swept)

-- a type that has no column
pub swept_kind_none : (t : ℕ) (column : Option Cells) → column ≡ None → IsSweptKind t column column
swept_kind_none t column is = subst (λ (o : Option Cells). IsSweptKind t o o) (sym is) tt

-- a column whose versions are all swept, whichever are in use
pub swept_even_cell : (w : Option WholeFind) (kinds : List KindColumn) (kind place : ℕ) (lent : KindColumn) (column : Cells) (t : ℕ) → IsPlaceOf kinds kind place → lent ≡ get_or kinds place lent
    → ((v : ℕ) → place_in column v ≡ swept t (place_in lent.column v))
    → (k v : ℕ) → alive_at t (column_held w (column_of (slice_set kinds place (record { kind = lent.kind; column = column })) k) v) ≡ alive_at t (column_held w (column_of kinds k) v)
swept_even_cell w kinds kind place lent column t is read places k v = swept_kind_cell w kinds kind place lent column (v ∷ []) t is read (λ u asked. places u) k v (λ here. asked_self)
  where
    asked_self : is_asked (v ∷ []) v ≡ true
    asked_self = or_right (v == 0) (v == v || false) (ap (λ b. b || false) (eq-eqb v v refl))

pub same_kinds : (kinds : List KindColumn) (place : ℕ) (lent : KindColumn) (column : Cells) → place < length kinds → lent ≡ get_or kinds place lent → map (λ (own : KindColumn). own.kind) (slice_set kinds place (record { kind = lent.kind; column = column })) ≡ map (λ (own : KindColumn). own.kind) kinds
same_kinds [] place lent column low read = absurd (omega arith)
same_kinds (x ∷ kinds) zero lent column low read = ap (λ n. n ∷ map (λ (own : KindColumn). own.kind) kinds) (ap (λ (own : KindColumn). own.kind) read)
same_kinds (x ∷ kinds) (suc place) lent column low read = ap (λ (l : List ℕ). x.kind ∷ l) (same_kinds kinds place lent column (omega arith) read)
