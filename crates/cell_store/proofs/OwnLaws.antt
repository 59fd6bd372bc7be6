-- Each type of a name has one column, and each find is where its scope says: what keeps this.
use Rattle.std.proofs.Common.{◌≡◌, ℕ, ◌<◌, ◌≤◌, max, Bool, true, false, cond, Option, Some, None, List, [], ◌∷◌, ◌++◌, length, get_or, map, slice_set, refl, sym, ap, ◌∙◌, subst, arith, ◌⊎◌, inl, inr}
use Rattle.std.specs.Prelude.{◌==◌, nat_eq, nat_lt, IfSome}
use Rattle.std.specs.List.{AllByRecursion, IsDistinct, list_any}
use Rattle.std.proofs.lemmas.Bool.Decides.{nat_tests}
use Rattle.std.proofs.lemmas.Cmp.{nat_eq_equiv}
use Rattle.std.proofs.lemmas.Map.Keys.{IsDistinct-push}
use Rattle.ranked.specs.declared.find.Find.{Find}
use Rattle.ranked.specs.declared.find.Scope.TheVariants.{One, Whole}
use Rattle.ranked.specs.declared.cell.Admitted.{Admitted}
use Rattle.ranked.specs.Cell.{turns_away, is_alive}
use Rattle.cell_store.specs.declared.version.Place.{Place}
use Rattle.cell_store.specs.declared.owner.KindColumn.{KindColumn}
use Rattle.cell_store.specs.declared.owner.WholeFind.{WholeFind}
use Rattle.cell_store.specs.declared.owner.OwnerCells.{OwnerCells}
use Rattle.cell_store.specs.Version.{after_find, nothing, own, place_at, whole}
use Rattle.cell_store.specs.Column.{Cells, place_in, is_counted}
use Rattle.cell_store.specs.Owner.{column_of, IsLeftWithin, IsOwn, IsUpTo, IsSettled, IsWholeUpTo, whole_settled}
use Rattle.cell_store.specs.Prune.{IsLess}
use Rattle.cell_store.specs.Sweep.{alive_at, swept}
use Rattle.cell_store.specs.Walk.{IsEach}
use Rattle.cell_store.specs.HeldLaws.{uncounted_own}
use Rattle.cell_store.proofs.OwnerLaws.{all_at, all_put, head_not}
use Rattle.cell_store.proofs.OwnerSweepLaws.{same_kinds}

-- ---- each type once

pub once_none : IsDistinct nat_eq []
unfolding IsDistinct
once_none = tt

map_push : (kinds : List KindColumn) (own : KindColumn) → map (λ (own : KindColumn). own.kind) (kinds ++ own ∷ []) ≡ map (λ (own : KindColumn). own.kind) kinds ++ own.kind ∷ []
map_push [] own = refl
map_push (x ∷ kinds) own = ap (λ (l : List ℕ). x.kind ∷ l) (map_push kinds own)

no_kind : (kinds : List KindColumn) (kind : ℕ) → column_of kinds kind ≡ None → list_any (nat_eq kind) (map (λ (own : KindColumn). own.kind) kinds) ≡ false
no_kind [] kind none = refl
no_kind (x ∷ kinds) kind none =
    let parts = head_not (x.kind == kind) x.column (column_of kinds kind) none in
    let apart : nat_eq kind x.kind ≡ false = nat_eq_equiv.symm kind x.kind ∙ parts.0 in
    rw apart (no_kind kinds kind parts.1)

once_push : (kinds : List KindColumn) (own : KindColumn) → column_of kinds own.kind ≡ None → IsDistinct nat_eq (map (λ (own : KindColumn). own.kind) kinds) → IsDistinct nat_eq (map (λ (own : KindColumn). own.kind) (kinds ++ own ∷ []))
once_push kinds own none is =
    subst (λ (l : List ℕ). IsDistinct nat_eq l) (sym (map_push kinds own)) (IsDistinct-push nat_eq_equiv (map (λ (own : KindColumn). own.kind) kinds) own.kind is (no_kind kinds own.kind none))

kinds_each : (number : ℕ) (olds news : List KindColumn) → IsEach (IsSettled number) olds news → map (λ (own : KindColumn). own.kind) news ≡ map (λ (own : KindColumn). own.kind) olds
kinds_each number [] [] each = refl
kinds_each number [] (new ∷ news) each = absurd each
kinds_each number (old ∷ olds) [] each = absurd each
kinds_each number (old ∷ olds) (new ∷ news) each =
    ap (λ n. n ∷ map (λ (own : KindColumn). own.kind) news) each.0.0 ∙ ap (λ (l : List ℕ). old.kind ∷ l) (kinds_each number olds news each.1)

pub once_each : (number : ℕ) (olds news : List KindColumn) → IsEach (IsSettled number) olds news → IsDistinct nat_eq (map (λ (own : KindColumn). own.kind) olds) → IsDistinct nat_eq (map (λ (own : KindColumn). own.kind) news)
once_each number olds news each is = subst (λ (l : List ℕ). IsDistinct nat_eq l) (sym (kinds_each number olds news each)) is

-- ---- the find of the whole name

pub wide_settled : (number : ℕ) (whole : Option WholeFind) → IfSome whole (λ w. w.find.scope ≡ Whole) → IfSome (whole_settled number whole) (λ w. w.find.scope ≡ Whole)
wide_settled number None is = tt
wide_settled number (Some w) is = split (nat_lt w.upto number)
  where
    split : (b : Bool) → IfSome (cond b None (Some w)) (λ w. w.find.scope ≡ Whole)
    split true = tt
    split false = is

-- ---- the finds of a column

own_place : (kind : ℕ) (adm : Admitted Find) (outranked : Bool) (place : Place Find) → adm.body.scope ≡ One kind → IfSome place.cell.held (λ held. held.body.scope ≡ One kind)
    → IfSome (after_find adm outranked place).cell.held (λ held. held.body.scope ≡ One kind)
own_place kind adm outranked place scope is = split place.left outranked (turns_away place.cell.held adm)
  where
    split : (l o t : Bool) → IfSome (cond l (cond o place (own (Some adm))) (own (cond t place.cell.held (Some adm)))).cell.held (λ held. held.body.scope ≡ One kind)
    split true true t = is
    split true false t = scope
    split false o true = is
    split false o false = scope

reached_or_past : (v upto : ℕ) → (v ≤ upto) ⊎ (nat_lt upto v ≡ true)
reached_or_past v upto = split (nat_lt upto v) refl
  where
    split : (b : Bool) → nat_lt upto v ≡ b → (v ≤ upto) ⊎ (nat_lt upto v ≡ true)
    split true at = inr at
    split false at = inl (grind (arith, nat_tests))

-- after an admission
pub own_admitted : (kind top : ℕ) (old new : Cells) (adm : Admitted Find) (outranked : Bool) → adm.body.scope ≡ One kind → ((v : ℕ) → v ≤ top → place_in new v ≡ after_find adm outranked (place_in old v)) → new.upto ≡ top → IsOwn kind old → IsOwn kind new
own_admitted kind top old new adm outranked scope places upto is v = elim (reached_or_past v top) [
  | inl low ↦ subst (λ (p : Place Find). IfSome p.cell.held (λ held. held.body.scope ≡ One kind)) (sym (places v low)) (own_place kind adm outranked (place_in old v) scope (is v))
  | inr past ↦
      let none : place_in new v ≡ nothing = ap (λ b. cond b nothing (place_at new.versions v)) (ap (λ n. nat_lt n v) upto ∙ past) in
      subst (λ (p : Place Find). IfSome p.cell.held (λ held. held.body.scope ≡ One kind)) (sym none) tt
]

-- once a flush is permanent
pub own_settled : (kind number : ℕ) (old new : Cells) → ((v : ℕ) → place_in new v ≡ place_in old (max number v)) → IsOwn kind old → IsOwn kind new
own_settled kind number old new places is v = subst (λ (p : Place Find). IfSome p.cell.held (λ held. held.body.scope ≡ One kind)) (sym (places v)) (is (max number v))

own_swept_place : (kind t : ℕ) (place : Place Find) → IfSome place.cell.held (λ held. held.body.scope ≡ One kind) → IfSome (swept t place).cell.held (λ held. held.body.scope ≡ One kind)
own_swept_place kind t place is = split place.left
  where
    alive : (h : Option (Admitted Find)) → IfSome h (λ held. held.body.scope ≡ One kind) → IfSome (alive_at t h) (λ held. held.body.scope ≡ One kind)
    alive None here = tt
    alive (Some h) here = choose (is_alive h t)
      where
        choose : (b : Bool) → IfSome (cond b (Some h) None) (λ held. held.body.scope ≡ One kind)
        choose true = here
        choose false = tt

    split : (l : Bool) → IfSome (cond l whole (own (alive_at t place.cell.held))).cell.held (λ held. held.body.scope ≡ One kind)
    split true = tt
    split false = alive place.cell.held is

-- after a sweep
pub own_swept : (kind t : ℕ) (old new : Cells) → ((v : ℕ) → IsLess (place_in new v) (swept t (place_in old v))) → IsOwn kind old → IsOwn kind new
own_swept kind t old new less is v = elim (less v) [
  | inl same ↦ subst (λ (p : Place Find). IfSome p.cell.held (λ held. held.body.scope ≡ One kind)) (sym same) (own_swept_place kind t (place_in old v) (is v))
  | inr none ↦ subst (λ (p : Place Find). IfSome p.cell.held (λ held. held.body.scope ≡ One kind)) (sym none) tt
]

pub own_each : (number : ℕ) (olds news : List KindColumn) → IsEach (IsSettled number) olds news → AllByRecursion (λ own. IsOwn own.kind own.column) olds → AllByRecursion (λ own. IsOwn own.kind own.column) news
own_each number [] [] each all = tt
own_each number [] (new ∷ news) each all = absurd each
own_each number (old ∷ olds) [] each all = absurd each
own_each number (old ∷ olds) (new ∷ news) each all =
    (subst (λ n. IsOwn n new.column) (sym each.0.0) (own_settled old.kind number old.column new.column each.0.2 all.0), own_each number olds news each.1 all.1)

-- ---- one column more, or in place of another

all_push : (P : KindColumn → Type 0) (kinds : List KindColumn) (own : KindColumn) → AllByRecursion P kinds → P own → AllByRecursion P (kinds ++ own ∷ [])
all_push P [] own all here = (here, tt)
all_push P (x ∷ kinds) own all here = (all.0, all_push P kinds own all.1 here)

pub upto_push : (top : ℕ) (old new : OwnerCells) (kind : ℕ) (column : Cells) → new.whole ≡ old.whole → new.kinds.items ≡ old.kinds.items ++ record { kind = kind; column = column } ∷ []
    → column_of old.kinds.items kind ≡ None → column.upto ≤ top → IsLeftWithin old.whole column → is_counted column ≡ false → IsUpTo top old → IsUpTo top new
upto_push top old new kind column whole_is items none upto left empty is =
    let one : KindColumn = record { kind = kind; column = column } in
    record {
      whole = subst (λ (o : Option WholeFind). IsWholeUpTo top o) (sym whole_is) is.whole;
      kinds = subst (λ (l : List KindColumn). AllByRecursion (λ own. own.column.upto ≤ top) l) (sym items) (all_push (λ own. own.column.upto ≤ top) old.kinds.items one is.kinds upto);
      left = subst (λ (o : Option WholeFind). AllByRecursion (λ own. IsLeftWithin o own.column) new.kinds.items) (sym whole_is)
          (subst (λ (l : List KindColumn). AllByRecursion (λ own. IsLeftWithin old.whole own.column) l) (sym items) (all_push (λ own. IsLeftWithin old.whole own.column) old.kinds.items one is.left left));
      once = subst (λ (l : List KindColumn). IsDistinct nat_eq (map (λ (own : KindColumn). own.kind) l)) (sym items) (once_push old.kinds.items one none is.once);
      wide = subst (λ (o : Option WholeFind). IfSome o (λ w. w.find.scope ≡ Whole)) (sym whole_is) is.wide;
      own = subst (λ (l : List KindColumn). AllByRecursion (λ own. IsOwn own.kind own.column) l) (sym items) (all_push (λ own. IsOwn own.kind own.column) old.kinds.items one is.own (uncounted_own kind column empty));
    }

pub upto_put : (top : ℕ) (old new : OwnerCells) (place : ℕ) (lent : KindColumn) (column : Cells) → new.whole ≡ old.whole → new.kinds.items ≡ slice_set old.kinds.items place (record { kind = lent.kind; column = column })
    → place < length old.kinds.items → lent ≡ get_or old.kinds.items place lent → column.upto ≤ top → (IsLeftWithin old.whole lent.column → IsLeftWithin old.whole column)
    → (IsOwn lent.kind lent.column → IsOwn lent.kind column) → IsUpTo top old → IsUpTo top new
upto_put top old new place lent column whole_is put low read upto left own is =
    let one : KindColumn = record { kind = lent.kind; column = column } in
    record {
      whole = subst (λ (o : Option WholeFind). IsWholeUpTo top o) (sym whole_is) is.whole;
      kinds = subst (λ (l : List KindColumn). AllByRecursion (λ own. own.column.upto ≤ top) l) (sym put) (all_put (λ own. own.column.upto ≤ top) old.kinds.items place one is.kinds upto);
      left = subst (λ (o : Option WholeFind). AllByRecursion (λ own. IsLeftWithin o own.column) new.kinds.items) (sym whole_is)
          (subst (λ (l : List KindColumn). AllByRecursion (λ own. IsLeftWithin old.whole own.column) l) (sym put)
          (all_put (λ own. IsLeftWithin old.whole own.column) old.kinds.items place one is.left
          (left (subst (λ (own : KindColumn). IsLeftWithin old.whole own.column) (sym read) (all_at (λ own. IsLeftWithin old.whole own.column) old.kinds.items place lent is.left low)))));
      once = subst (λ (l : List KindColumn). IsDistinct nat_eq (map (λ (own : KindColumn). own.kind) l)) (sym put)
          (subst (λ (l : List ℕ). IsDistinct nat_eq l) (sym (same_kinds old.kinds.items place lent column low read)) is.once);
      wide = subst (λ (o : Option WholeFind). IfSome o (λ w. w.find.scope ≡ Whole)) (sym whole_is) is.wide;
      own = subst (λ (l : List KindColumn). AllByRecursion (λ own. IsOwn own.kind own.column) l) (sym put)
          (all_put (λ own. IsOwn own.kind own.column) old.kinds.items place one is.own
          (own (subst (λ (o : KindColumn). IsOwn o.kind o.column) (sym read) (all_at (λ own. IsOwn own.kind own.column) old.kinds.items place lent is.own low))));
    }

-- no columns
pub empty_upto : (top : ℕ) (cells : OwnerCells) → IsWholeUpTo top cells.whole → IfSome cells.whole (λ w. w.find.scope ≡ Whole) → cells.kinds.items ≡ [] → IsUpTo top cells
empty_upto top cells upto wide none = record {
  whole = upto;
  kinds = subst (λ (l : List KindColumn). AllByRecursion (λ own. own.column.upto ≤ top) l) (sym none) tt;
  left = subst (λ (l : List KindColumn). AllByRecursion (λ own. IsLeftWithin cells.whole own.column) l) (sym none) tt;
  once = subst (λ (l : List KindColumn). IsDistinct nat_eq (map (λ (own : KindColumn). own.kind) l)) (sym none) once_none;
  wide = wide;
  own = subst (λ (l : List KindColumn). AllByRecursion (λ own. IsOwn own.kind own.column) l) (sym none) tt;
}
