-- The places of a name that count: no call adds one but an admission, and that only its own.
use Rattle.std.proofs.Common.{◌≡◌, ◌≤◌, ℕ, Bool, true, false, cond, Option, Some, None, List, [], ◌∷◌, get_or, slice_set, refl, sym, ap, ◌∙◌, ◌⊎◌, inl, inr, arith}
use Rattle.std.specs.Prelude.{◌==◌, ◌||◌, is_some}
use Rattle.std.specs.Option.{option_map_or}
use Rattle.std.proofs.lemmas.Bool.{cases_Bool, eqb-true, false≢true}
use Rattle.ranked.specs.declared.find.Find.{Find}
use Rattle.ranked.specs.declared.find.Scope.{Scope}
use Rattle.ranked.specs.declared.find.Scope.TheVariants.{One, Whole}
use Rattle.ranked.specs.declared.cell.Admitted.{Admitted}
use Rattle.ranked.specs.Cell.{is_alive}
use Rattle.cell_store.specs.declared.version.Place.{Place}
use Rattle.cell_store.specs.declared.owner.KindColumn.{KindColumn}
use Rattle.cell_store.specs.declared.owner.WholeFind.{WholeFind}
use Rattle.cell_store.specs.declared.owner.OwnerCells.{OwnerCells}
use Rattle.cell_store.specs.Version.{own, whole}
use Rattle.cell_store.specs.Column.{Cells, place_in, is_counted}
use Rattle.cell_store.specs.Owner.{cell_in, column_of, column_held, place_held, whole_cell, whole_settled, IsPlaceOf, IsSettled, KeepsSettling, KeepsUpTo}
use Rattle.cell_store.specs.Count.{count_of, has_place, scope_eq, AddsPlace, GainsNothing, KeepsPlaces, LosesFinds, LosesFindsOf}
use Rattle.cell_store.specs.Mixed.{is_mixed}
use Rattle.cell_store.specs.Prune.{IsLess}
use Rattle.cell_store.specs.Sweep.{alive_at, is_dead, swept, whole_swept}
use Rattle.cell_store.specs.Walk.{IsEach}
use Rattle.cell_store.proofs.CountLaws.{place_here}
use Rattle.cell_store.proofs.OwnerLaws.{column_here, column_put}
use Rattle.cell_store.specs.TestLaws.{or_left, or_right}

-- ---- another column in a type's place

pub place_put : (kinds : List KindColumn) (kind place : ℕ) (lent : KindColumn) (column : Cells) → IsPlaceOf kinds kind place → lent ≡ get_or kinds place lent
    → (k : ℕ) → option_map_or is_counted (column_of (slice_set kinds place (record { kind = lent.kind; column = column })) k) false ≡ cond (kind == k) (is_counted column) (option_map_or is_counted (column_of kinds k) false)
place_put kinds kind place lent column is read k =
    let same : lent.kind ≡ kind = ap (λ (own : KindColumn). own.kind) read ∙ is.here lent in
    ap (λ m. option_map_or is_counted (column_of (slice_set kinds place (record { kind = m; column = column })) k) false) same
    ∙ (ap (λ (o : Option Cells). option_map_or is_counted o false) (column_put kinds kind place column k is)
    ∙ split (kind == k))
  where
    split : (b : Bool) → option_map_or is_counted (cond b (Some column) (column_of kinds k)) false ≡ cond b (is_counted column) (option_map_or is_counted (column_of kinds k) false)
    split true = refl
    split false = refl

-- whether the column of a type has more than one entry
pub mixed_here : (kinds : List KindColumn) (kind place : ℕ) (lent : KindColumn) (mixed : Bool) → IsPlaceOf kinds kind place → lent ≡ get_or kinds place lent → is_mixed lent.column ≡ mixed → option_map_or is_mixed (column_of kinds kind) false ≡ mixed
mixed_here kinds kind place lent mixed is read same =
    ap (λ (o : Option Cells). option_map_or is_mixed o false) (column_here kinds kind place lent is) ∙ (ap (λ (own : KindColumn). is_mixed own.column) (sym read) ∙ same)

-- a fact of each scope
pub by_scope : (P : Scope → Type 0) → ((k : ℕ) → P (One k)) → P Whole → (scope : Scope) → P scope
by_scope P one all (One k) = one k
by_scope P one all Whole = all

module _ (w : Option WholeFind) (kinds news : List KindColumn) (kind place : ℕ) (lent : KindColumn) (column : Cells) (put : news ≡ slice_set kinds place (record { kind = lent.kind; column = column }))
    (is : IsPlaceOf kinds kind place) (read : lent ≡ get_or kinds place lent) where
  now : (k : ℕ) → option_map_or is_counted (column_of news k) false ≡ cond (kind == k) (is_counted column) (option_map_or is_counted (column_of kinds k) false)
  now k = ap (λ (l : List KindColumn). option_map_or is_counted (column_of l k) false) put ∙ place_put kinds kind place lent column is read k

  -- a column that loses finds
  pub kept_put : (is_counted column ≡ true → is_counted lent.column ≡ true) → (k : ℕ) → option_map_or is_counted (column_of news k) false ≡ true → option_map_or is_counted (column_of kinds k) false ≡ true
  kept_put step k has = elim (cases_Bool (kind == k)) [
    | inl here ↦
        let counted : is_counted column ≡ true = sym (now k ∙ ap (λ b. cond b (is_counted column) (option_map_or is_counted (column_of kinds k) false)) here) ∙ has in
        ap (λ n. option_map_or is_counted (column_of kinds n) false) (sym (eqb-true kind k here)) ∙ (place_here kinds kind place lent is read ∙ step counted)
    | inr gone ↦ sym (now k ∙ ap (λ b. cond b (is_counted column) (option_map_or is_counted (column_of kinds k) false)) gone) ∙ has
  ]

  -- an admission
  pub added_put : (was : ℕ → Bool) → ((k : ℕ) → option_map_or is_counted (column_of kinds k) false ≡ was k) → (k : ℕ) → option_map_or is_counted (column_of news k) false ≡ true → (kind == k || was k) ≡ true
  added_put was same k has = elim (cases_Bool (kind == k)) [
    | inl here ↦ or_left (kind == k) (was k) here
    | inr gone ↦ or_right (kind == k) (was k) (sym (same k) ∙ (sym (now k ∙ ap (λ b. cond b (is_counted column) (option_map_or is_counted (column_of kinds k) false)) gone) ∙ has))
  ]

  -- each cell is as it was or empty, after a sweep
  pub less_put : (t : ℕ) → ((v : ℕ) → IsLess (place_in column v) (swept t (place_in lent.column v)))
      → (k v : ℕ) → (column_held w (column_of news k) v ≡ column_held w (column_of kinds k) v) ⊎ (column_held w (column_of news k) v ≡ None)
  less_put t less k v = elim (cases_Bool (kind == k)) [
    | inl here ↦
        let was : column_of kinds k ≡ Some lent.column = ap (column_of kinds) (sym (eqb-true kind k here)) ∙ (column_here kinds kind place lent is ∙ ap (λ (own : KindColumn). Some own.column) (sym read)) in
        let old_is : column_held w (column_of kinds k) v ≡ place_held (whole_cell w) (place_in lent.column v) = ap (λ (o : Option Cells). column_held w o v) was in
        let new_is : column_held w (column_of news k) v ≡ place_held (whole_cell w) (place_in column v) = at ∙ ap (λ b. column_held w (cond b (Some column) (column_of kinds k)) v) here in
        elim (place_less (whole_cell w) (place_in column v) (place_in lent.column v) (less v)) [ inl so ↦ inl (new_is ∙ (so ∙ sym old_is)) | inr none ↦ inr (new_is ∙ none) ]
    | inr gone ↦ inl (at ∙ ap (λ b. column_held w (cond b (Some column) (column_of kinds k)) v) gone)
  ]
    where
      kind_is : lent.kind ≡ kind
      kind_is = ap (λ (own : KindColumn). own.kind) read ∙ is.here lent

      at : column_held w (column_of news k) v ≡ column_held w (cond (kind == k) (Some column) (column_of kinds k)) v
      at =
          ap (λ (l : List KindColumn). column_held w (column_of l k) v) (put ∙ ap (λ m. slice_set kinds place (record { kind = m; column = column })) kind_is)
          ∙ ap (λ (o : Option Cells). column_held w o v) (column_put kinds kind place column k is)

      alive_or : (h : Option (Admitted Find)) → (alive_at t h ≡ h) ⊎ (alive_at t h ≡ None)
      alive_or None = inl refl
      alive_or (Some h) = choose (is_alive h t)
        where
          choose : (b : Bool) → (cond b (Some h) None ≡ Some h) ⊎ (cond b (Some h) None ≡ None)
          choose true = inl refl
          choose false = inr refl

      swept_or : (cell : Option (Admitted Find)) (p : Place Find) → (place_held cell (swept t p) ≡ place_held cell p) ⊎ (place_held cell (swept t p) ≡ None)
      swept_or cell p = split p.left
        where
          split : (l : Bool) → (place_held cell (cond l whole (own (alive_at t p.cell.held))) ≡ cond l cell p.cell.held) ⊎ (place_held cell (cond l whole (own (alive_at t p.cell.held))) ≡ None)
          split true = inl refl
          split false = alive_or p.cell.held

      place_less : (cell : Option (Admitted Find)) (p q : Place Find) → IsLess p (swept t q) → (place_held cell p ≡ place_held cell q) ⊎ (place_held cell p ≡ None)
      place_less cell p q is_less = elim is_less [
        | inl so ↦ elim (swept_or cell q) [ inl e ↦ inl (ap (place_held cell) so ∙ e) | inr none ↦ inr (ap (place_held cell) so ∙ none) ]
        | inr none ↦ inr (ap (place_held cell) none)
      ]

-- ---- a flush of every type is permanent

place_each : (number : ℕ) (olds news : List KindColumn) → IsEach (IsSettled number) olds news → (k : ℕ) → option_map_or is_counted (column_of news k) false ≡ true → option_map_or is_counted (column_of olds k) false ≡ true
place_each number [] [] each k has = has
place_each number [] (new ∷ news) each k has = absurd each
place_each number (old ∷ olds) [] each k has = absurd each
place_each number (old ∷ olds) (new ∷ news) each k has = elim (cases_Bool (new.kind == k)) [
  | inl here ↦
      let was : (old.kind == k) ≡ true = ap (λ n. n == k) (sym each.0.0) ∙ here in
      let counted : is_counted new.column ≡ true = sym (ap (λ b. option_map_or is_counted (cond b (Some new.column) (column_of news k)) false) here) ∙ has in
      ap (λ b. option_map_or is_counted (cond b (Some old.column) (column_of olds k)) false) was ∙ each.0.3 counted
  | inr gone ↦
      let away : (old.kind == k) ≡ false = ap (λ n. n == k) (sym each.0.0) ∙ gone in
      let later = sym (ap (λ b. option_map_or is_counted (cond b (Some new.column) (column_of news k)) false) gone) ∙ has in
      ap (λ b. option_map_or is_counted (cond b (Some old.column) (column_of olds k)) false) away ∙ place_each number olds news each.1 k later
]

settled_some : (number : ℕ) (w : Option WholeFind) → is_some (whole_settled number w) ≡ true → is_some w ≡ true
settled_some number None is = is
settled_some number (Some w) is = refl

pub kept_settled : (number : ℕ) (old new : OwnerCells) → new.whole ≡ whole_settled number old.whole → IsEach (IsSettled number) old.kinds.items new.kinds.items → KeepsPlaces old new
kept_settled number old new same each (One k) has = place_each number old.kinds.items new.kinds.items each k has
kept_settled number old new same each Whole has = settled_some number old.whole (ap is_some (sym same) ∙ has)

-- ---- the find of the whole name is swept

swept_or : (t : ℕ) (w : Option WholeFind) → (whole_swept t w ≡ None) ⊎ (whole_swept t w ≡ w)
swept_or t w = split (is_dead t w)
  where
    split : (b : Bool) → (cond b None w ≡ None) ⊎ (cond b None w ≡ w)
    split true = inl refl
    split false = inr refl

pub kept_swept : (t : ℕ) (old new : OwnerCells) → new.whole ≡ whole_swept t old.whole → new.kinds.items ≡ old.kinds.items → KeepsPlaces old new
kept_swept t old new same kinds (One k) has = ap (λ (l : List KindColumn). option_map_or is_counted (column_of l k) false) (sym kinds) ∙ has
kept_swept t old new same kinds Whole has = elim (swept_or t old.whole) [
  | inl none ↦ absurd (false≢true (sym (ap is_some (same ∙ none)) ∙ has))
  | inr so ↦ ap is_some (sym (same ∙ so)) ∙ has
]

none_less : (w : Option WholeFind) (o : Option Cells) (v : ℕ) → (column_held None o v ≡ column_held w o v) ⊎ (column_held None o v ≡ None)
none_less w None v = inr refl
none_less w (Some column) v = split (place_in column v).left
  where
    split : (l : Bool) → (cond l None (place_in column v).cell.held ≡ cond l (whole_cell w) (place_in column v).cell.held) ⊎ (cond l None (place_in column v).cell.held ≡ None)
    split true = inr refl
    split false = inl refl

pub less_swept : (t : ℕ) (old new : OwnerCells) → new.whole ≡ whole_swept t old.whole → new.kinds.items ≡ old.kinds.items → (k v : ℕ) → (cell_in new k v ≡ cell_in old k v) ⊎ (cell_in new k v ≡ None)
less_swept t old new same kinds k v =
    let by_kinds : cell_in new k v ≡ column_held new.whole (column_of old.kinds.items k) v = ap (λ (l : List KindColumn). column_held new.whole (column_of l k) v) kinds in
    elim (swept_or t old.whole) [
      | inl none ↦
          let at : cell_in new k v ≡ column_held None (column_of old.kinds.items k) v = by_kinds ∙ ap (λ (w : Option WholeFind). column_held w (column_of old.kinds.items k) v) (same ∙ none) in
          elim (none_less old.whole (column_of old.kinds.items k) v) [ inl so ↦ inl (at ∙ so) | inr empty ↦ inr (at ∙ empty) ]
      | inr so ↦ inl (by_kinds ∙ ap (λ (w : Option WholeFind). column_held w (column_of old.kinds.items k) v) (same ∙ so))
    ]

-- ---- an admission that changes no place, and one of the whole name

pub added_none : (added : Scope) (old new : OwnerCells) → ((scope : Scope) → has_place new scope ≡ has_place old scope) → AddsPlace added old new
added_none added old new same scope has = or_right (scope_eq added scope) (has_place old scope) (sym (same scope) ∙ has)

pub added_whole : (old new : OwnerCells) → new.kinds.items ≡ [] → AddsPlace Whole old new
added_whole old new none (One k) has = absurd (false≢true (sym (ap (λ (l : List KindColumn). option_map_or is_counted (column_of l k) false) none) ∙ has))
added_whole old new none Whole has = refl

-- ---- finds of a name are dropped

-- A name as it was has gained nothing.
pub gains_none : (cells : OwnerCells) → GainsNothing cells cells
gains_none cells = record { upto = λ top is. is; settles = λ n k is. is; count = omega arith; places = λ scope has. has }

-- Nor has it lost anything.
pub loses_none : (kind : ℕ) (cells : OwnerCells) → LosesFindsOf kind cells cells
loses_none kind cells = record {
  others = λ k other. refl;
  kinds = refl;
  whole = refl;
  lost = record { gains = gains_none cells; cells = λ k v. inl refl };
}

pub lost_from : (old new : OwnerCells) → KeepsUpTo old new → KeepsSettling old new → count_of new ≤ count_of old
    → ((k : ℕ) → option_map_or is_counted (column_of new.kinds.items k) false ≡ true → option_map_or is_counted (column_of old.kinds.items k) false ≡ true) → (is_some new.whole ≡ true → is_some old.whole ≡ true)
    → ((k v : ℕ) → (column_held new.whole (column_of new.kinds.items k) v ≡ column_held old.whole (column_of old.kinds.items k) v) ⊎ (column_held new.whole (column_of new.kinds.items k) v ≡ None)) → LosesFinds old new
lost_from old new upto settles count one all cells = record { gains = record { upto = upto; settles = settles; count = count; places = places }; cells = cells }
  where
    places : (scope : Scope) → has_place new scope ≡ true → has_place old scope ≡ true
    places (One k) has = one k has
    places Whole has = all has
