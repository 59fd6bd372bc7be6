-- The columns of a name, by type.
use Rattle.std.proofs.Common.{◌≡◌, ◌≢◌, ℕ, suc, zero, ◌<◌, ◌≤◌, max, Bool, true, false, cond, Option, Some, None, List, [], ◌∷◌, ◌++◌, length, get_or, refl, sym, ap, ◌∙◌, subst, arith, length-append, slice_set, inl, inr}
use Rattle.std.specs.Prelude.{◌==◌}
use Rattle.std.specs.List.{AllByRecursion}
use Rattle.std.proofs.lemmas.Bool.{cases_Bool, eq-eqb, eqb-true, false≢true, and_parts}
use Rattle.std.proofs.lemmas.List.{get_or_append_left}
use Rattle.std.proofs.Math.Seq.{get_or-append_seam}
use Rattle.ranked.specs.declared.find.Find.{Find}
use Rattle.ranked.specs.declared.cell.Admitted.{Admitted}
use Rattle.ranked.specs.declared.cell.Shown.{Shown}
use Rattle.ranked.specs.Find.{admission_of}
use Rattle.ranked.specs.Rank.{level_of}
use Rattle.cell_store.proofs.EntryLaws.{level_small}
use Rattle.ranked.specs.Cell.{after_admission, turns_away, shown_at}
use Rattle.cell_store.specs.declared.version.Place.{Place}
use Rattle.cell_store.specs.declared.owner.KindColumn.{KindColumn}
use Rattle.cell_store.specs.declared.owner.WholeFind.{WholeFind}
use Rattle.cell_store.specs.Version.{after_find, own}
use Rattle.cell_store.specs.Column.{Cells, place_in, sight_at}
use Rattle.cell_store.specs.Owner.{column_of, whole_cell, whole_held, place_held, column_held, IsPlaceOf}
use Rattle.cell_store.specs.TestLaws.{some_is_none, lt_of}

apart : (a b : ℕ) → a ≢ b → (a == b) ≡ false
apart a b ne = elim (cases_Bool (a == b)) [ inl same ↦ absurd (ne (eqb-true a b same)) | inr so ↦ so ]

-- no column is of the type
pub none_of : (kinds : List KindColumn) (kind : ℕ) → ((i : ℕ) (d : KindColumn) → i < length kinds → ((get_or kinds i d).kind == kind) ≡ false) → column_of kinds kind ≡ None
none_of [] kind none = refl
none_of (x ∷ kinds) kind none =
    ap (λ b. cond b (Some x.column) (column_of kinds kind)) (none 0 x (omega arith)) ∙ none_of kinds kind (λ i d low. none (suc i) d (omega arith))

pub head_not : (b : Bool) (column : Cells) (rest : Option Cells) → cond b (Some column) rest ≡ None → (b ≡ false) × (rest ≡ None)
head_not true column rest is = absurd (some_is_none column is)
head_not false column rest is = (refl, is)

pub not_of : (kinds : List KindColumn) (kind : ℕ) → column_of kinds kind ≡ None → (i : ℕ) (d : KindColumn) → i < length kinds → ((get_or kinds i d).kind == kind) ≡ false
not_of [] kind none i d low = absurd (omega arith)
not_of (x ∷ kinds) kind none zero d low = (head_not (x.kind == kind) x.column (column_of kinds kind) none).0
not_of (x ∷ kinds) kind none (suc i) d low = not_of kinds kind (head_not (x.kind == kind) x.column (column_of kinds kind) none).1 i d (omega arith)

-- one column more, of a type that had none
pub column_push : (kinds : List KindColumn) (kind : ℕ) (column : Cells) (k : ℕ) → column_of kinds kind ≡ None
    → column_of (kinds ++ record { kind = kind; column = column } ∷ []) k ≡ cond (kind == k) (Some column) (column_of kinds k)
column_push [] kind column k none = refl
column_push (x ∷ kinds) kind column k none =
    let parts = head_not (x.kind == kind) x.column (column_of kinds kind) none in
    elim (cases_Bool (x.kind == k)) [
      | inl here ↦
          let other : (kind == k) ≡ false = apart kind k (λ same. false≢true (sym parts.0 ∙ eq-eqb x.kind kind (eqb-true x.kind k here ∙ sym same))) in
          rw (here, other) refl
      | inr gone ↦ rw gone (column_push kinds kind column k parts.1)
    ]

pub push_place : (kinds : List KindColumn) (kind : ℕ) (column : Cells) → column_of kinds kind ≡ None → IsPlaceOf (kinds ++ record { kind = kind; column = column } ∷ []) kind (length kinds)
push_place kinds kind column none = record {
  low = omega (arith, length-append kinds (record { kind = kind; column = column } ∷ []));
  here = λ d. ap (λ (own : KindColumn). own.kind) (get_or-append_seam kinds (record { kind = kind; column = column }) [] d);
  before = λ i d low. ap (λ (own : KindColumn). own.kind == kind) (get_or_append_left kinds (record { kind = kind; column = column } ∷ []) d i low) ∙ not_of kinds kind none i d low;
}

-- another column in a type's place
pub column_put : (kinds : List KindColumn) (kind place : ℕ) (column : Cells) (k : ℕ) → IsPlaceOf kinds kind place
    → column_of (slice_set kinds place (record { kind = kind; column = column })) k ≡ cond (kind == k) (Some column) (column_of kinds k)
column_put [] kind place column k is = absurd (omega (arith, is.low))
column_put (x ∷ kinds) kind zero column k is =
    let same : x.kind ≡ kind = is.here x in
    elim (cases_Bool (kind == k)) [
      | inl here ↦ rw here refl
      | inr gone ↦ let other : (x.kind == k) ≡ false = ap (λ n. n == k) same ∙ gone in rw (gone, other) refl
    ]
column_put (x ∷ kinds) kind (suc place) column k is =
    let before : (x.kind == kind) ≡ false = is.before 0 x (omega arith) in
    let rest : IsPlaceOf kinds kind place = record { low = omega (arith, is.low); here = λ d. is.here d; before = λ i d low. is.before (suc i) d (omega arith) } in
    elim (cases_Bool (x.kind == k)) [
      | inl here ↦
          let other : (kind == k) ≡ false = apart kind k (λ same. false≢true (sym before ∙ eq-eqb x.kind kind (eqb-true x.kind k here ∙ sym same))) in
          rw (here, other) refl
      | inr gone ↦ rw gone (column_put kinds kind place column k rest)
    ]

pub column_here : (kinds : List KindColumn) (kind place : ℕ) (d : KindColumn) → IsPlaceOf kinds kind place → column_of kinds kind ≡ Some (get_or kinds place d).column
column_here [] kind place d is = absurd (omega (arith, is.low))
column_here (x ∷ kinds) kind zero d is = ap (λ b. cond b (Some x.column) (column_of kinds kind)) (eq-eqb x.kind kind (is.here x))
column_here (x ∷ kinds) kind (suc place) d is =
    ap (λ b. cond b (Some x.column) (column_of kinds kind)) (is.before 0 x (omega arith))
    ∙ column_here kinds kind place d (record { low = omega (arith, is.low); here = λ e. is.here e; before = λ i e low. is.before (suc i) e (omega arith) })

pub all_put : (P : KindColumn → Type 0) (kinds : List KindColumn) (place : ℕ) (new : KindColumn) → AllByRecursion P kinds → P new → AllByRecursion P (slice_set kinds place new)
all_put P [] place new all here = tt
all_put P (x ∷ kinds) zero new all here = (here, all.1)
all_put P (x ∷ kinds) (suc place) new all here = (all.0, all_put P kinds place new all.1 here)

pub all_at : (P : KindColumn → Type 0) (kinds : List KindColumn) (place : ℕ) (d : KindColumn) → AllByRecursion P kinds → place < length kinds → P (get_or kinds place d)
all_at P [] place d all low = absurd (omega arith)
all_at P (x ∷ kinds) zero d all low = all.0
all_at P (x ∷ kinds) (suc place) d all low = all_at P kinds place d all.1 (omega arith)

-- ---- cells

-- a new column with the content that its type had
pub held_push : (whole : Option WholeFind) (kinds : List KindColumn) (kind : ℕ) (column : Cells) → column_of kinds kind ≡ None
    → ((v : ℕ) → place_held (whole_cell whole) (place_in column v) ≡ whole_held whole v)
    → (k v : ℕ) → column_held whole (column_of (kinds ++ record { kind = kind; column = column } ∷ []) k) v ≡ column_held whole (column_of kinds k) v
held_push whole kinds kind column none derived k v =
    ap (λ (o : Option Cells). column_held whole o v) (column_push kinds kind column k none)
    ∙ elim (cases_Bool (kind == k)) [
      | inl here ↦
          let there : column_of kinds k ≡ None = ap (column_of kinds) (sym (eqb-true kind k here)) ∙ none in
          rw (here, there) (derived v)
      | inr gone ↦ rw gone refl
    ]

-- An admission changes a place as it changes the cell. The flag is that of the find of the whole name.
pub held_after : (whole : Option (Admitted Find)) (place : Place Find) (new : Admitted Find) → place_held whole (after_find new (turns_away whole new) place) ≡ after_admission (place_held whole place) new
held_after whole place new = split place.left (turns_away whole new) refl refl
  where
    split : (l o : Bool) → place.left ≡ l → turns_away whole new ≡ o
        → place_held whole (cond l (cond o place (own (Some new))) (own (after_admission place.cell.held new))) ≡ after_admission (cond l whole place.cell.held) new
    split true true left_is is = ap (λ l. cond l whole place.cell.held) left_is ∙ sym (ap (λ b. cond b whole (Some new)) is)
    split true false left_is is = sym (ap (λ b. cond b whole (Some new)) is)
    split false o left_is is = refl

-- the cells after an admission to the column of a type
pub admitted_cell : (whole : Option WholeFind) (kinds new_kinds : List KindColumn) (kind place : ℕ) (lent : KindColumn) (column : Cells) (new : Admitted Find) (top : ℕ) (outranked : Bool)
    → IsPlaceOf kinds kind place → lent ≡ get_or kinds place lent → new_kinds ≡ slice_set kinds place (record { kind = lent.kind; column = column }) → outranked ≡ turns_away (whole_cell whole) new
    → ((v : ℕ) → v ≤ top → place_in column v ≡ after_find new outranked (place_in lent.column v))
    → (k v : ℕ) → v ≤ top → column_held whole (column_of new_kinds k) v ≡ cond (kind == k) (after_admission (column_held whole (column_of kinds k) v) new) (column_held whole (column_of kinds k) v)
admitted_cell whole kinds new_kinds kind place lent column new top outranked is read put flag after k v low =
    let same : lent.kind ≡ kind = ap (λ (own : KindColumn). own.kind) read ∙ is.here lent in
    let put' : new_kinds ≡ slice_set kinds place (record { kind = kind; column = column }) = put ∙ ap (λ n. slice_set kinds place (record { kind = n; column = column })) same in
    ap (λ (l : List KindColumn). column_held whole (column_of l k) v) put'
    ∙ (ap (λ (o : Option Cells). column_held whole o v) (column_put kinds kind place column k is)
    ∙ split (kind == k) refl)
  where
    here : (kind == k) ≡ true → column_held whole (column_of kinds k) v ≡ place_held (whole_cell whole) (place_in lent.column v)
    here at = ap (λ (o : Option Cells). column_held whole o v) (ap (column_of kinds) (sym (eqb-true kind k at)) ∙ (column_here kinds kind place lent is ∙ ap (λ (own : KindColumn). Some own.column) (sym read)))

    split : (b : Bool) → (kind == k) ≡ b → column_held whole (cond b (Some column) (column_of kinds k)) v ≡ cond b (after_admission (column_held whole (column_of kinds k) v) new) (column_held whole (column_of kinds k) v)
    split true at =
        ap (place_held (whole_cell whole)) (after v low ∙ ap (λ o. after_find new o (place_in lent.column v)) flag)
        ∙ (held_after (whole_cell whole) (place_in lent.column v) new ∙ ap (λ (h : Option (Admitted Find)). after_admission h new) (sym (here at)))
    split false other = refl

pub either_cell : (b : Bool) (new : Admitted Find) {old other : Option (Admitted Find)} → other ≡ old → cond b (after_admission other new) other ≡ cond b (after_admission old new) old
either_cell b new same = ap (λ (h : Option (Admitted Find)). cond b (after_admission h new) h) same

-- ---- answers

-- the cell of a type that has a column
pub cell_here : (whole : Option WholeFind) (kinds slice : List KindColumn) (kind place : ℕ) (lent : KindColumn) (v : ℕ) → IsPlaceOf slice kind place → slice ≡ kinds → lent ≡ get_or kinds place lent
    → column_held whole (column_of kinds kind) v ≡ place_held (whole_cell whole) (place_in lent.column v)
cell_here whole kinds slice kind place lent v is same read =
    ap (λ (o : Option Cells). column_held whole o v) (column_here kinds kind place lent (subst (λ (l : List KindColumn). IsPlaceOf l kind place) same is) ∙ ap (λ (own : KindColumn). Some own.column) (sym read))

pub left_seen : (whole : Option (Admitted Find)) (place : Place Find) (moment : ℕ) → None ≡ sight_at place moment → shown_at (place_held whole place) moment ≡ shown_at whole moment
left_seen whole place moment is = split place.left refl
  where
    split : (l : Bool) → place.left ≡ l → shown_at (cond l whole place.cell.held) moment ≡ shown_at whole moment
    split true at = refl
    split false at = absurd (some_is_none (shown_at place.cell.held moment) (sym (is ∙ ap (λ b. cond b None (Some (shown_at place.cell.held moment))) at)))

pub own_seen : (whole : Option (Admitted Find)) (place : Place Find) (moment : ℕ) (shown : Option (Shown Find)) → Some shown ≡ sight_at place moment → shown ≡ shown_at (place_held whole place) moment
own_seen whole place moment shown is = split place.left refl
  where
    split : (l : Bool) → place.left ≡ l → shown ≡ shown_at (cond l whole place.cell.held) moment
    split true at = absurd (some_is_none shown (is ∙ ap (λ b. cond b None (Some (shown_at place.cell.held moment))) at))
    split false at =
        let here : Some shown ≡ Some (shown_at place.cell.held moment) = is ∙ ap (λ b. cond b None (Some (shown_at place.cell.held moment))) at in
        cc

-- the cells once a flush of a type is permanent
pub settled_cell : (whole : Option WholeFind) (kinds slice new_kinds : List KindColumn) (kind place : ℕ) (lent : KindColumn) (column : Cells) (number : ℕ)
    → IsPlaceOf slice kind place → slice ≡ kinds → lent ≡ get_or kinds place lent → new_kinds ≡ slice_set kinds place (record { kind = lent.kind; column = column })
    → ((v : ℕ) → place_in column v ≡ place_in lent.column (max number v))
    → (k v : ℕ) → column_held whole (column_of new_kinds k) v ≡ column_held whole (column_of kinds k) (cond (kind == k) (max number v) v)
settled_cell whole kinds slice new_kinds kind place lent column number is_there sliced read put after k v =
    let is : IsPlaceOf kinds kind place = subst (λ (l : List KindColumn). IsPlaceOf l kind place) sliced is_there in
    let same : lent.kind ≡ kind = ap (λ (own : KindColumn). own.kind) read ∙ is.here lent in
    let put' : new_kinds ≡ slice_set kinds place (record { kind = kind; column = column }) = put ∙ ap (λ n. slice_set kinds place (record { kind = n; column = column })) same in
    ap (λ (l : List KindColumn). column_held whole (column_of l k) v) put'
    ∙ (ap (λ (o : Option Cells). column_held whole o v) (column_put kinds kind place column k is)
    ∙ split (kind == k) refl)
  where
    here : (kind == k) ≡ true → (w : ℕ) → column_held whole (column_of kinds k) w ≡ place_held (whole_cell whole) (place_in lent.column w)
    here at w =
        let is : IsPlaceOf kinds kind place = subst (λ (l : List KindColumn). IsPlaceOf l kind place) sliced is_there in
        ap (λ (o : Option Cells). column_held whole o w) (ap (column_of kinds) (sym (eqb-true kind k at)) ∙ (column_here kinds kind place lent is ∙ ap (λ (own : KindColumn). Some own.column) (sym read)))

    split : (b : Bool) → (kind == k) ≡ b → column_held whole (cond b (Some column) (column_of kinds k)) v ≡ column_held whole (column_of kinds k) (cond b (max number v) v)
    split true at = ap (place_held (whole_cell whole)) (after v) ∙ sym (here at (max number v))
    split false other = refl

-- a find that the find of the whole name outranks is not of the highest rank
pub outranked_low : (whole : Option WholeFind) (find : Find) (moment : ℕ) → turns_away (whole_cell whole) (admission_of find find moment) ≡ true → level_of find.rank < 4
outranked_low None find moment is = absurd (false≢true is)
outranked_low (Some w) find moment is = omega (arith, lt_of (level_of find.rank) (level_of w.find.rank) (and_parts _ _ is).1, level_small w.find.rank)
