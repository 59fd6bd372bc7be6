-- The cells of a name, once a flush is permanent.
use Rattle.std.proofs.Common.{◌≡◌, ℕ, zero, suc, ◌+◌, ◌<◌, ◌≤◌, take, max, Bool, true, false, cond, Option, Some, None, List, [], ◌∷◌, ◌++◌, length, get_or, slice_set, refl, sym, ap, ◌∙◌, subst, arith, ◌⊎◌, inl, inr}
use Rattle.std.specs.Prelude.{◌==◌, ◌||◌, nat_lt, IfSome}
use Rattle.std.specs.List.{AllByRecursion, list_any}
use Rattle.std.proofs.lemmas.Bool.{cases_Bool, eqb-true}
use Rattle.std.proofs.lemmas.Bool.Decides.{nat_tests}
use Rattle.ranked.specs.declared.find.Find.{Find}
use Rattle.ranked.specs.declared.find.Scope.TheVariants.{Whole}
use Rattle.ranked.specs.Find.{admission_of}
use Rattle.cell_store.specs.declared.version.Place.{Place}
use Rattle.cell_store.specs.declared.owner.KindColumn.{KindColumn}
use Rattle.cell_store.specs.declared.owner.WholeFind.{WholeFind}
use Rattle.cell_store.specs.declared.owner.OwnerCells.{OwnerCells}
use Rattle.cell_store.specs.Column.{Cells, place_in}
use Rattle.cell_store.specs.Owner.{column_of, whole_cell, whole_held, place_held, column_held, IsWholeIn, IsLeftWithin, IsOwn, IsWholeUpTo, IsUpTo, CanSettleColumn, IsSettled, IsPlaceOf, whole_settled}
use Rattle.cell_store.specs.Walk.{IsEach}
use Rattle.cell_store.proofs.OwnerLaws.{column_push, column_put, column_here}
use Rattle.cell_store.proofs.OwnLaws.{once_each, own_each, upto_put, wide_settled}
use Rattle.cell_store.specs.TestLaws.{some_is_none}

past_max : (upto number v : ℕ) → number ≤ upto → nat_lt upto v ≡ nat_lt upto (max number v)
past_max upto number v low = split (nat_lt upto v) refl
  where
    split : (b : Bool) → nat_lt upto v ≡ b → nat_lt upto v ≡ nat_lt upto (max number v)
    split true is = grind (arith, nat_tests)
    split false is = grind (arith, nat_tests)

not_past : (upto number : ℕ) → nat_lt upto number ≡ false → number ≤ upto
not_past upto number is = grind (arith, nat_tests)

is_past : (upto number : ℕ) → nat_lt upto number ≡ true → upto < number
is_past upto number is = grind (arith, nat_tests)

past_number : (upto number v : ℕ) → nat_lt upto number ≡ true → nat_lt upto (max number v) ≡ true
past_number upto number v is = grind (arith, nat_tests)

-- a type that has no column, if the flush can become permanent
pub settles_cell : (whole : Option WholeFind) (kinds : List KindColumn) (kind number : ℕ) → column_of kinds kind ≡ None → CanSettleColumn number whole (column_of kinds kind)
    → (k v : ℕ) → column_held whole (column_of kinds k) v ≡ column_held whole (column_of kinds k) (cond (kind == k) (max number v) v)
settles_cell whole kinds kind number none settles k v = elim (cases_Bool (kind == k)) [
  | inl here ↦
      let there : column_of kinds k ≡ None = ap (column_of kinds) (sym (eqb-true kind k here)) ∙ none in
      rw (here, there) (stays whole (subst (λ (o : Option Cells). CanSettleColumn number whole o) none settles))
  | inr gone ↦ rw gone refl
]
  where
    stays : (w : Option WholeFind) → CanSettleColumn number w None → whole_held w v ≡ whole_held w (max number v)
    stays None settles = refl
    stays (Some w) settles = ap (λ b. cond b None (Some (admission_of w.find w.find w.since))) (past_max w.upto number v settles)

-- the find of the whole name
settled_whole : (whole : Option WholeFind) (number v : ℕ) → whole_held (whole_settled number whole) v ≡ whole_held whole (max number v)
settled_whole None number v = refl
settled_whole (Some w) number v = elim (cases_Bool (nat_lt w.upto number)) [
  | inl past ↦
      ap (λ b. whole_held (cond b None (Some w)) v) past ∙ sym (ap (λ b. cond b None (Some (admission_of w.find w.find w.since))) (past_number w.upto number v past))
  | inr here ↦
      ap (λ b. whole_held (cond b None (Some w)) v) here ∙ ap (λ b. cond b None (Some (admission_of w.find w.find w.since))) (past_max w.upto number v (not_past w.upto number here))
]

settled_place : (whole : Option WholeFind) (number v : ℕ) (place : Place Find) → (place.left ≡ true → IsWholeIn whole (max number v))
    → place_held (whole_cell (whole_settled number whole)) place ≡ place_held (whole_cell whole) place
settled_place None number v place left = refl
settled_place (Some w) number v place left = elim (cases_Bool (nat_lt w.upto number)) [
  | inl past ↦ elim (cases_Bool place.left) [
    | inl here ↦
        let low : max number v ≤ w.upto = left here in
        absurd (omega (arith, low, is_past w.upto number past))
    | inr own ↦ ap (λ b. cond b (whole_cell (whole_settled number (Some w))) place.cell.held) own ∙ sym (ap (λ b. cond b (whole_cell (Some w)) place.cell.held) own)
  ]
  | inr here ↦ ap (λ b. place_held (whole_cell (cond b None (Some w))) place) here
]

pub settled_cells : (whole : Option WholeFind) (number : ℕ) (olds news : List KindColumn) → IsEach (IsSettled number) olds news → AllByRecursion (λ own. IsLeftWithin whole own.column) olds
    → (k v : ℕ) → column_held (whole_settled number whole) (column_of news k) v ≡ column_held whole (column_of olds k) (max number v)
settled_cells whole number [] [] each lefts k v = settled_whole whole number v
settled_cells whole number [] (new ∷ news) each lefts k v = absurd each
settled_cells whole number (old ∷ olds) [] each lefts k v = absurd each
settled_cells whole number (old ∷ olds) (new ∷ news) each lefts k v =
    ap (λ n. column_held (whole_settled number whole) (cond (n == k) (Some new.column) (column_of news k)) v) each.0.0
    ∙ elim (cases_Bool (old.kind == k)) [
      | inl here ↦
          ap (λ b. column_held (whole_settled number whole) (cond b (Some new.column) (column_of news k)) v) here
          ∙ (ap (place_held (whole_cell (whole_settled number whole))) (each.0.2 v)
          ∙ (settled_place whole number v (place_in old.column (max number v)) (lefts.0 (max number v))
          ∙ sym (ap (λ b. column_held whole (cond b (Some old.column) (column_of olds k)) (max number v)) here)))
      | inr gone ↦
          ap (λ b. column_held (whole_settled number whole) (cond b (Some new.column) (column_of news k)) v) gone
          ∙ (settled_cells whole number olds news each.1 lefts.1 k v
          ∙ sym (ap (λ b. column_held whole (cond b (Some old.column) (column_of olds k)) (max number v)) gone))
    ]

-- ---- no admission has reached a later version, as before

settled_within : (whole : Option WholeFind) (number : ℕ) (old new : Cells) → ((v : ℕ) → place_in new v ≡ place_in old (max number v)) → IsLeftWithin whole old → IsLeftWithin (whole_settled number whole) new
settled_within None number old new places left = λ v is. tt
settled_within (Some w) number old new places left = λ v is.
    let low : max number v ≤ w.upto = left (max number v) (ap (λ (p : Place Find). p.left) (sym (places v)) ∙ is) in
    elim (cases_Bool (nat_lt w.upto number)) [
      | inl past ↦ subst (λ (o : Option WholeFind). IsWholeIn o v) (sym (ap (λ b. cond b None (Some w)) past)) tt
      | inr here ↦ subst (λ (o : Option WholeFind). IsWholeIn o v) (sym (ap (λ b. cond b None (Some w)) here)) (omega (arith, low))
    ]

settled_lefts : (whole : Option WholeFind) (number : ℕ) (olds news : List KindColumn) → IsEach (IsSettled number) olds news → AllByRecursion (λ own. IsLeftWithin whole own.column) olds
    → AllByRecursion (λ own. IsLeftWithin (whole_settled number whole) own.column) news
settled_lefts whole number [] [] each lefts = tt
settled_lefts whole number [] (new ∷ news) each lefts = absurd each
settled_lefts whole number (old ∷ olds) [] each lefts = absurd each
settled_lefts whole number (old ∷ olds) (new ∷ news) each lefts = (settled_within whole number old.column new.column each.0.2 lefts.0, settled_lefts whole number olds news each.1 lefts.1)

settled_uptos : (number top : ℕ) (olds news : List KindColumn) → IsEach (IsSettled number) olds news → AllByRecursion (λ own. own.column.upto ≤ top) olds → AllByRecursion (λ own. own.column.upto ≤ top) news
settled_uptos number top [] [] each all = tt
settled_uptos number top [] (new ∷ news) each all = absurd each
settled_uptos number top (old ∷ olds) [] each all = absurd each
settled_uptos number top (old ∷ olds) (new ∷ news) each all = (subst (λ n. n ≤ top) (sym each.0.1) all.0, settled_uptos number top olds news each.1 all.1)

settled_whole_upto : (number top : ℕ) (whole : Option WholeFind) → IsWholeUpTo top whole → IsWholeUpTo top (whole_settled number whole)
settled_whole_upto number top None upto = tt
settled_whole_upto number top (Some w) upto = split (nat_lt w.upto number)
  where
    split : (b : Bool) → IsWholeUpTo top (cond b None (Some w))
    split true = tt
    split false = upto

pub settled_upto : (number top : ℕ) (old new : OwnerCells) → new.whole ≡ whole_settled number old.whole → IsEach (IsSettled number) old.kinds.items new.kinds.items → IsUpTo top old → IsUpTo top new
settled_upto number top old new whole each upto = record {
  whole = subst (λ (o : Option WholeFind). IsWholeUpTo top o) (sym whole) (settled_whole_upto number top old.whole upto.whole);
  kinds = settled_uptos number top old.kinds.items new.kinds.items each upto.kinds;
  left = subst (λ (o : Option WholeFind). AllByRecursion (λ own. IsLeftWithin o own.column) new.kinds.items) (sym whole) (settled_lefts old.whole number old.kinds.items new.kinds.items each upto.left);
  once = once_each number old.kinds.items new.kinds.items each upto.once;
  wide = subst (λ (o : Option WholeFind). IfSome o (λ w. w.find.scope ≡ Whole)) (sym whole) (wide_settled number old.whole upto.wide);
  own = own_each number old.kinds.items new.kinds.items each upto.own;
}

-- the column of one type alone
pub left_settled : (whole : Option WholeFind) (number : ℕ) (old new : Cells) → ((v : ℕ) → place_in new v ≡ place_in old (max number v)) → IsLeftWithin whole old → IsLeftWithin whole new
left_settled None number old new places left = λ v is. tt
left_settled (Some w) number old new places left = λ v is.
    let low : max number v ≤ w.upto = left (max number v) (ap (λ (p : Place Find). p.left) (sym (places v)) ∙ is) in
    omega (arith, low)

-- ---- a flush can become permanent

settles_either : (whole : Option WholeFind) (number : ℕ) (o : Option Cells) (b : Bool) (column : Cells) → CanSettleColumn number whole o → CanSettleColumn number whole (cond b (Some column) o)
settles_either None number o b column settles = tt
settles_either (Some w) number o true column settles = tt
settles_either (Some w) number o false column settles = settles

pub settles_push : (whole : Option WholeFind) (kinds : List KindColumn) (kind : ℕ) (column : Cells) → column_of kinds kind ≡ None
    → (n k : ℕ) → CanSettleColumn n whole (column_of kinds k) → CanSettleColumn n whole (column_of (kinds ++ record { kind = kind; column = column } ∷ []) k)
settles_push whole kinds kind column none n k settles =
    subst (λ (o : Option Cells). CanSettleColumn n whole o) (sym (column_push kinds kind column k none)) (settles_either whole n (column_of kinds k) (kind == k) column settles)

pub settles_put : (whole : Option WholeFind) (kinds : List KindColumn) (kind place : ℕ) (lent : KindColumn) (column : Cells) → IsPlaceOf kinds kind place → lent ≡ get_or kinds place lent
    → (n k : ℕ) → CanSettleColumn n whole (column_of kinds k) → CanSettleColumn n whole (column_of (slice_set kinds place (record { kind = lent.kind; column = column })) k)
settles_put whole kinds kind place lent column is read n k settles =
    let same : lent.kind ≡ kind = ap (λ (own : KindColumn). own.kind) read ∙ is.here lent in
    subst (λ (o : Option Cells). CanSettleColumn n whole o) (sym (ap (λ m. column_of (slice_set kinds place (record { kind = m; column = column })) k) same ∙ column_put kinds kind place column k is))
    (settles_either whole n (column_of kinds k) (kind == k) column settles)

pub settles_here : (whole : Option WholeFind) (kinds : List KindColumn) (kind place n : ℕ) (d : KindColumn) → IsPlaceOf kinds kind place → CanSettleColumn n whole (column_of kinds kind)
settles_here None kinds kind place n d is = tt
settles_here (Some w) kinds kind place n d is = subst (λ (o : Option Cells). CanSettleColumn n (Some w) o) (sym (column_here kinds kind place d is)) tt

both_settles : (whole other : Option WholeFind) (n : ℕ) (o p : Option Cells) → (other ≡ None) ⊎ (other ≡ whole) → ((p ≡ None → ⊥) ⊎ (p ≡ o)) → CanSettleColumn n whole o → CanSettleColumn n other p
both_settles whole other n o p (inl none) here settles = subst (λ (w : Option WholeFind). CanSettleColumn n w p) (sym none) tt
both_settles None other n o p (inr same) here settles = subst (λ (w : Option WholeFind). CanSettleColumn n w p) (sym same) tt
both_settles (Some w) other n o p (inr same) here settles = subst (λ (x : Option WholeFind). CanSettleColumn n x p) (sym same) (split p here)
  where
    split : (q : Option Cells) → ((q ≡ None → ⊥) ⊎ (q ≡ o)) → CanSettleColumn n (Some w) q
    split (Some c) h = tt
    split None (inl some) = absurd (some refl)
    split None (inr e) = subst (λ (x : Option Cells). CanSettleColumn n (Some w) x) (sym e) settles

settled_or : (number : ℕ) (whole : Option WholeFind) → (whole_settled number whole ≡ None) ⊎ (whole_settled number whole ≡ whole)
settled_or number None = inl refl
settled_or number (Some w) = elim (cases_Bool (nat_lt w.upto number)) [
  | inl past ↦ inl (ap (λ b. cond b None (Some w)) past)
  | inr here ↦ inr (ap (λ b. cond b None (Some w)) here)
]

settled_column : (number : ℕ) (olds news : List KindColumn) → IsEach (IsSettled number) olds news → (k : ℕ) → (column_of news k ≡ None → ⊥) ⊎ (column_of news k ≡ column_of olds k)
settled_column number [] [] each k = inr refl
settled_column number [] (new ∷ news) each k = absurd each
settled_column number (old ∷ olds) [] each k = absurd each
settled_column number (old ∷ olds) (new ∷ news) each k = elim (cases_Bool (new.kind == k)) [
  | inl here ↦ inl (λ none. some_is_none new.column (sym (ap (λ b. cond b (Some new.column) (column_of news k)) here) ∙ none))
  | inr gone ↦
      let away : (old.kind == k) ≡ false = ap (λ n. n == k) (sym each.0.0) ∙ gone in
      rw (gone, away) (settled_column number olds news each.1 k)
]

pub settled_settles : (number : ℕ) (whole other : Option WholeFind) (olds news : List KindColumn) → other ≡ whole_settled number whole → IsEach (IsSettled number) olds news
    → (n k : ℕ) → CanSettleColumn n whole (column_of olds k) → CanSettleColumn n other (column_of news k)
settled_settles number whole other olds news is each n k settles =
    both_settles whole other n (column_of olds k) (column_of news k)
    (subst (λ (o : Option WholeFind). (o ≡ None) ⊎ (o ≡ whole)) (sym is) (settled_or number whole)) (settled_column number olds news each k) settles

-- the content of a column may change, if its references to the whole name were there before
pub left_put : (top : ℕ) (old new : OwnerCells) (kind place : ℕ) (lent : KindColumn) (column : Cells) → new.whole ≡ old.whole → new.kinds.items ≡ slice_set old.kinds.items place (record { kind = lent.kind; column = column })
    → place < length old.kinds.items → lent ≡ get_or old.kinds.items place lent → column.upto ≤ top → ((v : ℕ) → (place_in column v).left ≡ true → (place_in lent.column v).left ≡ true)
    → (IsOwn lent.kind lent.column → IsOwn lent.kind column) → IsUpTo top old → IsUpTo top new
left_put top old new kind place lent column whole put low read upto left own is = upto_put top old new place lent column whole put low read upto (λ was v here. was v (left v here)) own is

-- ---- some types, one after the other

max_twice : (number v : ℕ) → max number (max number v) ≡ max number v
max_twice number v = grind arith

pub settled_twice : (a b : Bool) (number v : ℕ) → cond a (max number (cond b (max number v) v)) (cond b (max number v) v) ≡ cond (a || b) (max number v) v
settled_twice true true number v = max_twice number v
settled_twice true false number v = refl
settled_twice false b number v = refl

or_false : (b : Bool) → (b || false) ≡ b
or_false true = refl
or_false false = refl

or_assoc : (a b c : Bool) → (a || (b || c)) ≡ ((a || b) || c)
or_assoc true b c = refl
or_assoc false b c = refl

any_suc : (p : ℕ → Bool) (xs : List ℕ) (i d : ℕ) → i < length xs → list_any p (take (suc i) xs) ≡ (list_any p (take i xs) || p (get_or xs i d))
any_suc p [] i d low = absurd (omega arith)
any_suc p (x ∷ xs) zero d low = or_false (p x)
any_suc p (x ∷ xs) (suc i) d low = ap (λ b. p x || b) (any_suc p xs i d (omega arith)) ∙ or_assoc (p x) (list_any p (take i xs)) (p (get_or xs i d))

pub any_more : (p : ℕ → Bool) (xs : List ℕ) (i d : ℕ) → i < length xs → list_any p (take (i + 1) xs) ≡ (list_any p (take i xs) || p (get_or xs i d))
any_more p xs i d low =
    let next : i + 1 ≡ suc i = omega arith in
    ap (λ n. list_any p (take n xs)) next ∙ any_suc p xs i d low

all_suc : (P Q : ℕ → Type 0) (xs : List ℕ) (i d : ℕ) → i < length xs → ((k : ℕ) → P k → Q k) → AllByRecursion P (take i xs) → Q (get_or xs i d) → AllByRecursion Q (take (suc i) xs)
all_suc P Q [] i d low step all here = absurd (omega arith)
all_suc P Q (x ∷ xs) zero d low step all here = (here, tt)
all_suc P Q (x ∷ xs) (suc i) d low step all here = (step x all.0, all_suc P Q xs i d (omega arith) step all.1 here)

pub all_more : (P Q : ℕ → Type 0) (xs : List ℕ) (i d : ℕ) → i < length xs → ((k : ℕ) → P k → Q k) → AllByRecursion P (take i xs) → Q (get_or xs i d) → AllByRecursion Q (take (i + 1) xs)
all_more P Q xs i d low step all here =
    let next : suc i ≡ i + 1 = omega arith in
    subst (λ n. AllByRecursion Q (take n xs)) next (all_suc P Q xs i d low step all here)

pub all_read : (P : ℕ → Type 0) (xs : List ℕ) (i d : ℕ) → AllByRecursion P xs → i < length xs → P (get_or xs i d)
all_read P [] i d all low = absurd (omega arith)
all_read P (x ∷ xs) zero d all low = all.0
all_read P (x ∷ xs) (suc i) d all low = all_read P xs i d all.1 (omega arith)
