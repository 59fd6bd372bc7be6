-- The number of places that count, when the cells of one name have changed.
use Rattle.std.proofs.Common.{◌≡◌, ℕ, zero, suc, ◌+◌, ◌-◌, ◌<◌, ◌≤◌, take, drop, Bool, true, false, cond, Option, Some, None, List, [], ◌∷◌, ◌++◌, length, get_or, map, slice_set, refl, sym, ap, ◌∙◌, subst, arith, inl, inr}
use Rattle.std.specs.Prelude.{◌==◌, ◌||◌, not, is_some, slice_get}
use Rattle.std.specs.List.{AllByRecursion, list_any}
use Rattle.std.specs.Option.{option_map, option_map_or}
use Rattle.std.proofs.lemmas.Bool.{cases_Bool, eqb-true, false≢true}
use Rattle.ranked.specs.declared.cell.Admitted.{Admitted}
use Rattle.ranked.specs.Cell.{admitted_map}
use Rattle.cell_store.specs.declared.version.Version.{Version}
use Rattle.cell_store.specs.declared.owner.KindColumn.{KindColumn}
use Rattle.cell_store.specs.declared.owner.WholeFind.{WholeFind}
use Rattle.cell_store.specs.declared.owner.OwnerCells.{OwnerCells}
use Rattle.cell_store.specs.Version.{lowered}
use Rattle.cell_store.specs.Slots.{version_of, held_of, IsWithin, IsHeldWithin}
use Rattle.cell_store.specs.Column.{Cells}
use Rattle.cell_store.specs.Owner.{column_of, IsSettled, IsPlaceOf, whole_settled}
use Rattle.cell_store.specs.Walk.{IsEach}
use Rattle.cell_store.specs.Count.{has_find, is_counted, one_if, count_kinds, count_of, count_entries}
use Rattle.std.specs.Map.{lookup, set_value}
use Rattle.indexmap.specs.IndexMap.{insert_entry, swap_remove_entry}
use Rattle.std.specs.Map.{keys_of, values_of}
use Rattle.indexmap.proofs.MapLemmas.{Found-position, some_index}
use Rattle.std.specs.Prelude.{position, swap_remove}
use Rattle.dns_name.specs.Labels.{Labels}
use Rattle.dns_name.specs.ListLaws.{never_past}
use Rattle.dns_name.specs.Order.{name_eq}
use Rattle.cell_store.proofs.OwnerLaws.{column_push, column_here}
use Rattle.cell_store.specs.TestLaws.{or_right}

-- ---- a column

pub held_seen : {F : Type 0} (finds : List F) (held : Option (Admitted ℕ)) → IsHeldWithin (length finds) held → is_some (held_of finds held) ≡ is_some held
held_seen finds None low = refl
held_seen {F} finds (Some held) low = split (slice_get finds held.body) refl
  where
    split : (o : Option F) → slice_get finds held.body ≡ o → is_some (option_map (λ (find : F). admitted_map (λ _. find) held) o) ≡ true
    split (Some f) is = refl
    split None is = absurd (never_past finds held.body low is)

pub counted_seen : {F : Type 0} (finds : List F) (versions : List (Version ℕ)) → AllByRecursion (IsWithin (length finds)) versions → list_any has_find (map (version_of finds) versions) ≡ list_any has_find versions
counted_seen finds [] within = refl
counted_seen finds (x ∷ versions) within =
    ap (λ b. b || list_any has_find (map (version_of finds) versions)) (held_seen finds x.place.cell.held within.0) ∙ ap (λ b. is_some x.place.cell.held || b) (counted_seen finds versions within.1)

lowered_finds : (number : ℕ) (versions : List (Version ℕ)) → list_any has_find (map (lowered number) versions) ≡ list_any has_find versions
lowered_finds number [] = refl
lowered_finds number (x ∷ versions) = ap (λ b. is_some x.place.cell.held || b) (lowered_finds number versions)

drop_finds : (i : ℕ) (versions : List (Version ℕ)) → list_any has_find (drop i versions) ≡ true → list_any has_find versions ≡ true
drop_finds zero versions is = is
drop_finds (suc i) [] is = is
drop_finds (suc i) (x ∷ versions) is = or_right (is_some x.place.cell.held) (list_any has_find versions) (drop_finds i versions is)

pub forgot_finds : (number i : ℕ) (versions lower news : List (Version ℕ)) → lower ≡ map (lowered number) versions → news ≡ drop i lower → list_any has_find news ≡ true → list_any has_find versions ≡ true
forgot_finds number i versions lower news each dropped is =
    sym (lowered_finds number versions) ∙ (ap (list_any has_find) (sym each) ∙ drop_finds i lower (ap (list_any has_find) (sym dropped) ∙ is))

-- ---- the columns of a name

pub one_low : (b : Bool) → one_if b ≤ 1
one_low true = omega arith
one_low false = omega arith

pub count_push : (kinds : List KindColumn) (own : KindColumn) → is_counted own.column ≡ false → count_kinds (kinds ++ own ∷ []) ≡ count_kinds kinds
count_push [] own none = ap (λ b. one_if b + 0) none
count_push (x ∷ kinds) own none = ap (λ n. one_if (is_counted x.column) + n) (count_push kinds own none)

pub count_put : (kinds : List KindColumn) (place : ℕ) (new d : KindColumn) → place < length kinds
    → count_kinds (slice_set kinds place new) + one_if (is_counted (get_or kinds place d).column) ≡ count_kinds kinds + one_if (is_counted new.column)
count_put [] place new d low = absurd (omega arith)
count_put (x ∷ kinds) zero new d low = omega arith
count_put (x ∷ kinds) (suc place) new d low = omega (arith, count_put kinds place new d (omega arith))

count_suc : (kinds : List KindColumn) (i : ℕ) (d : KindColumn) → i < length kinds → count_kinds (take (suc i) kinds) ≡ count_kinds (take i kinds) + one_if (is_counted (get_or kinds i d).column)
count_suc [] i d low = absurd (omega arith)
count_suc (x ∷ kinds) zero d low = omega arith
count_suc (x ∷ kinds) (suc i) d low = omega (arith, count_suc kinds i d (omega arith))

pub count_more : (kinds : List KindColumn) (i : ℕ) (d : KindColumn) → i < length kinds → count_kinds (take (i + 1) kinds) ≡ count_kinds (take i kinds) + one_if (is_counted (get_or kinds i d).column)
count_more kinds i d low =
    let next : i + 1 ≡ suc i = omega arith in
    ap (λ n. count_kinds (take n kinds)) next ∙ count_suc kinds i d low

pub count_full : (kinds : List KindColumn) (i : ℕ) → length kinds ≤ i → count_kinds (take i kinds) ≡ count_kinds kinds
count_full [] zero high = refl
count_full [] (suc i) high = refl
count_full (x ∷ kinds) zero high = absurd (omega arith)
count_full (x ∷ kinds) (suc i) high = ap (λ n. one_if (is_counted x.column) + n) (count_full kinds i (omega arith))

pub place_push : (whole : Option WholeFind) (kinds : List KindColumn) (kind : ℕ) (column : Cells) → column_of kinds kind ≡ None → is_counted column ≡ false
    → (k : ℕ) → option_map_or is_counted (column_of (kinds ++ record { kind = kind; column = column } ∷ []) k) false ≡ option_map_or is_counted (column_of kinds k) false
place_push whole kinds kind column none empty k =
    ap (λ (o : Option Cells). option_map_or is_counted o false) (column_push kinds kind column k none)
    ∙ elim (cases_Bool (kind == k)) [
      | inl here ↦
          let there : column_of kinds k ≡ None = ap (column_of kinds) (sym (eqb-true kind k here)) ∙ none in
          ap (λ b. option_map_or is_counted (cond b (Some column) (column_of kinds k)) false) here ∙ (empty ∙ sym (ap (λ (o : Option Cells). option_map_or is_counted o false) there))
      | inr gone ↦ ap (λ b. option_map_or is_counted (cond b (Some column) (column_of kinds k)) false) gone
    ]

pub place_here : (kinds : List KindColumn) (kind place : ℕ) (lent : KindColumn) → IsPlaceOf kinds kind place → lent ≡ get_or kinds place lent → option_map_or is_counted (column_of kinds kind) false ≡ is_counted lent.column
place_here kinds kind place lent is read =
    ap (λ (o : Option Cells). option_map_or is_counted o false) (column_here kinds kind place lent is) ∙ ap (λ (own : KindColumn). is_counted own.column) (sym read)

-- an admission adds one place at most, and none if the column counted before
pub count_admitted : (kinds : List KindColumn) (kind place : ℕ) (lent : KindColumn) (column : Cells) → IsPlaceOf kinds kind place → lent ≡ get_or kinds place lent
    → count_kinds (slice_set kinds place (record { kind = lent.kind; column = column })) ≤ count_kinds kinds + one_if (not (option_map_or is_counted (column_of kinds kind) false))
count_admitted kinds kind place lent column is read =
    let put = count_put kinds place (record { kind = lent.kind; column = column }) lent is.low in
    let was : is_counted (get_or kinds place lent).column ≡ is_counted lent.column = ap (λ (own : KindColumn). is_counted own.column) (sym read) in
    let high = one_low (is_counted column) in
    elim (cases_Bool (is_counted lent.column)) [
      | inl here ↦
          let old : one_if (is_counted (get_or kinds place lent).column) ≡ 1 = ap one_if (was ∙ here) in
          omega (arith, put, old, high)
      | inr gone ↦
          let old : one_if (is_counted (get_or kinds place lent).column) ≡ 0 = ap one_if (was ∙ gone) in
          let more : one_if (not (option_map_or is_counted (column_of kinds kind) false)) ≡ 1 = ap (λ b. one_if (not b)) (place_here kinds kind place lent is read ∙ gone) in
          omega (arith, put, old, more, high)
    ]

one_less : (a b : Bool) → (a ≡ true → b ≡ true) → one_if a ≤ one_if b
one_less true b step = subst (λ x. 1 ≤ one_if x) (sym (step refl)) (omega arith)
one_less false b step = omega arith

-- a column that loses finds counts no more than before
pub count_lost : (kinds : List KindColumn) (place : ℕ) (lent : KindColumn) (column : Cells) → place < length kinds → lent ≡ get_or kinds place lent → (is_counted column ≡ true → is_counted lent.column ≡ true)
    → count_kinds (slice_set kinds place (record { kind = lent.kind; column = column })) ≤ count_kinds kinds
count_lost kinds place lent column low read step =
    let put = count_put kinds place (record { kind = lent.kind; column = column }) lent low in
    let was : one_if (is_counted (get_or kinds place lent).column) ≡ one_if (is_counted lent.column) = ap (λ (own : KindColumn). one_if (is_counted own.column)) (sym read) in
    omega (arith, put, was, one_less (is_counted column) (is_counted lent.column) step)

pub count_settled : (number : ℕ) (olds news : List KindColumn) → IsEach (IsSettled number) olds news → count_kinds news ≤ count_kinds olds
count_settled number [] [] each = omega arith
count_settled number [] (new ∷ news) each = absurd each
count_settled number (old ∷ olds) [] each = absurd each
count_settled number (old ∷ olds) (new ∷ news) each = omega (arith, one_less (is_counted new.column) (is_counted old.column) each.0.3, count_settled number olds news each.1)

pub whole_less : (number : ℕ) (whole other : Option WholeFind) → other ≡ whole_settled number whole → one_if (is_some other) ≤ one_if (is_some whole)
whole_less number None other is = subst (λ (o : Option WholeFind). one_if (is_some o) ≤ 0) (sym is) (omega arith)
whole_less number (Some w) other is = omega (arith, one_low (is_some other))

-- ---- all names

-- the cells of a name that a test finds, replaced
pub count_set : (test : Labels → Bool) (entries : List (Labels × OwnerCells)) (old new : OwnerCells) → lookup test entries ≡ Some old
    → count_entries (set_value test entries new) + count_of old ≡ count_entries entries + count_of new
count_set test [] old new is = let none : None ≡ Some old = is in absurd cc
count_set test (e ∷ entries) old new is = elim (cases_Bool (test e.0)) [
  | inl here ↦
      let there : Some e.1 ≡ Some old = sym (ap (λ b. cond b (Some e.1) (lookup test entries)) here) ∙ is in
      let one : e.1 ≡ old = cc in
      let put : count_entries (set_value test (e ∷ entries) new) ≡ count_of new + count_entries entries = ap (λ b. count_entries (cond b ((e.0, new) ∷ entries) (e ∷ set_value test entries new))) here in
      omega (arith, put, ap count_of one)
  | inr gone ↦
      let there : lookup test entries ≡ Some old = sym (ap (λ b. cond b (Some e.1) (lookup test entries)) gone) ∙ is in
      let put : count_entries (set_value test (e ∷ entries) new) ≡ count_of e.1 + count_entries (set_value test entries new) = ap (λ b. count_entries (cond b ((e.0, new) ∷ entries) (e ∷ set_value test entries new))) gone in
      omega (arith, put, count_set test entries old new there)
]

pub count_found : (test : Labels → Bool) (entries : List (Labels × OwnerCells)) (old : OwnerCells) → lookup test entries ≡ Some old → count_of old ≤ count_entries entries
count_found test [] old is = let none : None ≡ Some old = is in absurd cc
count_found test (e ∷ entries) old is = elim (cases_Bool (test e.0)) [
  | inl here ↦
      let there : Some e.1 ≡ Some old = sym (ap (λ b. cond b (Some e.1) (lookup test entries)) here) ∙ is in
      let one : e.1 ≡ old = cc in
      omega (arith, ap count_of one)
  | inr gone ↦
      let there : lookup test entries ≡ Some old = sym (ap (λ b. cond b (Some e.1) (lookup test entries)) gone) ∙ is in
      omega (arith, count_found test entries old there)
]

pub count_insert : (entries : List (Labels × OwnerCells)) (key : Labels) (new : OwnerCells) → lookup (name_eq key) entries ≡ None → count_entries (insert_entry name_eq entries key new) ≡ count_entries entries + count_of new
count_insert [] key new none = omega arith
count_insert (e ∷ entries) key new none = elim (cases_Bool (name_eq key e.0)) [
  | inl here ↦
      let there : Some e.1 ≡ None = sym (ap (λ b. cond b (Some e.1) (lookup (name_eq key) entries)) here) ∙ none in
      absurd cc
  | inr gone ↦
      let there : lookup (name_eq key) entries ≡ None = sym (ap (λ b. cond b (Some e.1) (lookup (name_eq key) entries)) gone) ∙ none in
      let put : count_entries (insert_entry name_eq (e ∷ entries) key new) ≡ count_of e.1 + count_entries (insert_entry name_eq entries key new) = ap (λ b. count_entries (cond b ((e.0, new) ∷ entries) (e ∷ insert_entry name_eq entries key new))) gone in
      omega (arith, put, count_insert entries key new there)
]

-- ---- one name removed

count_slice : (entries : List (Labels × OwnerCells)) (i : ℕ) (x d : Labels × OwnerCells) → i < length entries → count_entries (slice_set entries i x) + count_of (get_or entries i d).1 ≡ count_entries entries + count_of x.1
count_slice [] i x d low = absurd (omega arith)
count_slice (e ∷ entries) zero x d low = omega arith
count_slice (e ∷ entries) (suc i) x d low = omega (arith, count_slice entries i x d (omega arith))

count_take : (entries : List (Labels × OwnerCells)) (n : ℕ) (d : Labels × OwnerCells) → length entries ≡ suc n → count_entries (take n entries) + count_of (get_or entries n d).1 ≡ count_entries entries
count_take [] n d is = absurd (omega arith)
count_take (e ∷ []) zero d is = omega arith
count_take (e ∷ f ∷ entries) zero d is = absurd (omega arith)
count_take (e ∷ entries) (suc n) d is = omega (arith, count_take entries n d (omega arith))

read_slice : (entries : List (Labels × OwnerCells)) (i n : ℕ) (d : Labels × OwnerCells) → i < length entries → get_or (slice_set entries i (get_or entries n d)) n d ≡ get_or entries n d
read_slice [] i n d low = absurd (omega arith)
read_slice (e ∷ entries) zero zero d low = refl
read_slice (e ∷ entries) zero (suc n) d low = refl
read_slice (e ∷ entries) (suc i) zero d low = refl
read_slice (e ∷ entries) (suc i) (suc n) d low = read_slice entries i n d (omega arith)

length_slice : (entries : List (Labels × OwnerCells)) (i : ℕ) (x : Labels × OwnerCells) → length (slice_set entries i x) ≡ length entries
length_slice [] zero x = refl
length_slice [] (suc i) x = refl
length_slice (e ∷ entries) zero x = refl
length_slice (e ∷ entries) (suc i) x = ap suc (length_slice entries i x)

pub count_swap : (entries : List (Labels × OwnerCells)) (i : ℕ) (d : Labels × OwnerCells) → i < length entries → count_entries (swap_remove entries i d) + count_of (get_or entries i d).1 ≡ count_entries entries
count_swap entries i d low =
    let n = length entries - 1 in
    let set = slice_set entries i (get_or entries n d) in
    let size : length set ≡ suc n = omega (arith, length_slice entries i (get_or entries n d)) in
    let last = ap (λ (e : Labels × OwnerCells). count_of e.1) (read_slice entries i n d low) in
    omega (arith, count_take set n d size, last, count_slice entries i (get_or entries n d) d low)

read_value : (entries : List (Labels × OwnerCells)) (i : ℕ) (old : OwnerCells) → slice_get (values_of entries) i ≡ Some old → (d : Labels × OwnerCells) → (get_or entries i d).1 ≡ old
read_value [] i old is d = let none : None ≡ Some old = is in absurd cc
read_value (e ∷ entries) zero old is d = let there : Some e.1 ≡ Some old = is in cc
read_value (e ∷ entries) (suc i) old is d = read_value entries i old is d

found_place : (test : Labels → Bool) (entries : List (Labels × OwnerCells)) (old : OwnerCells) → lookup test entries ≡ Some old
    → (i : ℕ) × ((position test (keys_of entries) ≡ Some i) × ((i < length entries) × ((d : Labels × OwnerCells) → (get_or entries i d).1 ≡ old)))
found_place test entries old is = split (position test (keys_of entries)) refl
  where
    split : (r : Option ℕ) → position test (keys_of entries) ≡ r → (i : ℕ) × ((position test (keys_of entries) ≡ Some i) × ((i < length entries) × ((d : Labels × OwnerCells) → (get_or entries i d).1 ≡ old)))
    split None at = absurd (false≢true (ap is_some (sym at) ∙ (some_index test entries ∙ ap is_some is)))
    split (Some i) at =
        let found = Found-position test entries i at in
        (i, (at, (found.within, read_value entries i old (sym found.value ∙ is))))

pub count_removed : (test : Labels → Bool) (entries : List (Labels × OwnerCells)) (old : OwnerCells) → lookup test entries ≡ Some old → count_entries (swap_remove_entry test entries) + count_of old ≡ count_entries entries
count_removed test [] old is = let none : None ≡ Some old = is in absurd cc
count_removed test (e ∷ entries) old is =
    let at = found_place test (e ∷ entries) old is in
    let put : swap_remove_entry test (e ∷ entries) ≡ swap_remove (e ∷ entries) at.0 e = ap (λ (o : Option ℕ). option_map_or (λ i. swap_remove (e ∷ entries) i e) o (e ∷ entries)) at.1.0 in
    omega (arith, ap count_entries put, count_swap (e ∷ entries) at.0 e at.1.1.0, ap count_of (at.1.1.1 e))
