-- The places that count, as a list of pairs: each once, and as many as are stored.
use Rattle.std.proofs.Common.{◌≡◌, ℕ, ◌+◌, ◌≤◌, Bool, true, false, cond, Option, Some, None, List, [], ◌∷◌, ◌++◌, length, length-append, map, refl, sym, ap, ◌∙◌, subst, arith, ◌⊎◌, inl, inr}
use Rattle.std.specs.Prelude.{◌==◌, ◌&&◌, ◌||◌, is_some, nat_eq, IfSome}
use Rattle.std.specs.Cmp.{IsEquivalence}
use Rattle.std.specs.List.{AllByRecursion, IsDistinct}
use Rattle.std.specs.Map.{keys_of, lookup}
use Rattle.std.specs.Option.{option_map_or}
use Rattle.std.specs.Set.{distinct_count, is_member, unique_keys}
use Rattle.std.proofs.lemmas.Bool.{cases_Bool, eq-eqb, eqb-true, false≢true, and_parts}
use Rattle.std.proofs.lemmas.Cmp.{and_equiv, nat_eq_equiv, on_equiv}
use Rattle.std.proofs.lemmas.List.Folds.{list_any-append}
use Rattle.std.proofs.lemmas.Map.Keys.{IsDistinct-cons, IsDistinct-head, IsDistinct-tail}
use Rattle.std.proofs.lemmas.Map.Made.{length-le_from_is_member}
use Rattle.indexmap.specs.IndexMap.{IndexMap, IsUnique}
use Rattle.dns_name.specs.Labels.{Labels}
use Rattle.dns_name.specs.Order.{name_eq, name_eq_exact, name_equiv}
use Rattle.ranked.specs.declared.find.Scope.{Scope}
use Rattle.ranked.specs.declared.find.Scope.TheVariants.{One, Whole}
use Rattle.cell_store.specs.declared.owner.KindColumn.{KindColumn}
use Rattle.cell_store.specs.declared.owner.OwnerCells.{OwnerCells}
use Rattle.cell_store.specs.Column.{Cells, is_counted}
use Rattle.cell_store.specs.Owner.{column_of, IsUpTo}
use Rattle.cell_store.specs.Store.{AreUpTo}
use Rattle.cell_store.specs.Count.{count_entries, count_kinds, count_of, has_pair, has_place, one_if, pair_eq, scope_eq, stored_in}
use Rattle.cell_store.specs.TestLaws.{and_false, both, either, or_left, or_right}

-- ---- pairs are compared by an equivalence

scope_equiv : IsEquivalence scope_eq
scope_equiv = record { refl = same; symm = turned; congr = alike }
  where
    same : (x : Scope) → scope_eq x x ≡ true
    same (One k) = nat_eq_equiv.refl k
    same Whole = refl

    turned : (x y : Scope) → scope_eq x y ≡ scope_eq y x
    turned (One a) (One b) = nat_eq_equiv.symm a b
    turned (One a) Whole = refl
    turned Whole (One b) = refl
    turned Whole Whole = refl

    alike : (x y z : Scope) → scope_eq x y ≡ true → scope_eq x z ≡ scope_eq y z
    alike (One a) (One b) (One c) is = nat_eq_equiv.congr a b c is
    alike (One a) (One b) Whole is = refl
    alike (One a) Whole z is = absurd (false≢true is)
    alike Whole (One b) z is = absurd (false≢true is)
    alike Whole Whole z is = refl

pub pair_equiv : IsEquivalence pair_eq
pair_equiv = and_equiv (on_equiv (λ (p : Labels × Scope). p.0) name_equiv) (on_equiv (λ (p : Labels × Scope). p.1) scope_equiv)

scope_exact : (x y : Scope) → scope_eq x y ≡ true → x ≡ y
scope_exact (One a) (One b) is = ap (λ n. One n) (eqb-true a b is)
scope_exact (One a) Whole is = absurd (false≢true is)
scope_exact Whole (One b) is = absurd (false≢true is)
scope_exact Whole Whole is = refl

pub pair_exact : (a b : Labels × Scope) → pair_eq a b ≡ true → a ≡ b
pair_exact a b is =
    let parts = and_parts _ _ is in
    let owner : a.0 ≡ b.0 = name_eq_exact a.0 b.0 parts.0 in
    let scope : a.1 ≡ b.1 = scope_exact a.1 b.1 parts.1 in
    (λ i. (owner i, scope i))

pub pair_turned : (a b : Labels × Scope) → pair_eq a b ≡ pair_eq b a
pair_turned a b = pair_equiv.symm a b

-- ---- each key once

module _ {K : Type 0} (eq : K → K → Bool) (laws : IsEquivalence eq) where
  alike_member : (xs : List K) (q x : K) → eq q x ≡ true → is_member eq xs q ≡ is_member eq xs x
  alike_member [] q x is = refl
  alike_member (y ∷ xs) q x is = ap (λ b. b || is_member eq xs q) (laws.congr q x y is) ∙ ap (λ b. eq x y || b) (alike_member xs q x is)

  unique_member : (xs : List K) (q : K) → is_member eq (unique_keys eq xs) q ≡ is_member eq xs q
  unique_member [] q = refl
  unique_member (x ∷ xs) q = by (is_member eq xs x) (eq q x) refl refl (unique_member xs q)
    where
      by : (b c : Bool) → is_member eq xs x ≡ b → eq q x ≡ c → is_member eq (unique_keys eq xs) q ≡ is_member eq xs q → is_member eq (cond b (unique_keys eq xs) (x ∷ unique_keys eq xs)) q ≡ (c || is_member eq xs q)
      by true true m t r = r ∙ (alike_member xs q x t ∙ m)
      by true false m t r = r
      by false c m t r = ap (λ v. v || is_member eq (unique_keys eq xs) q) t ∙ ap (λ v. c || v) r

  apart_all : (x : K) (ys : List K) → is_member eq ys x ≡ false → AllByRecursion (λ y. eq x y ≡ false) ys
  apart_all x [] none = tt
  apart_all x (y ∷ ys) none = by (eq x y) refl none (apart_all x ys)
    where
      by : (b : Bool) → eq x y ≡ b → (b || is_member eq ys x) ≡ false → (is_member eq ys x ≡ false → AllByRecursion (λ y. eq x y ≡ false) ys) → (eq x y ≡ false) × AllByRecursion (λ y. eq x y ≡ false) ys
      by true t g r = absurd (false≢true (sym g))
      by false t g r = (t, r g)

  distinct_none : IsDistinct eq []
  unfolding IsDistinct
  distinct_none = tt

  unique_distinct : (xs : List K) → IsDistinct eq (unique_keys eq xs)
  unique_distinct [] = distinct_none
  unique_distinct (x ∷ xs) = by (is_member eq xs x) refl (unique_distinct xs)
    where
      by : (b : Bool) → is_member eq xs x ≡ b → IsDistinct eq (unique_keys eq xs) → IsDistinct eq (cond b (unique_keys eq xs) (x ∷ unique_keys eq xs))
      by true m r = r
      by false m r = IsDistinct-cons eq x (unique_keys eq xs) (apart_all x (unique_keys eq xs) (unique_member xs x ∙ m)) r

  -- different keys that a list has are at most as many as its different keys
  pub at_most : (xs ys : List K) → IsDistinct eq xs → ((q : K) → is_member eq xs q ≡ true → is_member eq ys q ≡ true) → length xs ≤ distinct_count eq ys
  at_most xs ys once step = length-le_from_is_member laws xs (unique_keys eq ys) once (λ q is. unique_member ys q ∙ step q is)

  -- the different keys of a list are at most as many as those of another that has each of them
  pub at_least : (xs ys : List K) → ((q : K) → is_member eq xs q ≡ true → is_member eq ys q ≡ true) → distinct_count eq xs ≤ length ys
  at_least xs ys step = length-le_from_is_member laws (unique_keys eq xs) ys (unique_distinct xs) (λ q is. step q (sym (unique_member xs q) ∙ is))

-- ---- the places that count

abbrev kind_pairs : Labels → List KindColumn → List (Labels × Scope)
kind_pairs name [] = []
kind_pairs name (own ∷ kinds) = cond (is_counted own.column) ((name, One own.kind) ∷ kind_pairs name kinds) (kind_pairs name kinds)

abbrev entry_pairs : Labels × OwnerCells → List (Labels × Scope)
entry_pairs e = cond (is_some e.1.whole) ((e.0, Whole) ∷ kind_pairs e.0 e.1.kinds.items) (kind_pairs e.0 e.1.kinds.items)

abbrev all_pairs : List (Labels × OwnerCells) → List (Labels × Scope)
all_pairs [] = []
all_pairs (e ∷ es) = entry_pairs e ++ all_pairs es

-- ---- they are as many as are stored

more_length : (b : Bool) (x : Labels × Scope) (xs : List (Labels × Scope)) → length (cond b (x ∷ xs) xs) ≡ one_if b + length xs
more_length true x xs = omega arith
more_length false x xs = omega arith

kind_length : (name : Labels) (kinds : List KindColumn) → length (kind_pairs name kinds) ≡ count_kinds kinds
kind_length name [] = refl
kind_length name (own ∷ kinds) = omega (arith, more_length (is_counted own.column) (name, One own.kind) (kind_pairs name kinds), kind_length name kinds)

entry_length : (e : Labels × OwnerCells) → length (entry_pairs e) ≡ count_of e.1
entry_length e = omega (arith, more_length (is_some e.1.whole) (e.0, Whole) (kind_pairs e.0 e.1.kinds.items), kind_length e.0 e.1.kinds.items)

all_length : (es : List (Labels × OwnerCells)) → length (all_pairs es) ≡ count_entries es
all_length [] = refl
all_length (e ∷ es) = omega (arith, length-append (entry_pairs e) (all_pairs es), entry_length e, all_length es)

-- ---- a place that counts is among them

has_kind_pair : (name : Labels) (kinds : List KindColumn) (n : Labels) → name_eq n name ≡ true → (k : ℕ) → option_map_or is_counted (column_of kinds k) false ≡ true → is_member pair_eq (kind_pairs name kinds) (n, One k) ≡ true
has_kind_pair name [] n same k has = absurd (false≢true has)
has_kind_pair name (own ∷ kinds) n same k has = elim (cases_Bool (own.kind == k)) [
  | inl here ↦
      let counted : is_counted own.column ≡ true = sym (ap (λ b. option_map_or is_counted (cond b (Some own.column) (column_of kinds k)) false) here) ∙ has in
      let kind : scope_eq (One k) (One own.kind) ≡ true = eq-eqb k own.kind (sym (eqb-true own.kind k here)) in
      ap (λ b. is_member pair_eq (cond b ((name, One own.kind) ∷ kind_pairs name kinds) (kind_pairs name kinds)) (n, One k)) counted
      ∙ or_left (name_eq n name && scope_eq (One k) (One own.kind)) (is_member pair_eq (kind_pairs name kinds) (n, One k)) (both (name_eq n name) (scope_eq (One k) (One own.kind)) same kind)
  | inr gone ↦
      let later = has_kind_pair name kinds n same k (sym (ap (λ b. option_map_or is_counted (cond b (Some own.column) (column_of kinds k)) false) gone) ∙ has) in
      split (is_counted own.column) later
]
  where
    split : (b : Bool) → is_member pair_eq (kind_pairs name kinds) (n, One k) ≡ true → is_member pair_eq (cond b ((name, One own.kind) ∷ kind_pairs name kinds) (kind_pairs name kinds)) (n, One k) ≡ true
    split true later = or_right (name_eq n name && scope_eq (One k) (One own.kind)) (is_member pair_eq (kind_pairs name kinds) (n, One k)) later
    split false later = later

has_entry_pair : (e : Labels × OwnerCells) (n : Labels) → name_eq n e.0 ≡ true → (s : Scope) → has_place e.1 s ≡ true → is_member pair_eq (entry_pairs e) (n, s) ≡ true
has_entry_pair e n same (One k) has = split (is_some e.1.whole)
  where
    later : is_member pair_eq (kind_pairs e.0 e.1.kinds.items) (n, One k) ≡ true
    later = has_kind_pair e.0 e.1.kinds.items n same k has

    split : (b : Bool) → is_member pair_eq (cond b ((e.0, Whole) ∷ kind_pairs e.0 e.1.kinds.items) (kind_pairs e.0 e.1.kinds.items)) (n, One k) ≡ true
    split true = or_right (name_eq n e.0 && scope_eq (One k) Whole) (is_member pair_eq (kind_pairs e.0 e.1.kinds.items) (n, One k)) later
    split false = later
has_entry_pair e n same Whole has =
    ap (λ b. is_member pair_eq (cond b ((e.0, Whole) ∷ kind_pairs e.0 e.1.kinds.items) (kind_pairs e.0 e.1.kinds.items)) (n, Whole)) has
    ∙ or_left (name_eq n e.0 && true) (is_member pair_eq (kind_pairs e.0 e.1.kinds.items) (n, Whole)) (both (name_eq n e.0) true same refl)

has_all_pair : (es : List (Labels × OwnerCells)) (q : Labels × Scope) → option_map_or (λ cells. has_place cells q.1) (lookup (name_eq q.0) es) false ≡ true → is_member pair_eq (all_pairs es) q ≡ true
has_all_pair [] q has = absurd (false≢true has)
has_all_pair (e ∷ es) q has = list_any-append (pair_eq q) (entry_pairs e) (all_pairs es) ∙ elim (cases_Bool (name_eq q.0 e.0)) [
  | inl here ↦
      let placed : has_place e.1 q.1 ≡ true = sym (ap (λ b. option_map_or (λ cells. has_place cells q.1) (cond b (Some e.1) (lookup (name_eq q.0) es)) false) here) ∙ has in
      or_left (is_member pair_eq (entry_pairs e) q) (is_member pair_eq (all_pairs es) q) (has_entry_pair e q.0 here q.1 placed)
  | inr gone ↦
      let later = sym (ap (λ b. option_map_or (λ cells. has_place cells q.1) (cond b (Some e.1) (lookup (name_eq q.0) es)) false) gone) ∙ has in
      or_right (is_member pair_eq (entry_pairs e) q) (is_member pair_eq (all_pairs es) q) (has_all_pair es q later)
]

-- ---- each of them is a place that counts

pub no_column : (kinds : List KindColumn) (kind : ℕ) → AllByRecursion (λ n. nat_eq kind n ≡ false) (map (λ (own : KindColumn). own.kind) kinds) → column_of kinds kind ≡ None
no_column [] kind apart = refl
no_column (x ∷ kinds) kind apart =
    ap (λ b. cond b (Some x.column) (column_of kinds kind)) (nat_eq_equiv.symm x.kind kind ∙ apart.0) ∙ no_column kinds kind apart.1

abbrev kind_has : List KindColumn → Scope → Bool
kind_has kinds (One k) = option_map_or is_counted (column_of kinds k) false
kind_has kinds Whole = false

is_kind_pair : (name : Labels) (kinds : List KindColumn) → IsDistinct nat_eq (map (λ (own : KindColumn). own.kind) kinds) → (q : Labels × Scope) → is_member pair_eq (kind_pairs name kinds) q ≡ true → (name_eq q.0 name ≡ true) × (kind_has kinds q.1 ≡ true)
is_kind_pair name [] once q is = absurd (false≢true is)
is_kind_pair name (own ∷ kinds) once q is = split (is_counted own.column) refl is (λ there. is_kind_pair name kinds (IsDistinct-tail nat_eq own.kind (map (λ (own : KindColumn). own.kind) kinds) once) q there)
  where
    more : (b : Bool) → is_counted own.column ≡ b → (s : Scope) → kind_has kinds s ≡ true → kind_has (own ∷ kinds) s ≡ true
    more b at Whole has = absurd (false≢true has)
    more b at (One k) has = elim (cases_Bool (own.kind == k)) [
      | inl here ↦
          let none : column_of kinds k ≡ None = ap (column_of kinds) (sym (eqb-true own.kind k here)) ∙ no_column kinds own.kind (IsDistinct-head nat_eq own.kind (map (λ (own : KindColumn). own.kind) kinds) once) in
          absurd (false≢true (sym (ap (λ (o : Option Cells). option_map_or is_counted o false) none) ∙ has))
      | inr gone ↦ ap (λ b. option_map_or is_counted (cond b (Some own.column) (column_of kinds k)) false) gone ∙ has
    ]

    here : is_counted own.column ≡ true → kind_has (own ∷ kinds) (One own.kind) ≡ true
    here at = ap (λ b. option_map_or is_counted (cond b (Some own.column) (column_of kinds own.kind)) false) (eq-eqb own.kind own.kind refl) ∙ at

    split : (b : Bool) → is_counted own.column ≡ b → is_member pair_eq (cond b ((name, One own.kind) ∷ kind_pairs name kinds) (kind_pairs name kinds)) q ≡ true
        → (is_member pair_eq (kind_pairs name kinds) q ≡ true → (name_eq q.0 name ≡ true) × (kind_has kinds q.1 ≡ true)) → (name_eq q.0 name ≡ true) × (kind_has (own ∷ kinds) q.1 ≡ true)
    split true at there later = elim (either (pair_eq q (name, One own.kind)) (is_member pair_eq (kind_pairs name kinds) q) there) [
      | inl first ↦
          let parts = and_parts _ _ first in
          (parts.0, ap (kind_has (own ∷ kinds)) (scope_exact q.1 (One own.kind) parts.1) ∙ here at)
      | inr rest ↦ ((later rest).0, more true at q.1 (later rest).1)
    ]
    split false at there later = ((later there).0, more false at q.1 (later there).1)

kind_place : (cells : OwnerCells) (s : Scope) → kind_has cells.kinds.items s ≡ true → has_place cells s ≡ true
kind_place cells (One k) has = has
kind_place cells Whole has = absurd (false≢true has)

is_entry_pair : (e : Labels × OwnerCells) → IsDistinct nat_eq (map (λ (own : KindColumn). own.kind) e.1.kinds.items) → (q : Labels × Scope) → is_member pair_eq (entry_pairs e) q ≡ true → (name_eq q.0 e.0 ≡ true) × (has_place e.1 q.1 ≡ true)
is_entry_pair e once q is = split (is_some e.1.whole) refl is
  where
    later : is_member pair_eq (kind_pairs e.0 e.1.kinds.items) q ≡ true → (name_eq q.0 e.0 ≡ true) × (has_place e.1 q.1 ≡ true)
    later there = let it = is_kind_pair e.0 e.1.kinds.items once q there in (it.0, kind_place e.1 q.1 it.1)

    split : (b : Bool) → is_some e.1.whole ≡ b → is_member pair_eq (cond b ((e.0, Whole) ∷ kind_pairs e.0 e.1.kinds.items) (kind_pairs e.0 e.1.kinds.items)) q ≡ true → (name_eq q.0 e.0 ≡ true) × (has_place e.1 q.1 ≡ true)
    split true at there = elim (either (pair_eq q (e.0, Whole)) (is_member pair_eq (kind_pairs e.0 e.1.kinds.items) q) there) [
      | inl first ↦
          let parts = and_parts _ _ first in
          (parts.0, ap (has_place e.1) (scope_exact q.1 Whole parts.1) ∙ at)
      | inr rest ↦ later rest
    ]
    split false at there = later there

lookup_apart : (n : Labels) (es : List (Labels × OwnerCells)) → AllByRecursion (λ m. name_eq n m ≡ false) (keys_of es) → lookup (name_eq n) es ≡ None
lookup_apart n [] apart = refl
lookup_apart n (e ∷ es) apart = ap (λ b. cond b (Some e.1) (lookup (name_eq n) es)) apart.0 ∙ lookup_apart n es apart.1

is_all_pair : (es : List (Labels × OwnerCells)) → IsDistinct name_eq (keys_of es) → AllByRecursion (λ e. IsDistinct nat_eq (map (λ (own : KindColumn). own.kind) e.1.kinds.items)) es
    → (q : Labels × Scope) → is_member pair_eq (all_pairs es) q ≡ true → option_map_or (λ cells. has_place cells q.1) (lookup (name_eq q.0) es) false ≡ true
is_all_pair [] names once q is = absurd (false≢true is)
is_all_pair (e ∷ es) names once q is = elim (either (is_member pair_eq (entry_pairs e) q) (is_member pair_eq (all_pairs es) q) (sym (list_any-append (pair_eq q) (entry_pairs e) (all_pairs es)) ∙ is)) [
  | inl first ↦
      let it = is_entry_pair e once.0 q first in
      ap (λ b. option_map_or (λ cells. has_place cells q.1) (cond b (Some e.1) (lookup (name_eq q.0) es)) false) it.0 ∙ it.1
  | inr rest ↦
      let later = is_all_pair es (IsDistinct-tail name_eq e.0 (keys_of es) names) once.1 q rest in
      elim (cases_Bool (name_eq q.0 e.0)) [
        | inl here ↦
            let none : lookup (name_eq q.0) es ≡ None = ap (λ (n : Labels). lookup (name_eq n) es) (name_eq_exact q.0 e.0 here) ∙ lookup_apart e.0 es (IsDistinct-head name_eq e.0 (keys_of es) names) in
            absurd (false≢true (sym (ap (λ (o : Option OwnerCells). option_map_or (λ cells. has_place cells q.1) o false) none) ∙ later))
        | inr gone ↦ ap (λ b. option_map_or (λ cells. has_place cells q.1) (cond b (Some e.1) (lookup (name_eq q.0) es)) false) gone ∙ later
      ]
]

-- ---- each of them is there once

all_append : (P : Labels × Scope → Type 0) (xs ys : List (Labels × Scope)) → AllByRecursion P xs → AllByRecursion P ys → AllByRecursion P (xs ++ ys)
all_append P [] ys first rest = rest
all_append P (x ∷ xs) ys first rest = (first.0, all_append P xs ys first.1 rest)

other_name : (n m : Labels) (s : Scope) (kinds : List KindColumn) → name_eq n m ≡ false → AllByRecursion (λ y. pair_eq (n, s) y ≡ false) (kind_pairs m kinds)
other_name n m s [] apart = tt
other_name n m s (own ∷ kinds) apart = split (is_counted own.column) (other_name n m s kinds apart)
  where
    split : (b : Bool) → AllByRecursion (λ y. pair_eq (n, s) y ≡ false) (kind_pairs m kinds) → AllByRecursion (λ y. pair_eq (n, s) y ≡ false) (cond b ((m, One own.kind) ∷ kind_pairs m kinds) (kind_pairs m kinds))
    split true rest = (ap (λ b. b && scope_eq s (One own.kind)) apart, rest)
    split false rest = rest

other_kind : (n m : Labels) (s : Scope) (kinds : List KindColumn) → AllByRecursion (λ k. scope_eq s (One k) ≡ false) (map (λ (own : KindColumn). own.kind) kinds) → AllByRecursion (λ y. pair_eq (n, s) y ≡ false) (kind_pairs m kinds)
other_kind n m s [] apart = tt
other_kind n m s (own ∷ kinds) apart = split (is_counted own.column) (other_kind n m s kinds apart.1)
  where
    split : (b : Bool) → AllByRecursion (λ y. pair_eq (n, s) y ≡ false) (kind_pairs m kinds) → AllByRecursion (λ y. pair_eq (n, s) y ≡ false) (cond b ((m, One own.kind) ∷ kind_pairs m kinds) (kind_pairs m kinds))
    split true rest = (ap (λ b. name_eq n m && b) apart.0 ∙ and_false (name_eq n m), rest)
    split false rest = rest

whole_apart : (kinds : List KindColumn) → AllByRecursion (λ k. scope_eq Whole (One k) ≡ false) (map (λ (own : KindColumn). own.kind) kinds)
whole_apart [] = tt
whole_apart (own ∷ kinds) = (refl, whole_apart kinds)

other_entry : (n : Labels) (s : Scope) (es : List (Labels × OwnerCells)) → AllByRecursion (λ m. name_eq n m ≡ false) (keys_of es) → AllByRecursion (λ y. pair_eq (n, s) y ≡ false) (all_pairs es)
other_entry n s [] apart = tt
other_entry n s (e ∷ es) apart = all_append (λ y. pair_eq (n, s) y ≡ false) (entry_pairs e) (all_pairs es) (split (is_some e.1.whole)) (other_entry n s es apart.1)
  where
    split : (b : Bool) → AllByRecursion (λ y. pair_eq (n, s) y ≡ false) (cond b ((e.0, Whole) ∷ kind_pairs e.0 e.1.kinds.items) (kind_pairs e.0 e.1.kinds.items))
    split true = (ap (λ b. b && scope_eq s Whole) apart.0, other_name n e.0 s e.1.kinds.items apart.0)
    split false = other_name n e.0 s e.1.kinds.items apart.0

kinds_once : (name : Labels) (kinds : List KindColumn) (rest : List (Labels × Scope)) → IsDistinct nat_eq (map (λ (own : KindColumn). own.kind) kinds) → ((s : Scope) → AllByRecursion (λ y. pair_eq (name, s) y ≡ false) rest)
    → IsDistinct pair_eq rest → IsDistinct pair_eq (kind_pairs name kinds ++ rest)
kinds_once name [] rest once apart is = is
kinds_once name (own ∷ kinds) rest once apart is = split (is_counted own.column) (kinds_once name kinds rest (IsDistinct-tail nat_eq own.kind (map (λ (own : KindColumn). own.kind) kinds) once) apart is)
  where
    split : (b : Bool) → IsDistinct pair_eq (kind_pairs name kinds ++ rest) → IsDistinct pair_eq (cond b ((name, One own.kind) ∷ kind_pairs name kinds) (kind_pairs name kinds) ++ rest)
    split true later = IsDistinct-cons pair_eq (name, One own.kind) (kind_pairs name kinds ++ rest)
        (all_append (λ y. pair_eq (name, One own.kind) y ≡ false) (kind_pairs name kinds) rest
        (other_kind name name (One own.kind) kinds (IsDistinct-head nat_eq own.kind (map (λ (own : KindColumn). own.kind) kinds) once)) (apart (One own.kind))) later
    split false later = later

entry_once : (e : Labels × OwnerCells) (rest : List (Labels × Scope)) → IsDistinct nat_eq (map (λ (own : KindColumn). own.kind) e.1.kinds.items) → ((s : Scope) → AllByRecursion (λ y. pair_eq (e.0, s) y ≡ false) rest)
    → IsDistinct pair_eq rest → IsDistinct pair_eq (entry_pairs e ++ rest)
entry_once e rest once apart is = split (is_some e.1.whole)
  where
    later : IsDistinct pair_eq (kind_pairs e.0 e.1.kinds.items ++ rest)
    later = kinds_once e.0 e.1.kinds.items rest once apart is

    split : (b : Bool) → IsDistinct pair_eq (cond b ((e.0, Whole) ∷ kind_pairs e.0 e.1.kinds.items) (kind_pairs e.0 e.1.kinds.items) ++ rest)
    split true = IsDistinct-cons pair_eq (e.0, Whole) (kind_pairs e.0 e.1.kinds.items ++ rest)
        (all_append (λ y. pair_eq (e.0, Whole) y ≡ false) (kind_pairs e.0 e.1.kinds.items) rest (other_kind e.0 e.0 Whole e.1.kinds.items (whole_apart e.1.kinds.items)) (apart Whole)) later
    split false = later

all_once : (es : List (Labels × OwnerCells)) → IsDistinct name_eq (keys_of es) → AllByRecursion (λ e. IsDistinct nat_eq (map (λ (own : KindColumn). own.kind) e.1.kinds.items)) es → IsDistinct pair_eq (all_pairs es)
all_once [] names once = distinct_none pair_eq pair_equiv
all_once (e ∷ es) names once =
    entry_once e (all_pairs es) once.0 (λ s. other_entry e.0 s es (IsDistinct-head name_eq e.0 (keys_of es) names)) (all_once es (IsDistinct-tail name_eq e.0 (keys_of es) names) once.1)

pub each_once : (top : ℕ) (es : List (Labels × OwnerCells)) → IsDistinct name_eq (keys_of es) → ((name : Labels) → IfSome (lookup (name_eq name) es) (IsUpTo top)) → AllByRecursion (λ e. IsDistinct nat_eq (map (λ (own : KindColumn). own.kind) e.1.kinds.items)) es
each_once top [] names upto = tt
each_once top (e ∷ es) names upto =
    let first : IsUpTo top e.1 = subst (λ b. IfSome (cond b (Some e.1) (lookup (name_eq e.0) es)) (IsUpTo top)) (name_equiv.refl e.0) (upto e.0) in
    (first.once, each_once top es (IsDistinct-tail name_eq e.0 (keys_of es) names) later)
  where
    later : (name : Labels) → IfSome (lookup (name_eq name) es) (IsUpTo top)
    later name = elim (cases_Bool (name_eq name e.0)) [
      | inl here ↦
          let none : lookup (name_eq name) es ≡ None = ap (λ (n : Labels). lookup (name_eq n) es) (name_eq_exact name e.0 here) ∙ lookup_apart e.0 es (IsDistinct-head name_eq e.0 (keys_of es) names) in
          subst (λ (o : Option OwnerCells). IfSome o (IsUpTo top)) (sym none) tt
      | inr gone ↦ subst (λ b. IfSome (cond b (Some e.1) (lookup (name_eq name) es)) (IsUpTo top)) gone (upto name)
    ]

-- ---- the bounds

-- Where each place that counts is among some pairs, as many count at most as there are different pairs.
pub stored_most : {S : Type 0} (owners : IndexMap Labels OwnerCells S) (top : ℕ) → IsUnique name_eq owners → AreUpTo top owners → (pairs : List (Labels × Scope)) → ((pair : Labels × Scope) → has_pair owners pair ≡ true → is_member pair_eq pairs pair ≡ true)
    → stored_in owners ≤ distinct_count pair_eq pairs
stored_most owners top names upto pairs among =
    let once = each_once top owners.entries names upto in
    let most = at_most pair_eq pair_equiv (all_pairs owners.entries) pairs (all_once owners.entries names once) (λ q is. among q (is_all_pair owners.entries names once q is)) in
    omega (arith, most, all_length owners.entries)

-- Where the place of each of some pairs counts, as many count at least as there are different pairs.
pub stored_least : {S : Type 0} (owners : IndexMap Labels OwnerCells S) (pairs : List (Labels × Scope)) → ((pair : Labels × Scope) → is_member pair_eq pairs pair ≡ true → has_pair owners pair ≡ true) → distinct_count pair_eq pairs ≤ stored_in owners
stored_least owners pairs each =
    let least = at_least pair_eq pair_equiv pairs (all_pairs owners.entries) (λ q is. has_all_pair owners.entries q (each q is)) in
    omega (arith, least, all_length owners.entries)
