-- Items of lists, and lists without equal items: lemmas for the crates above.
use Rattle.std.proofs.Common.{◌≡◌, ◌≤◌, Bool, true, false, ◌||◌, cond, List, [], ◌∷◌, ◌++◌, length, map, filter, refl, sym, subst, inl, inr, arith, suc}
use Rattle.std.specs.List.{list_any, Contains, IsDistinct, AllByRecursion}
use Rattle.std.proofs.lemmas.Bool.{false≢true}
use Rattle.dns_name.specs.ListLaws.{all_push}
use Rattle.named_list.specs.ClosestLaws.{in_head, in_tail, in_cases}

-- ---- what is in a list

-- what a filter keeps is in the list, and passes
pub in_filter : {X : Type 0} (p : X → Bool) (xs : List X) (y : X) → Contains (filter p xs) y → Contains xs y × (p y ≡ true)
in_filter p [] y h = absurd (omega (arith, h.1))
in_filter p (x ∷ xs) y h = by (p x) refl h (in_filter p xs y)
  where
    by : (b : Bool) → p x ≡ b → Contains (cond b (x ∷ filter p xs) (filter p xs)) y → (Contains (filter p xs) y → Contains xs y × (p y ≡ true)) → Contains (x ∷ xs) y × (p y ≡ true)
    by true e within more =
        elim (in_cases x (filter p xs) y within) [
          | inl same ↦ (subst (Contains (x ∷ xs)) same (in_head x xs), subst (λ z. p z ≡ true) same e)
          | inr later ↦ let it = more later in (in_tail x xs y it.0, it.1)
        ]
    by false e within more = let it = more within in (in_tail x xs y it.0, it.1)

-- an item that another was made of
pub record IsMade {X Y : Type 0} (f : X → Y) (xs : List X) (y : Y) : Type 0 where
  pub of : X
  pub there : Contains xs of
  pub is : f of ≡ y

-- what is in a mapped list was made of an item
pub in_map : {X Y : Type 0} (f : X → Y) (xs : List X) (y : Y) → Contains (map f xs) y → IsMade f xs y
in_map f [] y h = absurd (omega (arith, h.1))
in_map f (x ∷ xs) y h =
    elim (in_cases (f x) (map f xs) y h) [
      | inl same ↦ record { of = x; there = in_head x xs; is = same }
      | inr later ↦ let it = in_map f xs y later in record { of = it.of; there = in_tail x xs it.of it.there; is = it.is }
    ]

-- ---- distinct items

-- if none passes, all fail
pub any_none : {X : Type 0} (p : X → Bool) (xs : List X) → list_any p xs ≡ false → AllByRecursion (λ x. p x ≡ false) xs
any_none p [] e = tt
any_none p (x ∷ xs) e = by (p x) refl e (any_none p xs)
  where
    by : (b : Bool) → p x ≡ b → (b || list_any p xs) ≡ false → (list_any p xs ≡ false → AllByRecursion (λ y. p y ≡ false) xs) → (p x ≡ false) × AllByRecursion (λ y. p y ≡ false) xs
    by true is none more = absurd (false≢true (sym none))
    by false is none more = (is, more none)

-- an item that differs from all others can go last
pub distinct_push : {X : Type 0} (eq : X → X → Bool) (xs : List X) (y : X) → IsDistinct eq xs → AllByRecursion (λ x. eq x y ≡ false) xs → IsDistinct eq (xs ++ y ∷ [])
unfolding IsDistinct
distinct_push eq [] y h none = (tt, tt)
distinct_push eq (x ∷ xs) y h none = (all_push (λ z. eq x z ≡ false) xs y h.0 none.0, distinct_push eq xs y h.1 none.1)

all_filter : {X Y : Type 0} (f : X → Y) (P : Y → Type 0) (p : X → Bool) (xs : List X) → AllByRecursion P (map f xs) → AllByRecursion P (map f (filter p xs))
all_filter f P p [] h = tt
all_filter f P p (x ∷ xs) h =
    elim (p x) as (λ b. AllByRecursion P (map f (cond b (x ∷ filter p xs) (filter p xs)))) [ true ↦ (h.0, all_filter f P p xs h.1) | false ↦ all_filter f P p xs h.1 ]

-- a filter keeps items distinct
pub distinct_filter : {X Y : Type 0} (f : X → Y) (eq : Y → Y → Bool) (p : X → Bool) (xs : List X) → IsDistinct eq (map f xs) → IsDistinct eq (map f (filter p xs))
unfolding IsDistinct
distinct_filter f eq p [] h = tt
distinct_filter f eq p (x ∷ xs) h =
    elim (p x) as (λ b. IsDistinct eq (map f (cond b (x ∷ filter p xs) (filter p xs)))) [
      | true ↦ (all_filter f (λ y. eq (f x) y ≡ false) p xs h.0, distinct_filter f eq p xs h.1)
      | false ↦ distinct_filter f eq p xs h.1
    ]

-- a filter makes no list longer
pub length_filter : {X : Type 0} (p : X → Bool) (xs : List X) → length (filter p xs) ≤ length xs
length_filter p [] = omega arith
length_filter p (x ∷ xs) = elim (p x) as (λ b. length (cond b (x ∷ filter p xs) (filter p xs)) ≤ suc (length xs)) [ true ↦ omega (arith, length_filter p xs) | false ↦ omega (arith, length_filter p xs) ]
