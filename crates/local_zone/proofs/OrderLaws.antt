-- Records in the order of their types: what lies on both sides of a place.
use Rattle.std.proofs.Common.{◌≡◌, ℕ, zero, suc, ◌+◌, ◌-◌, ◌<◌, ◌≤◌, ◌==◌, Bool, true, false, cond, List, [], ◌∷◌, ◌++◌, length, map, get_or, take, drop, refl, ap, sym, subst, ◌∙◌, inl, inr, ltb, arith}
use Rattle.std.specs.List.{AllByRecursion, AllWithin, insert, remove}
use Rattle.std.specs.List.Sorted.{IsNonDecreasingBy}
use Rattle.std.proofs.lemmas.Bool.{cases_Bool, eq-eqb, eqb-true, ltb-true, ltb-false}
use Rattle.std.proofs.lemmas.List.{append-nil, get_or_default, length-map, take-append-drop}
use Rattle.std.proofs.lemmas.List.Edits.{length-remove, get_or-remove_below, get_or-remove_above}
use Rattle.std.proofs.lemmas.List.Elements.{filter-append}
use Rattle.dns_text.specs.declared.record.Record.{Record}
use Rattle.local_zone.specs.Change.{retimed_by}
use Rattle.local_zone.specs.Index.{of_kind, HoldSame}
use Rattle.local_zone.specs.Sets.{AreInOrder}
use Rattle.local_zone.proofs.HeldLaws.{held_some, kind_kept, same_left, same_popped, same_pushed}

-- ---- what holds before a place, and from it on

pub front_all : {X : Type 0} (P : X → Type 0) (xs : List X) (i : ℕ) → i ≤ length xs → AllWithin P xs 0 i → AllByRecursion P (take i xs)
front_all P xs zero within h = tt
front_all P [] (suc i) within h = absurd (omega arith)
front_all P (x ∷ xs) (suc i) within h = (h 0 x (omega arith) (omega arith), front_all P xs i (omega arith) (λ k d low high. h (suc k) d (omega arith) (omega arith)))

pub rest_all : {X : Type 0} (P : X → Type 0) (xs : List X) (i : ℕ) → AllWithin P xs i (length xs) → AllByRecursion P (drop i xs)
rest_all P [] zero h = tt
rest_all P [] (suc i) h = tt
rest_all P (x ∷ xs) zero h = (h 0 x (omega arith) (omega arith), rest_all P xs zero (λ k d low high. h (suc k) d (omega arith) (omega arith)))
rest_all P (x ∷ xs) (suc i) h = rest_all P xs i (λ k d low high. h (suc k) d (omega arith) (omega arith))

-- ---- lists without a type, and of one type alone

kind_differs : (a b : ℕ) → (a ≡ b → ⊥) → (a == b) ≡ false
kind_differs a b differ = elim (cases_Bool (a == b)) [ inl same ↦ absurd (differ (eqb-true a b same)) | inr other ↦ other ]

pub lower_none : (kind : ℕ) (xs : List Record) → AllByRecursion (λ r. r.kind < kind) xs → of_kind kind xs ≡ []
lower_none kind [] h = refl
lower_none kind (x ∷ xs) h = ap (λ b. cond b (x ∷ of_kind kind xs) (of_kind kind xs)) (kind_differs x.kind kind (λ e. let low : x.kind < kind = h.0 in omega (arith, e, low))) ∙ lower_none kind xs h.1

pub higher_none : (kind : ℕ) (xs : List Record) → AllByRecursion (λ r. kind < r.kind) xs → of_kind kind xs ≡ []
higher_none kind [] h = refl
higher_none kind (x ∷ xs) h = ap (λ b. cond b (x ∷ of_kind kind xs) (of_kind kind xs)) (kind_differs x.kind kind (λ e. let high : kind < x.kind = h.0 in omega (arith, e, high))) ∙ higher_none kind xs h.1

run_kept : (kind n : ℕ) (xs : List Record) → AllByRecursion (λ r. kind ≤ r.kind) xs → AllByRecursion (λ r. r.kind ≤ kind) (take n xs) → of_kind kind (take n xs) ≡ take n xs
run_kept kind zero xs low up = refl
run_kept kind (suc n) [] low up = refl
run_kept kind (suc n) (x ∷ xs) low up =
    let least : kind ≤ x.kind = low.0 in
    let most : x.kind ≤ kind = up.0 in
    let same : (x.kind == kind) ≡ true = eq-eqb x.kind kind (omega (arith, least, most)) in
    ap (λ b. cond b (x ∷ of_kind kind (take n xs)) (of_kind kind (take n xs))) same ∙ ap (λ (l : List Record). x ∷ l) (run_kept kind n xs low.1 up.1)

kind_cut : (kind n : ℕ) (xs : List Record) → of_kind kind xs ≡ of_kind kind (take n xs) ++ of_kind kind (drop n xs)
kind_cut kind n xs = ap (of_kind kind) (sym (take-append-drop n xs)) ∙ filter-append (λ (r : Record). r.kind == kind) (take n xs) (drop n xs)

-- The records of a type are those behind all lower ones, up to the first higher one.
pub run_of : (kind i n : ℕ) (xs : List Record) → i ≤ length xs → AllWithin (λ r. r.kind < kind) xs 0 i → AllWithin (λ r. kind ≤ r.kind) xs i (length xs)
    → n ≤ length (drop i xs) → AllWithin (λ r. r.kind ≤ kind) (drop i xs) 0 n → AllWithin (λ r. kind < r.kind) (drop i xs) n (length (drop i xs))
    → of_kind kind xs ≡ take n (drop i xs)
run_of kind i n xs within lower from few up over =
    let rest : List Record = drop i xs in
    let none : of_kind kind (take i xs) ≡ [] = lower_none kind (take i xs) (front_all (λ r. r.kind < kind) xs i within lower) in
    let behind : of_kind kind (drop n rest) ≡ [] = higher_none kind (drop n rest) (rest_all (λ r. kind < r.kind) rest n over) in
    let kept : of_kind kind (take n rest) ≡ take n rest = run_kept kind n rest (rest_all (λ r. kind ≤ r.kind) xs i from) (front_all (λ r. r.kind ≤ kind) rest n few up) in
    kind_cut kind i xs ∙ ap (λ (l : List Record). l ++ of_kind kind rest) none ∙ kind_cut kind n rest ∙ (λ j. kept j ++ behind j) ∙ append-nil (take n rest)

-- If no record lies between the lower and the higher ones, there is none of the type.
no_run : (kind n : ℕ) (xs : List Record) → n ≤ length xs → AllWithin (λ r. r.kind < kind) xs 0 n → AllWithin (λ r. kind < r.kind) xs n (length xs) → of_kind kind xs ≡ []
no_run kind n xs within lower over =
    let front : of_kind kind (take n xs) ≡ [] = lower_none kind (take n xs) (front_all (λ r. r.kind < kind) xs n within lower) in
    let behind : of_kind kind (drop n xs) ≡ [] = higher_none kind (drop n xs) (rest_all (λ r. kind < r.kind) xs n over) in
    kind_cut kind n xs ∙ (λ j. front j ++ behind j)

pub none_behind : (kind n : ℕ) (xs : List Record) → AllWithin (λ r. kind < r.kind) xs n (length xs) → of_kind kind (drop n xs) ≡ []
none_behind kind n xs over = higher_none kind (drop n xs) (rest_all (λ r. kind < r.kind) xs n over)

-- ---- one record less

abbrev place : ℕ → ℕ → ℕ
place e k = cond (ltb k e) k (k + 1)

module _ {X : Type 0} (n : X → ℕ) (xs : List X) (e : ℕ) (within : e < length xs) where
  at_place : (k : ℕ) (d : X) → get_or (remove xs e) k d ≡ get_or xs (place e k) d
  at_place k d = by (ltb k e) refl
    where
      by : (b : Bool) → ltb k e ≡ b → get_or (remove xs e) k d ≡ get_or xs (cond (ltb k e) k (k + 1)) d
      by true low = get_or-remove_below xs e d k (ltb-true k e low) within ∙ ap (λ (b : Bool). get_or xs (cond b k (k + 1)) d) (sym low)
      by false high = get_or-remove_above xs e d k (ltb-false k e high) within ∙ ap (λ (b : Bool). get_or xs (cond b k (k + 1)) d) (sym high)

  place_rises : (i j : ℕ) → i ≤ j → place e i ≤ place e j
  place_rises i j le = by (ltb i e) (ltb j e) refl refl
    where
      by : (a b : Bool) → ltb i e ≡ a → ltb j e ≡ b → cond (ltb i e) i (i + 1) ≤ cond (ltb j e) j (j + 1)
      by true true p q = rw (p, q) le
      by true false p q = rw (p, q) (omega (arith, le))
      by false true p q = let low = ltb-false i e p in let high = ltb-true j e q in absurd (omega (arith, le, low, high))
      by false false p q = rw (p, q) (omega (arith, le))

  place_within : (j : ℕ) → j < length (remove xs e) → place e j < length xs
  place_within j few = by (ltb j e) refl
    where
      long : length (remove xs e) + 1 ≡ length xs
      long = length-remove xs e within

      by : (b : Bool) → ltb j e ≡ b → cond (ltb j e) j (j + 1) < length xs
      by true p = rw p (omega (arith, few, long))
      by false p = rw p (omega (arith, few, long))

  -- A list in order without one of its items is in order.
  pub remove_in_order : IsNonDecreasingBy n xs → IsNonDecreasingBy n (remove xs e)
  remove_in_order h i j d le few =
      subst (λ (x : X). n x ≤ n (get_or (remove xs e) j d)) (sym (at_place i d))
      (subst (λ (y : X). n (get_or xs (place e i) d) ≤ n y) (sym (at_place j d)) (h (place e i) (place e j) d (place_rises i j le) (place_within j few)))

-- ---- what a group holds after a change

cut_place : (xs : List Record) (n : ℕ) (d : Record) → n < length xs → xs ≡ take n xs ++ get_or xs n d ∷ drop (suc n) xs
cut_place [] n d within = absurd (omega (arith, within))
cut_place (x ∷ xs) zero d within = refl
cut_place (x ∷ xs) (suc n) d within = ap (λ (l : List Record). x ∷ l) (cut_place xs n d (omega (arith, within)))

-- A record goes behind those of its type.
pub pushed : (e : ℕ) (items all : List Record) (new : Record) → AllWithin (λ r. new.kind < r.kind) items e (length items) → HoldSame items all → HoldSame (insert items e new) (all ++ new ∷ [])
pushed e items all new over h = same_pushed (take e items) (drop e items) all new (none_behind new.kind e items over) (same_left (take-append-drop e items) h)

-- The last record of a type goes.
pub popped : (kind e : ℕ) (items front : List Record) (x last : Record) → 0 < e → e ≤ length items → x ≡ get_or items (e - 1) x → x.kind ≡ kind
    → AllWithin (λ r. kind < r.kind) items e (length items) → last.kind ≡ kind → HoldSame items (front ++ last ∷ []) → HoldSame (remove items (e - 1)) front
popped kind e items front x last some within at here over same h =
    let n : ℕ = e - 1 in
    let next : e ≡ suc n = omega (arith, some) in
    let is : (get_or items n x).kind ≡ last.kind = sym (ap (λ (r : Record). r.kind) at) ∙ here ∙ sym same in
    let behind : of_kind last.kind (drop (suc n) items) ≡ [] = (λ i. of_kind (same i) (drop (sym next i) items)) ∙ none_behind kind e items over in
    same_popped (take n items) (drop (suc n) items) front (get_or items n x) last is behind (same_left (sym (cut_place items n x (omega (arith, some, within)))) h)

-- A list that holds the same as one with this record last has a record of its type.
pub not_popped : (kind e : ℕ) (items front : List Record) (last : Record) → e ≤ length items → AllWithin (λ r. r.kind < kind) items 0 e
    → AllWithin (λ r. kind < r.kind) items e (length items) → last.kind ≡ kind → HoldSame items (front ++ last ∷ []) → ⊥
not_popped kind e items front last within lower over same h =
    held_some items front last (ap (λ (k : ℕ). of_kind k items) same ∙ no_run kind e items within lower over) h

-- If the last of the records up to a type is of a lower one, they all are.
pub all_lower : (kind e : ℕ) (items : List Record) (x : Record) → AreInOrder items → 0 < e → e ≤ length items → x ≡ get_or items (e - 1) x → (x.kind ≡ kind → ⊥)
    → AllWithin (λ r. r.kind ≤ kind) items 0 e → AllWithin (λ r. r.kind < kind) items 0 e
all_lower kind e items x order some within at differ up k d low high =
    let last : (get_or items (e - 1) d).kind ≡ x.kind = ap (λ (r : Record). r.kind) (get_or_default items (e - 1) d x (omega (arith, some, within)) ∙ sym at) in
    let most : (get_or items (e - 1) d).kind ≤ kind = up (e - 1) d (omega arith) (omega (arith, some)) in
    let rises : (get_or items k d).kind ≤ (get_or items (e - 1) d).kind = order k (e - 1) d (omega (arith, high)) (omega (arith, some, within)) in
    elim (cases_Bool (ltb (get_or items k d).kind kind)) [
      | inl lower ↦ ltb-true (get_or items k d).kind kind lower
      | inr not_lower ↦
          let least : kind ≤ (get_or items k d).kind = ltb-false (get_or items k d).kind kind not_lower in
          absurd (differ (omega (arith, rises, last, most, least)))
    ]

-- ---- a time to live changes no place

kind_at : (new : Record) (xs : List Record) (k : ℕ) (d : Record) → k < length xs → (get_or (map (retimed_by new) xs) k d).kind ≡ (get_or xs k d).kind
kind_at new [] k d within = absurd (omega (arith, within))
kind_at new (x ∷ xs) zero d within = kind_kept new x
kind_at new (x ∷ xs) (suc k) d within = kind_at new xs k d (omega (arith, within))

pub order_retimed : (new : Record) (xs : List Record) → AreInOrder xs → AreInOrder (map (retimed_by new) xs)
order_retimed new xs h i j d le within =
    let long : length (map (retimed_by new) xs) ≡ length xs = length-map xs (retimed_by new) in
    let few : j < length xs = omega (arith, within, long) in
    omega (arith, kind_at new xs i d (omega (arith, le, few)), kind_at new xs j d few, h i j d le few)
