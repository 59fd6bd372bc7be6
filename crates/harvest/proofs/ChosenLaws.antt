-- The finds that are handed to a cache: few, small, in order, and those first that come first.
use Rattle.std.proofs.Common.{◌≡◌, ℕ, zero, suc, ◌+◌, ◌-◌, ◌*◌, ◌<◌, ◌≤◌, Bool, true, false, List, [], ◌∷◌, length, take, cond, leb, ltb, map, refl, sym, ap, ◌∙◌, inl, inr, arith}
use Rattle.std.specs.List.{AllByRecursion, Contains, filter, sum_by}
use Rattle.std.proofs.lemmas.Bool.{cases_Bool, lt-ltb, ltb-true, leb-true}
use Rattle.std.proofs.lemmas.List.{take_all, take-map, length-map, length-take}
use Rattle.std.proofs.lemmas.List.Elements.{All-from_recursion}
use Rattle.std.proofs.lemmas.List.Sums.{sum_by-le}
use Rattle.dns_name.specs.Labels.{Labels}
use Rattle.ranked.specs.declared.find.Find.{Find}
use Rattle.ranked.specs.Memory.{body_memory}
use Rattle.ranked.specs.Set.{IsInOrder, none, kept, left}
use Rattle.neg_rule.specs.Negative.{Said, said_by}
use Rattle.harvest.specs.Chosen.{is_small, is_first, servers_in, with_few, chosen_by, chosen_of}
use Rattle.harvest.proofs.ZoneLaws.{contained}

-- ---- in order

nothing : {X : Type 0} (xs : List X) → IsInOrder [] xs
nothing [] = none
nothing (x ∷ xs) = left (nothing xs)

order_take : {X : Type 0} (n : ℕ) (xs : List X) → IsInOrder (take n xs) xs
order_take zero xs = nothing xs
order_take (suc n) [] = none
order_take (suc n) (x ∷ xs) = kept (order_take n xs)

order_filter : {X : Type 0} (p : X → Bool) (xs : List X) → IsInOrder (filter p xs) xs
order_filter p [] = none
order_filter p (x ∷ xs) =
    let more = order_filter p xs in
    elim (p x) as (λ b. IsInOrder (cond b (x ∷ filter p xs) (filter p xs)) (x ∷ xs)) [ true ↦ kept more | false ↦ left more ]

order_both : {X : Type 0} {few some all : List X} → IsInOrder few some → IsInOrder some all → IsInOrder few all
order_both h none = h
order_both (kept h) (kept k) = kept (order_both h k)
order_both (left h) (kept k) = left (order_both h k)
order_both h (left k) = left (order_both h k)

all_of_order : {X : Type 0} (P : X → Type 0) {some all : List X} → IsInOrder some all → AllByRecursion P all → AllByRecursion P some
all_of_order P none h = tt
all_of_order P (kept order) h = (h.0, all_of_order P order h.1)
all_of_order P (left order) h = all_of_order P order h.1

-- ---- the elements that come first, and few others

filter_fewer : {X : Type 0} (p : X → Bool) (xs : List X) → length (filter p xs) ≤ length xs
filter_fewer p [] = omega arith
filter_fewer p (x ∷ xs) =
    let more = filter_fewer p xs in
    elim (p x) as (λ b. length (cond b (x ∷ filter p xs) (filter p xs)) ≤ suc (length xs)) [ true ↦ omega (arith, more) | false ↦ omega (arith, more) ]

module _ {X : Type 0} (first : X → Bool) where
  order_few : (n : ℕ) (xs : List X) → IsInOrder (with_few first n xs) xs
  order_few n [] = none
  order_few n (x ∷ xs) =
      elim (first x) as (λ b. IsInOrder (cond b (x ∷ with_few first n xs) (cond (ltb 0 n) (x ∷ with_few first (n - 1) xs) (with_few first n xs))) (x ∷ xs)) [
        | true ↦ kept (order_few n xs)
        | false ↦ elim (ltb 0 n) as (λ b. IsInOrder (cond b (x ∷ with_few first (n - 1) xs) (with_few first n xs)) (x ∷ xs)) [ true ↦ kept (order_few (n - 1) xs) | false ↦ left (order_few n xs) ]
      ]

  -- If the others are few, nothing is left out.
  few_are_all : (n : ℕ) (xs : List X) → length xs ≤ n + length (filter first xs) → with_few first n xs ≡ xs
  few_are_all n [] h = refl
  few_are_all n (x ∷ xs) h =
      elim (first x) as (λ b. suc (length xs) ≤ n + length (cond b (x ∷ filter first xs) (filter first xs)) → cond b (x ∷ with_few first n xs) (cond (ltb 0 n) (x ∷ with_few first (n - 1) xs) (with_few first n xs)) ≡ x ∷ xs) [
        | true ↦ λ h. ap (λ (ys : List X). x ∷ ys) (few_are_all n xs (omega (arith, h)))
        | false ↦ λ h.
            let some : 0 < n = omega (arith, h, filter_fewer first xs) in
            ap (λ b. cond b (x ∷ with_few first (n - 1) xs) (with_few first n xs)) (lt-ltb 0 n some) ∙ ap (λ (ys : List X). x ∷ ys) (few_are_all (n - 1) xs (omega (arith, h, some)))
      ] h

  -- ---- one element

  filter_kept : (x : X) (xs : List X) → first x ≡ true → filter first (x ∷ xs) ≡ x ∷ filter first xs
  filter_kept x xs here = ap (λ b. cond b (x ∷ filter first xs) (filter first xs)) here

  filter_left : (x : X) (xs : List X) → first x ≡ false → filter first (x ∷ xs) ≡ filter first xs
  filter_left x xs apart = ap (λ b. cond b (x ∷ filter first xs) (filter first xs)) apart

  few_first : (n : ℕ) (x : X) (xs : List X) → first x ≡ true → with_few first n (x ∷ xs) ≡ x ∷ with_few first n xs
  few_first n x xs here = ap (λ b. cond b (x ∷ with_few first n xs) (cond (ltb 0 n) (x ∷ with_few first (n - 1) xs) (with_few first n xs))) here

  few_other : (n : ℕ) (x : X) (xs : List X) → first x ≡ false → with_few first n (x ∷ xs) ≡ cond (ltb 0 n) (x ∷ with_few first (n - 1) xs) (with_few first n xs)
  few_other n x xs apart = ap (λ b. cond b (x ∷ with_few first n xs) (cond (ltb 0 n) (x ∷ with_few first (n - 1) xs) (with_few first n xs))) apart

  other_out : (n : ℕ) (x : X) (xs : List X) → first x ≡ false → filter first (with_few first (n - 1) xs) ≡ filter first xs → filter first (with_few first n xs) ≡ filter first xs
      → filter first (cond (ltb 0 n) (x ∷ with_few first (n - 1) xs) (with_few first n xs)) ≡ filter first xs
  other_out n x xs apart fewer few =
      elim (ltb 0 n) as (λ b. filter first (cond b (x ∷ with_few first (n - 1) xs) (with_few first n xs)) ≡ filter first xs) [ true ↦ filter_left x (with_few first (n - 1) xs) apart ∙ fewer | false ↦ few ]

  -- Of those that come first none is left out.
  first_stay : (n : ℕ) (xs : List X) → filter first (with_few first n xs) ≡ filter first xs
  first_stay n [] = refl
  first_stay n (x ∷ xs) =
      elim (cases_Bool (first x)) [
        | inl here ↦ ap (λ (ys : List X). filter first ys) (few_first n x xs here) ∙ filter_kept x (with_few first n xs) here ∙ ap (λ (ys : List X). x ∷ ys) (first_stay n xs) ∙ sym (filter_kept x xs here)
        | inr apart ↦ ap (λ (ys : List X). filter first ys) (few_other n x xs apart) ∙ other_out n x xs apart (first_stay (n - 1) xs) (first_stay n xs) ∙ sym (filter_left x xs apart)
      ]

  few_length : (n : ℕ) (xs : List X) → length (with_few first n xs) ≤ length (filter first xs) + n
  few_length n [] = omega arith
  few_length n (x ∷ xs) =
      elim (first x) as (λ b. length (cond b (x ∷ with_few first n xs) (cond (ltb 0 n) (x ∷ with_few first (n - 1) xs) (with_few first n xs))) ≤ length (cond b (x ∷ filter first xs) (filter first xs)) + n) [
        | true ↦ omega (arith, few_length n xs)
        | false ↦ elim (ltb 0 n) as (λ b. (b ≡ true → 0 < n) → length (cond b (x ∷ with_few first (n - 1) xs) (with_few first n xs)) ≤ length (filter first xs) + n) [
          | true ↦ λ some. omega (arith, some refl, few_length (n - 1) xs)
          | false ↦ λ some. omega (arith, few_length n xs)
        ] (λ is. ltb-true 0 n is)
      ]

  -- ---- those that are chosen

  pub chosen_order : (xs : List X) → IsInOrder (chosen_by first xs) xs
  chosen_order xs = order_both (order_take 64 (with_few first (64 - length (filter first xs)) xs)) (order_few (64 - length (filter first xs)) xs)

  pub chosen_few : (xs : List X) → length (chosen_by first xs) ≤ 64
  chosen_few xs = omega (arith, length-take 64 (with_few first (64 - length (filter first xs)) xs))

  pub chosen_all : (xs : List X) → length xs ≤ 64 → chosen_by first xs ≡ xs
  chosen_all xs few =
      let same = few_are_all (64 - length (filter first xs)) xs (omega (arith, few, filter_fewer first xs)) in
      ap (λ (ys : List X). take 64 ys) same ∙ take_all 64 xs few

  pub chosen_first : (xs : List X) → length (filter first xs) ≤ 64 → filter first (chosen_by first xs) ≡ filter first xs
  chosen_first xs few =
      let n = 64 - length (filter first xs) in
      ap (λ (ys : List X). filter first ys) (take_all 64 (with_few first n xs) (omega (arith, few, few_length n xs))) ∙ first_stay n xs

-- ---- finds

all_small : (finds : List Said) → AllByRecursion (λ (said : Said). body_memory said.body ≤ 16384) (filter is_small finds)
all_small [] = tt
all_small (said ∷ finds) =
    let more = all_small finds in
    elim (leb (body_memory said.body) 16384) as (λ b. (b ≡ true → body_memory said.body ≤ 16384) → AllByRecursion (λ (said : Said). body_memory said.body ≤ 16384) (cond b (said ∷ filter is_small finds) (filter is_small finds))) [
      | true ↦ λ h. (h refl, more)
      | false ↦ λ h. more
    ] (λ is. leb-true (body_memory said.body) 16384 is)

chosen_small : (finds : List Said) → AllByRecursion (λ (said : Said). body_memory said.body ≤ 16384) (chosen_of finds)
chosen_small finds = all_of_order (λ (said : Said). body_memory said.body ≤ 16384) (chosen_order (is_first (servers_in finds)) (filter is_small finds)) (all_small finds)

pub finds_order : (finds : List Said) → IsInOrder (chosen_of finds) finds
finds_order finds = order_both (chosen_order (is_first (servers_in finds)) (filter is_small finds)) (order_filter is_small finds)

pub finds_few : (finds : List Said) → length (chosen_of finds) ≤ 64
finds_few finds = chosen_few (is_first (servers_in finds)) (filter is_small finds)

pub finds_small : (finds : List Said) (said : Said) → Contains (chosen_of finds) said → body_memory said.body ≤ 16384
finds_small finds said h = contained (λ (said : Said). body_memory said.body ≤ 16384) (chosen_of finds) said (chosen_small finds) h

pub finds_little : (finds : List Said) → sum_by (λ (said : Said). body_memory said.body) (chosen_of finds) ≤ 64 * 16384
finds_little finds =
    let P : Said → Type 0 = λ (said : Said). body_memory said.body ≤ 16384 in
    omega (arith, finds_few finds, sum_by-le (λ (said : Said). body_memory said.body) 16384 (chosen_of finds) (All-from_recursion P (chosen_of finds) (chosen_small finds)))

-- ---- the code

pub whole_chosen : (finds small : List Find) → map said_by small ≡ filter is_small (map said_by finds) → length small ≤ 64 → map said_by small ≡ chosen_of (map said_by finds)
whole_chosen finds small is few =
    let as_many : length (filter is_small (map said_by finds)) ≤ 64 = omega (arith, few, length-map small said_by, ap (λ (xs : List Said). length xs) is) in
    is ∙ sym (chosen_all (is_first (servers_in (map said_by finds))) (filter is_small (map said_by finds)) as_many)

pub made_chosen : (finds small some chosen : List Find) (servers : List Labels) (places : ℕ) → map said_by small ≡ filter is_small (map said_by finds) → servers ≡ servers_in (map said_by finds)
    → places ≡ 64 - length (filter (is_first servers) (map said_by small)) → map said_by some ≡ with_few (is_first servers) places (map said_by small) → chosen ≡ take 64 some
    → map said_by chosen ≡ chosen_of (map said_by finds)
made_chosen finds small some chosen servers places is named room made cut =
    ap (λ (xs : List Find). map said_by xs) cut ∙ sym (take-map said_by 64 some) ∙ ap (λ (xs : List Said). take 64 xs) made
    ∙ ap (λ (n : ℕ). take 64 (with_few (is_first servers) n (map said_by small))) room
    ∙ ap (λ (xs : List Said). chosen_by (is_first servers) xs) is
    ∙ ap (λ (names : List Labels). chosen_by (is_first names) (filter is_small (map said_by finds))) named
