-- Why a column has few entries, however many flushes can be undone. The list is the content from version to version. `rank` is 0 of nothing, 1 to 4 of a find, and 4 of a reference to the whole name.
use Rattle.std.proofs.Common.{◌≡◌, ℕ, zero, suc, ◌+◌, ◌<◌, ◌≤◌, max, get_or, Bool, true, false, cond, Option, Some, None, List, [], ◌∷◌, ◌++◌, length, map, refl, sym, ap, ◌∙◌, arith, ◌⊎◌, inl, inr}
use Rattle.std.specs.Prelude.{nat_le}
use Rattle.std.specs.List.{remove}
use Rattle.std.proofs.lemmas.Bool.{false≢true}
use Rattle.std.proofs.lemmas.Bool.Decides.{nat_tests}
use Rattle.cell_store.specs.Few.{turns, last, above_by, equal_by, AreFewBy}

-- ---- neighbours that differ

-- under a function, no more of them differ
pub turns_map : {S T : Type 0} (same : S → S → Bool) (equal : T → T → Bool) (g : S → T) → ((x y : S) → same x y ≡ true → equal (g x) (g y) ≡ true) → (x : S) (xs : List S) → turns equal (g x) (map g xs) ≤ turns same x xs
turns_map same equal g step x [] = omega arith
turns_map same equal g step x (y ∷ ys) = split (same x y) refl (equal (g x) (g y)) refl (turns_map same equal g step y ys)
  where
    split : (b : Bool) → same x y ≡ b → (d : Bool) → equal (g x) (g y) ≡ d → turns equal (g y) (map g ys) ≤ turns same y ys
        → cond (equal (g x) (g y)) 0 1 + turns equal (g y) (map g ys) ≤ cond (same x y) 0 1 + turns same y ys
    split true is d at rest = rw (is, step x y is) (omega (arith, rest))
    split false is true at rest = rw (is, at) (omega (arith, rest))
    split false is false at rest = rw (is, at) (omega (arith, rest))

-- one more at the end
turns_push : {S : Type 0} (same : S → S → Bool) (x : S) (xs : List S) (y : S) → turns same x (xs ++ y ∷ []) ≡ turns same x xs + cond (same (last x xs) y) 0 1
turns_push same x [] y = omega arith
turns_push same x (z ∷ xs) y = omega (arith, turns_push same z xs y)

last_push : {S : Type 0} (x : S) (xs : List S) (y : S) → last x (xs ++ y ∷ []) ≡ y
last_push x [] y = refl
last_push x (z ∷ xs) y = last_push z xs y

last_map : {S T : Type 0} (g : S → T) (x : S) (xs : List S) → last (g x) (map g xs) ≡ g (last x xs)
last_map g x [] = refl
last_map g x (y ∷ ys) = last_map g y ys

map_map : {S T U : Type 0} (g : S → T) (h : T → U) (k : S → U) → ((x : S) → k x ≡ h (g x)) → (xs : List S) → map k xs ≡ map h (map g xs)
map_map g h k is [] = refl
map_map {S} {T} {U} g h k is (x ∷ xs) = (λ i. is x i ∷ map_map g h k is xs i)

low_cond : (b : Bool) → cond b 0 1 ≤ 1
low_cond true = omega arith
low_cond false = omega arith

module _ {A : Type 0} (rank : A → ℕ) (same : A → A → Bool) (exact : (a b : A) → same a b ≡ true → a ≡ b) (itself : (a : A) → same a a ≡ true) where
  -- the content, if it is above a rank
  abbrev pub above : ℕ → A → Option A
  above q a = above_by rank q a

  abbrev pub equal : Option A → Option A → Bool
  equal o p = equal_by same o p

  equal_itself : (o : Option A) → equal o o ≡ true
  equal_itself None = refl
  equal_itself (Some a) = itself a

  equal_map : (g : Option A → Option A) (o p : Option A) → equal o p ≡ true → equal (g o) (g p) ≡ true
  equal_map g None None is = equal_itself (g None)
  equal_map g (Some a) (Some b) is = ap (λ c. equal (g (Some a)) (g (Some c))) (sym (exact a b is)) ∙ equal_itself (g (Some a))
  equal_map g None (Some b) is = absurd (false≢true is)
  equal_map g (Some a) None is = absurd (false≢true is)

  abbrev pub turns_above : ℕ → A → List A → ℕ
  turns_above q x xs = turns equal (above q x) (map (above q) xs)

  -- Above any rank, the neighbours that differ are at most the ranks above it and above that of the last.
  abbrev pub AreFew : A → List A → Type 0
  AreFew x xs = AreFewBy rank same x xs

  above_low : (q : ℕ) (a : A) → rank a ≤ q → above q a ≡ None
  above_low q a low = let is : nat_le (rank a) q ≡ true = grind (arith, nat_tests) in ap (λ b. cond b None (Some a)) is

  above_high : (q : ℕ) (a : A) → q < rank a → above q a ≡ Some a
  above_high q a high = let is : nat_le (rank a) q ≡ false = grind (arith, nat_tests) in ap (λ b. cond b None (Some a)) is

  le_or : (a b : ℕ) → (a ≤ b) ⊎ (b < a)
  le_or a b = grind arith

  -- one alone
  pub few_one : (a : A) → rank a ≤ 4 → AreFew a []
  few_one a low q few = grind arith

  -- one empty version more
  pub few_raised : (x : A) (xs : List A) (nothing : A) → rank nothing ≡ 0 → AreFew x xs → AreFew x (xs ++ nothing ∷ [])
  few_raised x xs nothing none few q low =
      let more : map (above q) (xs ++ nothing ∷ []) ≡ map (above q) xs ++ above q nothing ∷ [] = map_append xs in
      let unseen : above q nothing ≡ None = above_low q nothing (omega (arith, none)) in
      let put : turns_above q x (xs ++ nothing ∷ []) ≡ turns_above q x xs + cond (equal (above q (last x xs)) None) 0 1 =
      ap (turns equal (above q x)) more ∙ (turns_push equal (above q x) (map (above q) xs) (above q nothing)
      ∙ (ap (λ (o : Option A). turns_above q x xs + cond (equal o (above q nothing)) 0 1) (last_map (above q) x xs) ∙ ap (λ (o : Option A). turns_above q x xs + cond (equal (above q (last x xs)) o) 0 1) unseen)) in
      let end : rank (last x (xs ++ nothing ∷ [])) ≡ 0 = ap rank (last_push x xs nothing) ∙ none in
      elim (le_or (rank (last x xs)) q) [
        | inl under ↦
            let same_end : cond {A = ℕ} (equal (above q (last x xs)) None) 0 1 ≡ 0 = ap (λ (o : Option A). cond {A = ℕ} (equal o None) 0 1) (above_low q (last x xs) under) in
            ends (turns_above q x xs) (turns_above q x (xs ++ nothing ∷ [])) q (rank (last x xs)) (rank (last x (xs ++ nothing ∷ []))) (omega (arith, put, same_end)) end (few q low)
        | inr over ↦
            more_end (turns_above q x xs) (turns_above q x (xs ++ nothing ∷ [])) q (rank (last x xs)) (rank (last x (xs ++ nothing ∷ []))) (omega (arith, put, low_cond (equal (above q (last x xs)) None))) over end (few q low)
      ]
    where
      map_append : (l : List A) → map (above q) (l ++ nothing ∷ []) ≡ map (above q) l ++ above q nothing ∷ []
      map_append [] = refl
      map_append (y ∷ l) = ap (λ (r : List (Option A)). above q y ∷ r) (map_append l)

      ends : (t u q p e : ℕ) → u ≤ t → e ≡ 0 → t + max q p ≤ 4 → u + max q e ≤ 4
      ends t u q p e less low_end bound = grind arith

      more_end : (t u q p e : ℕ) → u ≤ t + 1 → q < p → e ≡ 0 → t + max q p ≤ 4 → u + max q e ≤ 4
      more_end t u q p e less over low_end bound = grind arith

  -- An admission replaces what is dead or not of higher rank, so what stays is of higher rank. A sweep is the same, with nothing in place of the find.
  module _ (f : A → A) (new : A) (takes : (a : A) → (f a ≡ new) ⊎ ((f a ≡ a) × (rank new < rank a))) (small : rank new ≤ 4) where
    abbrev pub coarse : ℕ → Option A → Option A
    coarse q None = None
    coarse q (Some a) = above q (f a)

    seen_high : (q : ℕ) → rank new ≤ q → (a : A) → above q (f a) ≡ coarse q (above q a)
    seen_high q high a = elim (le_or (rank a) q) [
      | inl under ↦
          elim (takes a) [
            | inl is ↦ ap (above q) is ∙ (above_low q new high ∙ sym (ap (coarse q) (above_low q a under)))
            | inr stays ↦ ap (above q) stays.0 ∙ (above_low q a under ∙ sym (ap (coarse q) (above_low q a under)))
          ]
      | inr over ↦ sym (ap (coarse q) (above_high q a over))
    ]

    abbrev pub fine : Option A → Option A
    fine None = Some new
    fine (Some a) = Some a

    seen_low : (q : ℕ) → q < rank new → (a : A) → above q (f a) ≡ fine (above (rank new) (f a))
    seen_low q low a = elim (takes a) [
      | inl is ↦ ap (above q) is ∙ (above_high q new low ∙ sym (ap (λ (b : A). fine (above (rank new) b)) is ∙ ap fine (above_low (rank new) new (omega arith))))
      | inr stays ↦ ap (above q) stays.0 ∙ (above_high q a (omega (arith, stays.1)) ∙ sym (ap (λ (b : A). fine (above (rank new) b)) stays.0 ∙ ap fine (above_high (rank new) a stays.1)))
    ]

    turns_high : (q : ℕ) → rank new ≤ q → (x : A) (xs : List A) → turns_above q (f x) (map f xs) ≤ turns_above q x xs
    turns_high q high x xs =
        let list : map (above q) (map f xs) ≡ map (coarse q) (map (above q) xs) = sym (map_map f (above q) (λ a. above q (f a)) (λ a. refl) xs) ∙ map_map (above q) (coarse q) (λ a. above q (f a)) (seen_high q high) xs in
        let same_turns : turns_above q (f x) (map f xs) ≡ turns equal (coarse q (above q x)) (map (coarse q) (map (above q) xs)) = (λ i. turns equal (seen_high q high x i) (list i)) in
        omega (arith, same_turns, turns_map equal equal (coarse q) (equal_map (coarse q)) (above q x) (map (above q) xs))

    turns_low : (q : ℕ) → q < rank new → (x : A) (xs : List A) → turns_above q (f x) (map f xs) ≤ turns_above (rank new) (f x) (map f xs)
    turns_low q low x xs =
        let list : map (above q) (map f xs) ≡ map fine (map (above (rank new)) (map f xs)) =
        sym (map_map f (above q) (λ a. above q (f a)) (λ a. refl) xs) ∙ (map_map (λ a. above (rank new) (f a)) fine (λ a. above q (f a)) (seen_low q low) xs
        ∙ ap (map fine) (map_map f (above (rank new)) (λ a. above (rank new) (f a)) (λ a. refl) xs)) in
        let same_turns : turns_above q (f x) (map f xs) ≡ turns equal (fine (above (rank new) (f x))) (map fine (map (above (rank new)) (map f xs))) = (λ i. turns equal (seen_low q low x i) (list i)) in
        omega (arith, same_turns, turns_map equal equal fine (equal_map fine) (above (rank new) (f x)) (map (above (rank new)) (map f xs)))

    pub few_admitted : (x : A) (xs : List A) → AreFew x xs → AreFew (f x) (map f xs)
    few_admitted x xs few q low =
        let end : rank (last (f x) (map f xs)) ≡ rank (f (last x xs)) = ap rank (last_map f x xs) in
        let p = rank (last x xs) in
        elim (le_or (rank new) q) [
          | inl high ↦ elim (takes (last x xs)) [
            | inl is ↦ bound_one (turns_above q x xs) (turns_above q (f x) (map f xs)) q p (rank new) _ (turns_high q high x xs) high (end ∙ ap rank is) (few q low)
            | inr stays ↦ bound_two (turns_above q x xs) (turns_above q (f x) (map f xs)) q p _ (turns_high q high x xs) (end ∙ ap rank stays.0) (few q low)
          ]
          | inr under ↦
              let less : turns_above q (f x) (map f xs) ≤ turns_above (rank new) x xs = omega (arith, turns_low q under x xs, turns_high (rank new) (omega arith) x xs) in
              elim (takes (last x xs)) [
                | inl is ↦ bound_three (turns_above (rank new) x xs) (turns_above q (f x) (map f xs)) q p (rank new) _ less under (end ∙ ap rank is) (few (rank new) small)
                | inr stays ↦ bound_four (turns_above (rank new) x xs) (turns_above q (f x) (map f xs)) q p (rank new) _ less under stays.1 (end ∙ ap rank stays.0) (few (rank new) small)
              ]
        ]
      where
        bound_one : (t u q p r e : ℕ) → u ≤ t → r ≤ q → e ≡ r → t + max q p ≤ 4 → u + max q e ≤ 4
        bound_one t u q p r e less high end bound = grind arith

        bound_two : (t u q p e : ℕ) → u ≤ t → e ≡ p → t + max q p ≤ 4 → u + max q e ≤ 4
        bound_two t u q p e less end bound = grind arith

        bound_three : (t u q p r e : ℕ) → u ≤ t → q < r → e ≡ r → t + max r p ≤ 4 → u + max q e ≤ 4
        bound_three t u q p r e less under end bound = grind arith

        bound_four : (t u q p r e : ℕ) → u ≤ t → q < r → r < p → e ≡ p → t + max r p ≤ 4 → u + max q e ≤ 4
        bound_four t u q p r e less under over end bound = grind arith

  -- If all neighbours differ, there are at most five.
  all_differ : (x : A) (xs : List A) → turns same x xs ≡ length xs → (nothing : A) → ((a : A) → rank a ≡ 0 → a ≡ nothing) → length xs ≤ turns_above 0 x xs
  all_differ x xs differ nothing only =
      let back : Option A → A = (λ o. elim o [ None ↦ nothing | Some a ↦ a ]) in
      let seen : (a : A) → a ≡ back (above 0 a) = (λ a. elim (le_or (rank a) 0) [
        | inl low ↦ only a (omega (arith, low)) ∙ sym (ap back (above_low 0 a low))
        | inr high ↦ sym (ap back (above_high 0 a high))
      ]) in
      let list : xs ≡ map back (map (above 0) xs) = sym (map_itself xs) ∙ map_map (above 0) back (λ a. a) seen xs in
      let step : (o p : Option A) → equal o p ≡ true → same (back o) (back p) ≡ true = (λ o p is. ap (λ r. same (back o) (back r)) (sym (option_exact o p is)) ∙ itself (back o)) in
      let same_turns : turns same x xs ≡ turns same (back (above 0 x)) (map back (map (above 0) xs)) = (λ i. turns same (seen x i) (list i)) in
      omega (arith, differ, same_turns, turns_map equal same back step (above 0 x) (map (above 0) xs))
    where
      map_itself : (l : List A) → map (λ a. a) l ≡ l
      map_itself [] = refl
      map_itself (y ∷ l) = ap (λ (r : List A). y ∷ r) (map_itself l)

      option_exact : (o p : Option A) → equal o p ≡ true → o ≡ p
      option_exact None None is = refl
      option_exact (Some a) (Some b) is = ap Some (exact a b is)
      option_exact None (Some b) is = absurd (false≢true is)
      option_exact (Some a) None is = absurd (false≢true is)

  pub few_entries : (x : A) (xs : List A) → AreFew x xs → turns same x xs ≡ length xs → (nothing : A) → ((a : A) → rank a ≡ 0 → a ≡ nothing) → length (x ∷ xs) ≤ 5
  few_entries x xs few differ nothing only = omega (arith, all_differ x xs differ nothing only, few 0 (omega arith))

  -- the first is dropped
  pub few_tail : (x y : A) (ys : List A) → AreFew x (y ∷ ys) → AreFew y ys
  few_tail x y ys few q low = omega (arith, few q low)

  -- ---- one that equals the one before it is dropped

  once_turns : (q i : ℕ) (x : A) (xs : List A) (d : A) → i < length xs → get_or (x ∷ xs) i d ≡ get_or xs i d → turns_above q x (remove xs i) ≡ turns_above q x xs
  once_turns q i x [] d low is = absurd (omega arith)
  once_turns q zero x (y ∷ ys) d low is =
      omega (arith, ap (λ (a : A). turns_above q a ys) is, ap (λ b. cond {A = ℕ} b 0 1) (ap (λ (a : A). equal (above q x) (above q a)) (sym is) ∙ equal_itself (above q x)))
  once_turns q (suc i) x (y ∷ ys) d low is = ap (λ n. cond (equal (above q x) (above q y)) 0 1 + n) (once_turns q i y ys d (omega arith) is)

  once_last : (i : ℕ) (x : A) (xs : List A) (d : A) → i < length xs → get_or (x ∷ xs) i d ≡ get_or xs i d → last x (remove xs i) ≡ last x xs
  once_last i x [] d low is = absurd (omega arith)
  once_last zero x (y ∷ ys) d low is = ap (λ (a : A). last a ys) is
  once_last (suc i) x (y ∷ ys) d low is = once_last i y ys d (omega arith) is

  pub few_once : (i : ℕ) (x : A) (xs : List A) (d : A) → i < length xs → get_or (x ∷ xs) i d ≡ get_or xs i d → AreFew x xs → AreFew x (remove xs i)
  few_once i x xs d low is few q least = omega (arith, once_turns q i x xs d low is, ap (λ (a : A). max q (rank a)) (once_last i x xs d low is), few q least)

  -- ---- each becomes another of its rank

  abbrev lifted : (A → A) → Option A → Option A
  lifted g None = None
  lifted g (Some a) = Some (g a)

  lifted_above : (g : A → A) → ((a : A) → rank (g a) ≡ rank a) → (q : ℕ) (a : A) → above q (g a) ≡ lifted g (above q a)
  lifted_above g keeps q a = ap (λ n. cond (nat_le n q) None (Some (g a))) (keeps a) ∙ split (nat_le (rank a) q)
    where
      split : (b : Bool) → cond b None (Some (g a)) ≡ lifted g (cond b None (Some a))
      split true = refl
      split false = refl

  pub few_renamed : (g : A → A) → ((a : A) → rank (g a) ≡ rank a) → (x : A) (xs : List A) → AreFew x xs → AreFew (g x) (map g xs)
  few_renamed g keeps x xs few q low =
      let list : map (above q) (map g xs) ≡ map (lifted g) (map (above q) xs) =
      sym (map_map g (above q) (λ a. above q (g a)) (λ a. refl) xs) ∙ map_map (above q) (lifted g) (λ a. above q (g a)) (lifted_above g keeps q) xs in
      let same_turns : turns_above q (g x) (map g xs) ≡ turns equal (lifted g (above q x)) (map (lifted g) (map (above q) xs)) = (λ i. turns equal (lifted_above g keeps q x i) (list i)) in
      let end : max q (rank (last (g x) (map g xs))) ≡ max q (rank (last x xs)) = ap (max q) (ap rank (last_map g x xs) ∙ keeps (last x xs)) in
      omega (arith, same_turns, end, turns_map equal equal (lifted g) (equal_map (lifted g)) (above q x) (map (above q) xs), few q low)

  -- ---- some become nothing

  turns_most : (x : A) (xs : List A) → turns same x xs ≤ length xs
  turns_most x [] = omega arith
  turns_most x (y ∷ ys) = omega (arith, low_cond (same x y), turns_most y ys)

  pub apart_parts : (x y : A) (ys : List A) → turns same x (y ∷ ys) ≡ length (y ∷ ys) → (same x y ≡ false) × (turns same y ys ≡ length ys)
  apart_parts x y ys is = split (same x y) refl (turns_most y ys)
    where
      split : (t : Bool) → same x y ≡ t → turns same y ys ≤ length ys → (same x y ≡ false) × (turns same y ys ≡ length ys)
      split true at most = absurd (omega (arith, is, ap (λ t. cond {A = ℕ} t 0 1) at, most))
      split false at most = (at, omega (arith, is, ap (λ t. cond {A = ℕ} t 0 1) at, most))

  module _ (nothing : A) (none : rank nothing ≡ 0) where
    abbrev pub AreLess : List A → List A → Type 0
    AreLess [] [] = Unit {0}
    AreLess (y ∷ ys) (x ∷ xs) = ((y ≡ x) ⊎ (y ≡ nothing)) × AreLess ys xs
    AreLess _ _ = ⊥

    low_less : (q : ℕ) (y x : A) → (y ≡ x) ⊎ (y ≡ nothing) → rank x ≤ q → above q y ≡ None
    low_less q y x less low = elim less [
      | inl is ↦ ap (above q) is ∙ above_low q x low
      | inr is ↦ ap (above q) is ∙ above_low q nothing (omega (arith, none))
    ]

    pair_less : (q : ℕ) (y e x d : A) → (y ≡ x) ⊎ (y ≡ nothing) → (e ≡ d) ⊎ (e ≡ nothing) → same x d ≡ false → cond (equal (above q y) (above q e)) 0 1 ≤ cond (equal (above q x) (above q d)) 0 1
    pair_less q y e x d less other differ = elim (le_or (rank x) q) [
      | inl low ↦ elim (le_or (rank d) q) [
        | inl below ↦
            let now : equal (above q y) (above q e) ≡ true = ap (λ (o : Option A). equal o (above q e)) (low_less q y x less low) ∙ ap (equal None) (low_less q e d other below) in
            omega (arith, ap (λ t. cond {A = ℕ} t 0 1) now)
        | inr over ↦
            let was : equal (above q x) (above q d) ≡ false = ap (λ (o : Option A). equal o (above q d)) (above_low q x low) ∙ ap (equal None) (above_high q d over) in
            omega (arith, ap (λ t. cond {A = ℕ} t 0 1) was, low_cond (equal (above q y) (above q e)))
      ]
      | inr high ↦ elim (le_or (rank d) q) [
        | inl below ↦
            let was : equal (above q x) (above q d) ≡ false = ap (λ (o : Option A). equal o (above q d)) (above_high q x high) ∙ ap (equal (Some x)) (above_low q d below) in
            omega (arith, ap (λ t. cond {A = ℕ} t 0 1) was, low_cond (equal (above q y) (above q e)))
        | inr over ↦
            let was : equal (above q x) (above q d) ≡ false = ap (λ (o : Option A). equal o (above q d)) (above_high q x high) ∙ (ap (equal (Some x)) (above_high q d over) ∙ differ) in
            omega (arith, ap (λ t. cond {A = ℕ} t 0 1) was, low_cond (equal (above q y) (above q e)))
      ]
    ]

    turns_less : (q : ℕ) (y : A) (ys : List A) (x : A) (xs : List A) → (y ≡ x) ⊎ (y ≡ nothing) → AreLess ys xs → turns same x xs ≡ length xs → turns_above q y ys ≤ turns_above q x xs
    turns_less q y [] x [] less rest differ = omega arith
    turns_less q y [] x (d ∷ xs) less rest differ = absurd rest
    turns_less q y (e ∷ ys) x [] less rest differ = absurd rest
    turns_less q y (e ∷ ys) x (d ∷ xs) less rest differ =
        let parts = apart_parts x d xs differ in
        omega (arith, pair_less q y e x d less rest.0 parts.0, turns_less q e ys d xs rest.0 rest.1 parts.1)

    last_less : (y : A) (ys : List A) (x : A) (xs : List A) → (y ≡ x) ⊎ (y ≡ nothing) → AreLess ys xs → rank (last y ys) ≤ rank (last x xs)
    last_less y [] x [] less rest = elim less [ inl is ↦ omega (arith, ap rank is) | inr is ↦ omega (arith, ap rank is, none) ]
    last_less y [] x (d ∷ xs) less rest = absurd rest
    last_less y (e ∷ ys) x [] less rest = absurd rest
    last_less y (e ∷ ys) x (d ∷ xs) less rest = last_less e ys d xs rest.0 rest.1

    pub few_less : (y : A) (ys : List A) (x : A) (xs : List A) → (y ≡ x) ⊎ (y ≡ nothing) → AreLess ys xs → turns same x xs ≡ length xs → AreFew x xs → AreFew y ys
    few_less y ys x xs less rest differ few q low =
        bound (turns_above q x xs) (turns_above q y ys) (rank (last x xs)) (rank (last y ys)) (turns_less q y ys x xs less rest differ) (last_less y ys x xs less rest) (few q low)
      where
        bound : (t u p e : ℕ) → u ≤ t → e ≤ p → t + max q p ≤ 4 → u + max q e ≤ 4
        bound t u p e fewer under most = grind arith
