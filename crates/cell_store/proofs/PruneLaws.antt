-- The versions that are asked for, when the others are emptied.
use Rattle.std.proofs.Common.{◌≡◌, ℕ, zero, suc, ◌+◌, ◌<◌, ◌≤◌, Bool, true, false, cond, List, [], ◌∷◌, length, get_or, drop, refl, sym, ap, ◌∙◌, subst, arith, inl, inr, slice_set}
use Rattle.std.specs.Prelude.{fold, nat_le, nat_lt, ◌==◌, ◌&&◌, ◌||◌, not}
use Rattle.std.specs.List.{list_any, AllByRecursion}
use Rattle.std.proofs.lemmas.Bool.{cases_Bool, eqb-true, false≢true}
use Rattle.std.proofs.lemmas.Bool.Decides.{nat_tests}
use Rattle.cell_store.specs.declared.version.Place.{Place}
use Rattle.cell_store.specs.declared.version.Version.{Version}
use Rattle.cell_store.specs.Version.{nothing, later_place, IsFromStart}
use Rattle.cell_store.specs.Slots.{IsWithin}
use Rattle.cell_store.specs.Prune.{is_asked, is_from, is_held_at, seen_by, is_seen, emptied, kept_entry, pruned, IsLess}
use Rattle.cell_store.specs.TestLaws.{either, both}

-- the first entries are pruned so far
abbrev pub pruned_to : {B : Type 0} → List ℕ → ℕ → ℕ → List (Version B) → List (Version B)
pruned_to numbers upto zero xs = xs
pruned_to numbers upto (suc i) [] = []
pruned_to numbers upto (suc i) (x ∷ xs) = kept_entry numbers upto x xs ∷ pruned_to numbers upto i xs

pub length_to : {B : Type 0} (numbers : List ℕ) (upto i : ℕ) (xs : List (Version B)) → length (pruned_to numbers upto i xs) ≡ length xs
length_to numbers upto zero xs = refl
length_to numbers upto (suc i) [] = refl
length_to numbers upto (suc i) (x ∷ xs) = ap suc (length_to numbers upto i xs)

read_to : {B : Type 0} (numbers : List ℕ) (upto i : ℕ) (xs : List (Version B)) (d : Version B) → get_or (pruned_to numbers upto i xs) i d ≡ get_or xs i d
read_to numbers upto zero xs d = refl
read_to numbers upto (suc i) [] d = refl
read_to numbers upto (suc i) (x ∷ xs) d = read_to numbers upto i xs d

later_to : {B : Type 0} (numbers : List ℕ) (upto i : ℕ) (xs : List (Version B)) → drop (suc i) (pruned_to numbers upto i xs) ≡ drop (suc i) xs
later_to numbers upto zero xs = refl
later_to numbers upto (suc i) [] = refl
later_to numbers upto (suc i) (x ∷ xs) = later_to numbers upto i xs

set_to : {B : Type 0} (numbers : List ℕ) (upto i : ℕ) (xs : List (Version B)) (d : Version B) → i < length xs
    → slice_set (pruned_to numbers upto i xs) i (kept_entry numbers upto (get_or xs i d) (drop (suc i) xs)) ≡ pruned_to numbers upto (suc i) xs
set_to numbers upto i [] d low = absurd (omega arith)
set_to numbers upto zero (x ∷ xs) d low = refl
set_to numbers upto (suc i) (x ∷ xs) d low = ap (λ (l : List (Version _)). kept_entry numbers upto x xs ∷ l) (set_to numbers upto i xs d (omega arith))

-- one entry more
pub prune_more : {B : Type 0} (numbers : List ℕ) (upto i : ℕ) (xs ys slice news : List (Version B)) (entry : Version B) → i < length xs → ys ≡ pruned_to numbers upto i xs → slice ≡ ys
    → ((d : Version B) → entry ≡ kept_entry numbers upto (get_or slice i d) (drop (i + 1) slice)) → news ≡ slice_set ys i entry → news ≡ pruned_to numbers upto (i + 1) xs
prune_more {B} numbers upto i xs ys slice news entry low so_far same is put =
    let next : i + 1 ≡ suc i = omega arith in
    let here : slice ≡ pruned_to numbers upto i xs = same ∙ so_far in
    let entry_is : entry ≡ kept_entry numbers upto (get_or xs i entry) (drop (suc i) xs) =
    is entry ∙ (ap (λ (l : List (Version B)). kept_entry numbers upto (get_or l i entry) (drop (i + 1) l)) here
    ∙ (ap (λ (x : Version B). kept_entry numbers upto x (drop (i + 1) (pruned_to numbers upto i xs))) (read_to numbers upto i xs entry)
    ∙ (ap (λ n. kept_entry numbers upto (get_or xs i entry) (drop n (pruned_to numbers upto i xs))) next
    ∙ ap (kept_entry numbers upto (get_or xs i entry)) (later_to numbers upto i xs)))) in
    put ∙ (ap (λ (l : List (Version B)). slice_set l i entry) so_far
    ∙ (ap (slice_set (pruned_to numbers upto i xs) i) entry_is ∙ (set_to numbers upto i xs entry low ∙ ap (λ n. pruned_to numbers upto n xs) (sym next))))

pub pruned_all : {B : Type 0} (numbers : List ℕ) (upto i : ℕ) (xs : List (Version B)) → length xs ≤ i → pruned_to numbers upto i xs ≡ pruned numbers upto xs
pruned_all numbers upto zero [] high = refl
pruned_all numbers upto (suc i) [] high = refl
pruned_all numbers upto zero (x ∷ xs) high = absurd (omega arith)
pruned_all numbers upto (suc i) (x ∷ xs) high = ap (λ (l : List (Version _)). kept_entry numbers upto x xs ∷ l) (pruned_all numbers upto i xs (omega arith))

pub length_pruned : {B : Type 0} (numbers : List ℕ) (upto : ℕ) (xs : List (Version B)) → length (pruned numbers upto xs) ≡ length xs
length_pruned numbers upto [] = refl
length_pruned numbers upto (x ∷ xs) = ap suc (length_pruned numbers upto xs)

-- ---- the versions that are asked for

always : (b : Bool) → cond b true true ≡ true
always true = refl
always false = refl

seen_stays : {B : Type 0} (upto : ℕ) (x : Version B) (xs : List (Version B)) (numbers : List ℕ) → fold (seen_by upto x xs) true numbers ≡ true
seen_stays upto x xs [] = refl
seen_stays upto x xs (n ∷ numbers) = ap (λ b. fold (seen_by upto x xs) b numbers) (always (nat_le n upto && is_held_at n x xs)) ∙ seen_stays upto x xs numbers

any_seen : {B : Type 0} (upto v : ℕ) (x : Version B) (xs : List (Version B)) (seen : Bool) (numbers : List ℕ) → list_any (λ n. n == v) numbers ≡ true → nat_le v upto ≡ true → is_held_at v x xs ≡ true
    → fold (seen_by upto x xs) seen numbers ≡ true
any_seen upto v x xs seen [] there low held = absurd (false≢true there)
any_seen upto v x xs seen (n ∷ numbers) there low held = elim (either (n == v) (list_any (λ m. m == v) numbers) there) [
  | inl here ↦
      let same : n ≡ v = eqb-true n v here in
      let now : (nat_le n upto && is_held_at n x xs) ≡ true = both _ _ (ap (λ m. nat_le m upto) same ∙ low) (ap (λ m. is_held_at m x xs) same ∙ held) in
      ap (λ b. fold (seen_by upto x xs) (cond b true seen) numbers) now ∙ seen_stays upto x xs numbers
  | inr later ↦ any_seen upto v x xs (seen_by upto x xs seen n) numbers later low held
]

-- the entry of a version that is asked for is kept
asked_seen : {B : Type 0} (numbers : List ℕ) (upto v : ℕ) (x : Version B) (xs : List (Version B)) → is_asked numbers v ≡ true → nat_le v upto ≡ true → is_held_at v x xs ≡ true → is_seen numbers upto x xs ≡ true
asked_seen numbers upto v x xs asked low held = elim (either (v == 0) (list_any (λ n. n == v) numbers) asked) [
  | inl none ↦
      let start : is_held_at 0 x xs ≡ true = ap (λ n. is_held_at n x xs) (sym (eqb-true v 0 none)) ∙ held in
      ap (λ b. fold (seen_by upto x xs) b numbers) start ∙ seen_stays upto x xs numbers
  | inr some ↦ any_seen upto v x xs (is_held_at 0 x xs) numbers some low held
]

-- a later entry hides what was before
pub hidden : {B : Type 0} (v : ℕ) (a b : Place B) (xs : List (Version B)) → list_any (is_from v) xs ≡ true → fold (later_place v) a xs ≡ fold (later_place v) b xs
hidden v a b [] some = absurd (false≢true some)
hidden v a b (x ∷ xs) some = elim (cases_Bool (nat_le x.from v)) [
  | inl here ↦ ap (λ t. fold (later_place v) (cond t x.place a) xs) here ∙ sym (ap (λ t. fold (later_place v) (cond t x.place b) xs) here)
  | inr past ↦ hidden v (cond (nat_le x.from v) x.place a) (cond (nat_le x.from v) x.place b) xs (sym (ap (λ t. t || list_any (is_from v) xs) past) ∙ some)
]

pub pruned_fold : {B : Type 0} (numbers : List ℕ) (upto v : ℕ) (xs : List (Version B)) (a : Place B) → is_asked numbers v ≡ true → nat_le v upto ≡ true
    → fold (later_place v) a (pruned numbers upto xs) ≡ fold (later_place v) a xs
pruned_fold numbers upto v [] a asked low = refl
pruned_fold {B} numbers upto v (x ∷ xs) a asked low =
    pruned_fold numbers upto v xs (later_place v a (kept_entry numbers upto x xs)) asked low ∙ split (is_seen numbers upto x xs) refl
  where
    split : (s : Bool) → is_seen numbers upto x xs ≡ s → fold (later_place v) (later_place v a (kept_entry numbers upto x xs)) xs ≡ fold (later_place v) (later_place v a x) xs
    split true is = ap (λ s. fold (later_place v) (later_place v a (cond s x (emptied x))) xs) is
    split false is =
        ap (λ s. fold (later_place v) (later_place v a (cond s x (emptied x))) xs) is
        ∙ elim (cases_Bool (nat_le x.from v)) [
          | inl from ↦ elim (cases_Bool (list_any (is_from v) xs)) [
            | inl later ↦ hidden v (later_place v a (emptied x)) (later_place v a x) xs later
            | inr none ↦
                let held : is_held_at v x xs ≡ true = both _ _ from (ap not none) in
                absurd (false≢true (sym is ∙ asked_seen numbers upto v x xs asked low held))
          ]
          | inr past ↦
              ap (λ t. fold (later_place v) (cond t nothing a) xs) past ∙ sym (ap (λ t. fold (later_place v) (cond t x.place a) xs) past)
        ]

-- each has the content that it had, or none
pub less_fold : {B : Type 0} (numbers : List ℕ) (upto v : ℕ) (xs : List (Version B)) (a b : Place B) → IsLess a b → IsLess (fold (later_place v) a (pruned numbers upto xs)) (fold (later_place v) b xs)
less_fold numbers upto v [] a b less = less
less_fold {B} numbers upto v (x ∷ xs) a b less =
    less_fold numbers upto v xs (later_place v a (kept_entry numbers upto x xs)) (later_place v b x) (split (nat_le x.from v) (is_seen numbers upto x xs) refl)
  where
    split : (t s : Bool) → is_seen numbers upto x xs ≡ s → IsLess (cond (nat_le (kept_entry numbers upto x xs).from v) (kept_entry numbers upto x xs).place a) (cond (nat_le x.from v) x.place b)
    split t true is = subst (λ (e : Version B). IsLess (cond (nat_le e.from v) e.place a) (cond (nat_le x.from v) x.place b)) (sym (ap (λ s. cond s x (emptied x)) is)) (choose (nat_le x.from v))
      where
        choose : (t : Bool) → IsLess (cond t x.place a) (cond t x.place b)
        choose true = inl refl
        choose false = less
    split t false is = subst (λ (e : Version B). IsLess (cond (nat_le e.from v) e.place a) (cond (nat_le x.from v) x.place b)) (sym (ap (λ s. cond s x (emptied x)) is)) (choose (nat_le x.from v))
      where
        choose : (t : Bool) → IsLess (cond t nothing a) (cond t x.place b)
        choose true = inr refl
        choose false = less

-- ---- by the fields

pub pruned_within : (numbers : List ℕ) (upto slots : ℕ) (xs : List (Version ℕ)) → AllByRecursion (IsWithin slots) xs → AllByRecursion (IsWithin slots) (pruned numbers upto xs)
pruned_within numbers upto slots [] all = tt
pruned_within numbers upto slots (x ∷ xs) all = (split (is_seen numbers upto x xs), pruned_within numbers upto slots xs all.1)
  where
    split : (s : Bool) → IsWithin slots (cond s x (emptied x))
    split true = all.0
    split false = tt

pub pruned_starts : {B : Type 0} (numbers : List ℕ) (upto : ℕ) (xs : List (Version B)) → IsFromStart xs → IsFromStart (pruned numbers upto xs)
pruned_starts numbers upto [] starts = starts
pruned_starts numbers upto (x ∷ xs) starts = split (is_seen numbers upto x xs)
  where
    split : (s : Bool) → (cond s x (emptied x)).from ≡ 0
    split true = starts
    split false = starts

pub le_not : (a b : ℕ) → nat_lt a b ≡ false → nat_le b a ≡ true
le_not a b is = grind (arith, nat_tests)
