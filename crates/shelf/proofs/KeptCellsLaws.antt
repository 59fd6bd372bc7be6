-- The kept cells of a question.
use Rattle.std.proofs.Common.{◌≡◌, ℕ, zero, suc, ◌+◌, ◌<◌, ◌≤◌, Bool, true, false, cond, List, [], ◌∷◌, ◌++◌, length, get_or, take, length-append, map, refl, sym, ap, ◌∙◌, subst, arith}
use Rattle.std.specs.Prelude.{fold}
use Rattle.dns_text.specs.declared.record.Question.{Question}
use Rattle.ranked.specs.Flush.{covers}
use Rattle.cell_store.specs.Few.{last}
use Rattle.shelf.specs.declared.shelf.KeptFlush.{KeptFlush}
use Rattle.shelf.specs.KeptCells.{changes, AreApart, AreApartFrom}
use Rattle.shelf.specs.Sweep.{number_more, numbers_of}

-- ---- one cell more

pub changes_more : {A : Type 0} (same : A → A → Bool) (x : A) (xs : List A) (y : A) → changes same x (xs ++ y ∷ []) ≡ changes same x xs ++ cond (same (last x (changes same x xs)) y) [] (y ∷ [])
changes_more same x [] y = refl
changes_more {A} same x (z ∷ xs) y = split (same x z) (changes_more same x xs y) (changes_more same z xs y)
  where
    split : (b : Bool) → changes same x (xs ++ y ∷ []) ≡ changes same x xs ++ cond (same (last x (changes same x xs)) y) [] (y ∷ []) → changes same z (xs ++ y ∷ []) ≡ changes same z xs ++ cond (same (last z (changes same z xs)) y) [] (y ∷ [])
        → cond b (changes same x (xs ++ y ∷ [])) (z ∷ changes same z (xs ++ y ∷ [])) ≡ cond b (changes same x xs) (z ∷ changes same z xs) ++ cond (same (last x (cond b (changes same x xs) (z ∷ changes same z xs))) y) [] (y ∷ [])
    split true equal differ = equal
    split false equal differ = ap (λ (l : List A). z ∷ l) differ

last_more : {A : Type 0} (x : A) (xs : List A) (y : A) → last x (xs ++ y ∷ []) ≡ y
last_more x [] y = refl
last_more x (z ∷ xs) y = last_more z xs y

map_more : {A B : Type 0} (f : A → B) (xs : List A) (y : A) → map f (xs ++ y ∷ []) ≡ map f xs ++ f y ∷ []
map_more f [] y = refl
map_more {A} {B} f (x ∷ xs) y = ap (λ (l : List B). f x ∷ l) (map_more f xs y)

none_more : {A : Type 0} (xs : List A) → xs ++ [] ≡ xs
none_more [] = refl
none_more {A} (x ∷ xs) = ap (λ (l : List A). x ∷ l) (none_more xs)

-- The count so far, and the version of the last kept cell.
pub record IsCounted {A : Type 0} (same : A → A → Bool) (f : ℕ → A) (numbers : List ℕ) (count number : ℕ) : Type 0 where
  pub so_far : count ≡ length (changes same (f 0) (map f numbers))
  pub ends : f number ≡ last (f 0) (changes same (f 0) (map f numbers))

module _ {A : Type 0} (same : A → A → Bool) (f : ℕ → A) (numbers : List ℕ) (count number next : ℕ) (is : IsCounted same f numbers count number) where
  more : changes same (f 0) (map f (numbers ++ next ∷ [])) ≡ changes same (f 0) (map f numbers) ++ cond (same (f number) (f next)) [] (f next ∷ [])
  more =
      ap (changes same (f 0)) (map_more f numbers next)
      ∙ (changes_more same (f 0) (map f numbers) (f next) ∙ ap (λ (a : A). changes same (f 0) (map f numbers) ++ cond (same a (f next)) [] (f next ∷ [])) (sym is.ends))

  pub counted_same : same (f number) (f next) ≡ true → IsCounted same f (numbers ++ next ∷ []) count number
  counted_same equal =
      let now : changes same (f 0) (map f (numbers ++ next ∷ [])) ≡ changes same (f 0) (map f numbers) =
      more ∙ (ap (λ b. changes same (f 0) (map f numbers) ++ cond b [] (f next ∷ [])) equal ∙ none_more (changes same (f 0) (map f numbers))) in
      record { so_far = is.so_far ∙ sym (ap length now); ends = is.ends ∙ sym (ap (last (f 0)) now) }

  pub counted_other : same (f number) (f next) ≡ false → IsCounted same f (numbers ++ next ∷ []) (count + 1) next
  counted_other differ =
      let now : changes same (f 0) (map f (numbers ++ next ∷ [])) ≡ changes same (f 0) (map f numbers) ++ f next ∷ [] =
      more ∙ ap (λ b. changes same (f 0) (map f numbers) ++ cond b [] (f next ∷ [])) differ in
      record {
        so_far = omega (arith, is.so_far, ap length now, length-append (changes same (f 0) (map f numbers)) (f next ∷ []));
        ends = sym (ap (last (f 0)) now ∙ last_more (f 0) (changes same (f 0) (map f numbers)) (f next));
      }

numbers_next : (q : Question) (kept : List KeptFlush) (done : List ℕ) (i : ℕ) (own : KeptFlush) → i < length kept → fold (number_more q) done (take (suc i) kept) ≡ number_more q (fold (number_more q) done (take i kept)) (get_or kept i own)
numbers_next q [] done i own low = absurd (omega arith)
numbers_next q (x ∷ kept) done zero own low = refl
numbers_next q (x ∷ kept) done (suc i) own low = numbers_next q kept (number_more q done x) i own (omega arith)

-- ---- one flush more

module _ {A : Type 0} (same : A → A → Bool) (f : ℕ → A) (q : Question) (kept : List KeptFlush) (i : ℕ) (own : KeptFlush) (count number : ℕ) (low : i < length kept) (item : own ≡ get_or kept i own)
    (is : IsCounted same f (numbers_of (take i kept) q) count number) where
  next_numbers : numbers_of (take (i + 1) kept) q ≡ number_more q (numbers_of (take i kept) q) own
  next_numbers =
      let next : i + 1 ≡ suc i = omega arith in
      ap (λ n. numbers_of (take n kept) q) next ∙ (numbers_next q kept [] i own low ∙ ap (λ (k : KeptFlush). number_more q (numbers_of (take i kept) q) k) (sym item))

  covered : (b : Bool) → covers own.flush q ≡ b → numbers_of (take (i + 1) kept) q ≡ cond b (numbers_of (take i kept) q ++ own.number ∷ []) (numbers_of (take i kept) q)
  covered b at = next_numbers ∙ ap (λ b. cond b (numbers_of (take i kept) q ++ own.number ∷ []) (numbers_of (take i kept) q)) at

  pub step_none : covers own.flush q ≡ false → IsCounted same f (numbers_of (take (i + 1) kept) q) count number
  step_none off = subst (λ (l : List ℕ). IsCounted same f l count number) (sym (covered false off)) is

  pub step_same : covers own.flush q ≡ true → same (f number) (f own.number) ≡ true → IsCounted same f (numbers_of (take (i + 1) kept) q) count number
  step_same on equal = subst (λ (l : List ℕ). IsCounted same f l count number) (sym (covered true on)) (counted_same same f (numbers_of (take i kept) q) count number own.number is equal)

  pub step_other : covers own.flush q ≡ true → same (f number) (f own.number) ≡ false → IsCounted same f (numbers_of (take (i + 1) kept) q) (count + 1) own.number
  step_other on differ = subst (λ (l : List ℕ). IsCounted same f l (count + 1) own.number) (sym (covered true on)) (counted_other same f (numbers_of (take i kept) q) count number own.number is differ)

-- ---- all

pub changes_apart : {A : Type 0} (same : A → A → Bool) (x : A) (xs : List A) → AreApartFrom same x (changes same x xs)
changes_apart same x [] = tt
changes_apart {A} same x (y ∷ ys) = split (same x y) refl (changes_apart same x ys) (changes_apart same y ys)
  where
    split : (b : Bool) → same x y ≡ b → AreApartFrom same x (changes same x ys) → AreApartFrom same y (changes same y ys) → AreApartFrom same x (cond b (changes same x ys) (y ∷ changes same y ys))
    split true equal rest other = rest
    split false differ rest other = (differ, other)

pub changes_few : {A : Type 0} (same : A → A → Bool) (x : A) (xs : List A) → length (changes same x xs) ≤ length xs
changes_few same x [] = omega arith
changes_few {A} same x (y ∷ ys) = split (same x y) (changes_few same x ys) (changes_few same y ys)
  where
    split : (b : Bool) → length (changes same x ys) ≤ length ys → length (changes same y ys) ≤ length ys → length (cond b (changes same x ys) (y ∷ changes same y ys)) ≤ length (y ∷ ys)
    split true rest other = omega (arith, rest)
    split false rest other = omega (arith, other)

pub length_all : {A B : Type 0} (f : A → B) (xs : List A) → length (map f xs) ≡ length xs
length_all f [] = refl
length_all f (x ∷ xs) = ap suc (length_all f xs)

pub kept_apart : {A : Type 0} (same : A → A → Bool) (b : Bool) (x : A) (xs : List A) → AreApart same (cond b (x ∷ changes same x xs) [])
kept_apart same true x xs = changes_apart same x xs
kept_apart same false x xs = tt
