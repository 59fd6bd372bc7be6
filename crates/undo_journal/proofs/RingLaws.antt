-- The ring at one place: what is before it, it, and what is after it. And lists of tickets.
use Rattle.std.proofs.Common.{◌≡◌, ◌≢◌, ◌⊎◌, inl, inr, ℕ, zero, suc, ◌+◌, ◌-◌, ◌<◌, ◌≤◌, Bool, true, false, Option, Some, None, List, [], ◌∷◌, ◌++◌, length, take, drop, map, refl, sym, ap, subst, ◌∙◌, arith, rules}
use Rattle.std.specs.Prelude.{slice_get, slice_set, Result, Ok, Err, OnErr, filter, not, ◌==◌, ◌&&◌, ◌||◌, if◌then◌else◌}
use Rattle.std.specs.List.{AllByRecursion}
use Rattle.std.proofs.lemmas.Bool.{cases_Bool, eqb-true, false≢true}
use Rattle.std.proofs.lemmas.List.Folds.{list_any-append}
use Rattle.change_law.specs.declared.kept.KeptChange.{KeptChange}
use Rattle.change_law.specs.declared.kept.Standing.{Standing}
use Rattle.change_law.specs.declared.kept.Standing.TheVariants.{Done, Undone, Cleared}
use Rattle.change_law.specs.ChoiceLaws.{same_number, other_number}
use Rattle.change_law.specs.Face.{Face}
use Rattle.change_law.specs.Row.{kept_as, IsRowAfter}
use Rattle.change_law.specs.Choice.{passed, turned}
use Rattle.undo_journal.specs.Journal.{AreDifferent, is_among, is_before, without}
pub use Rattle.undo_journal.specs.TicketLaws.{all_among, all_back, all_both, all_filter, all_images, among_without, map_length}

-- ---- lists

pub record IsAt {X : Type 0} (xs : List X) (n : ℕ) (x : X) : Type 0 where
  pub earlier : List X
  pub later : List X
  pub all : xs ≡ earlier ++ x ∷ later
  pub place : length earlier ≡ n
  pub written : (y : X) → slice_set xs n y ≡ earlier ++ y ∷ later

pub at_place : {X : Type 0} (xs : List X) (n : ℕ) (x : X) → slice_get xs n ≡ Some x → IsAt xs n x
at_place [] n x e = absurd (search rules)
at_place (a ∷ xs) zero x e = record { earlier = []; later = xs; all = cc; place = refl; written = λ y. refl }
at_place (a ∷ xs) (suc n) x e =
    let more = at_place xs n x e in
    record {
      earlier = a ∷ more.earlier;
      later = more.later;
      all = ap (λ l. a ∷ l) more.all;
      place = ap suc more.place;
      written = λ y. ap (λ l. a ∷ l) (more.written y);
    }

pub take_there : {X : Type 0} (xs : List X) (ys : List X) → take (length xs) (xs ++ ys) ≡ xs
take_there [] ys = refl
take_there (x ∷ xs) ys = ap (λ l. x ∷ l) (take_there xs ys)

pub take_past : {X : Type 0} (xs : List X) (y : X) (ys : List X) → take (suc (length xs)) (xs ++ y ∷ ys) ≡ xs ++ y ∷ []
take_past [] y ys = refl
take_past (x ∷ xs) y ys = ap (λ l. x ∷ l) (take_past xs y ys)

pub drop_there : {X : Type 0} (xs : List X) (ys : List X) → drop (length xs) (xs ++ ys) ≡ ys
drop_there [] ys = refl
drop_there (x ∷ xs) ys = drop_there xs ys

pub drop_past : {X : Type 0} (xs : List X) (y : X) (ys : List X) → drop (suc (length xs)) (xs ++ y ∷ ys) ≡ ys
drop_past [] y ys = refl
drop_past (x ∷ xs) y ys = drop_past xs y ys

-- what is before a place, or what is after it
pub passed_at : {X : Type 0} (xs : List X) (n : ℕ) (x : X) (at : IsAt xs n x) (from : Standing) → passed from (take n xs) (drop (n + 1) xs) ≡ passed from at.earlier at.later
passed_at xs n x at from =
    let next : n + 1 ≡ suc (length at.earlier) = omega (arith, at.place) in
    let front : take n xs ≡ at.earlier = (λ i. take (sym at.place i) (at.all i)) ∙ take_there at.earlier (x ∷ at.later) in
    let behind : drop (n + 1) xs ≡ at.later = (λ i. drop (next i) (at.all i)) ∙ drop_past at.earlier x at.later in
    λ i. passed from (front i) (behind i)

pub map_append : {X Y : Type 0} (f : X → Y) (xs ys : List X) → map f (xs ++ ys) ≡ map f xs ++ map f ys
map_append f [] ys = refl
map_append f (x ∷ xs) ys = ap (λ l. f x ∷ l) (map_append f xs ys)

-- what a filter leaves passes it
pub all_pass : {X : Type 0} (p : X → Bool) (xs : List X) → AllByRecursion (λ x. p x ≡ true) (filter p xs)
all_pass p [] = tt
all_pass p (x ∷ xs) = elim (cases_Bool (p x)) [ inl yes' ↦ rw yes' (yes', all_pass p xs) | inr no' ↦ rw no' (all_pass p xs) ]

pub length_filter : {X : Type 0} (p : X → Bool) (xs : List X) → length (filter p xs) ≤ length xs
length_filter p [] = omega arith
length_filter p (x ∷ xs) = elim (cases_Bool (p x)) [ inl yes' ↦ rw yes' (omega (arith, length_filter p xs)) | inr no' ↦ rw no' (omega (arith, length_filter p xs)) ]

-- ---- tests

pub or_cases : (x y : Bool) → (x || y) ≡ true → (x ≡ true) ⊎ (y ≡ true)
or_cases true y e = inl refl
or_cases false y e = inr e

pub or_left : (x y : Bool) → x ≡ true → (x || y) ≡ true
or_left true y e = refl
or_left false y e = absurd (false≢true e)

pub or_right : (x y : Bool) → y ≡ true → (x || y) ≡ true
or_right true y e = refl
or_right false y e = e

pub or_none : (x y : Bool) → (x || y) ≡ false → (x ≡ false) × (y ≡ false)
or_none true y e = absurd (false≢true (sym e))
or_none false y e = (refl, e)

pub and_both : (x y : Bool) → (x && y) ≡ true → (x ≡ true) × (y ≡ true)
and_both true y e = (refl, e)
and_both false y e = absurd (false≢true e)

pub and_true : (x y : Bool) → x ≡ true → y ≡ true → (x && y) ≡ true
and_true true y e f = f
and_true false y e f = absurd (false≢true e)

and_none : (x : Bool) → (x && false) ≡ false
and_none true = refl
and_none false = refl

or_false : (b : Bool) → (b || false) ≡ b
or_false true = refl
or_false false = refl

-- ---- tickets

pub among_push_other : (xs : List ℕ) (t u : ℕ) → (t == u) ≡ false → is_among (xs ++ t ∷ []) u ≡ is_among xs u
among_push_other xs t u other = list_any-append (λ s. s == u) xs (t ∷ []) ∙ rw other (or_false (is_among xs u))

pub among_push_here : (xs : List ℕ) (t : ℕ) → is_among (xs ++ t ∷ []) t ≡ true
among_push_here [] t = or_left (t == t) false (same_number t)
among_push_here (x ∷ xs) t = or_right (x == t) (is_among (xs ++ t ∷ []) t) (among_push_here xs t)

pub among_more : (xs : List ℕ) (t u : ℕ) → is_among xs u ≡ true → is_among (xs ++ t ∷ []) u ≡ true
among_more xs t u e = list_any-append (λ s. s == u) xs (t ∷ []) ∙ or_left (is_among xs u) (is_among (t ∷ []) u) e

pub among_without_other : (xs : List ℕ) (t u : ℕ) → (u == t) ≡ false → is_among (without t xs) u ≡ is_among xs u
among_without_other xs t u apart = among_without xs t u ∙ ap (λ (b : Bool). if b then false else is_among xs u) apart

pub among_without_here : (xs : List ℕ) (t : ℕ) → is_among (without t xs) t ≡ false
among_without_here xs t = among_without xs t t ∙ ap (λ (b : Bool). if b then false else is_among xs t) (same_number t)

pub different_push : (xs : List ℕ) (t : ℕ) → AreDifferent xs → is_among xs t ≡ false → AreDifferent (xs ++ t ∷ [])
different_push [] t h none = (refl, tt)
different_push (x ∷ xs) t h none =
    let parts = or_none (x == t) (is_among xs t) none in
    let other : (t == x) ≡ false = other_number t x (λ same. false≢true (sym parts.0 ∙ (ap (λ n. x == n) same ∙ same_number x))) in
    (among_push_other xs t x other ∙ h.0, different_push xs t h.1 parts.1)

pub different_without : (xs : List ℕ) (t : ℕ) → AreDifferent xs → AreDifferent (without t xs)
different_without [] t h = tt
different_without (x ∷ xs) t h =
    elim (cases_Bool (x == t)) [
      | inl here ↦ rw here (different_without xs t h.1)
      | inr there ↦ rw there (among_without_other xs t x there ∙ h.0, different_without xs t h.1)
    ]

pub length_without : (xs : List ℕ) (t : ℕ) → is_among xs t ≡ true → length (without t xs) + 1 ≤ length xs
length_without [] t e = absurd (false≢true e)
length_without (x ∷ xs) t e =
    elim (cases_Bool (x == t)) [
      | inl here ↦ rw here (omega (arith, length_filter (λ s. not (s == t)) xs))
      | inr there ↦ rw there (let more : is_among xs t ≡ true = sym (ap (λ (b : Bool). b || is_among xs t) there) ∙ e in omega (arith, length_without xs t more))
    ]

-- ---- one before another

pub before_push : (xs : List ℕ) (t a b : ℕ) → is_before xs a b ≡ true → is_before (xs ++ t ∷ []) a b ≡ true
before_push [] t a b e = absurd (false≢true e)
before_push (x ∷ xs) t a b e =
    elim (or_cases (x == a && is_among xs b) (is_before xs a b) e) [
      | inl here ↦
          let both = and_both (x == a) (is_among xs b) here in
          or_left (x == a && is_among (xs ++ t ∷ []) b) (is_before (xs ++ t ∷ []) a b) (and_true (x == a) (is_among (xs ++ t ∷ []) b) both.0 (among_more xs t b both.1))
      | inr more ↦ or_right (x == a && is_among (xs ++ t ∷ []) b) (is_before (xs ++ t ∷ []) a b) (before_push xs t a b more)
    ]

pub before_last : (xs : List ℕ) (a t : ℕ) → is_among xs a ≡ true → is_before (xs ++ t ∷ []) a t ≡ true
before_last [] a t e = absurd (false≢true e)
before_last (x ∷ xs) a t e =
    elim (or_cases (x == a) (is_among xs a) e) [
      | inl here ↦ or_left (x == a && is_among (xs ++ t ∷ []) t) (is_before (xs ++ t ∷ []) a t) (and_true (x == a) (is_among (xs ++ t ∷ []) t) here (among_push_here xs t))
      | inr more ↦ or_right (x == a && is_among (xs ++ t ∷ []) t) (is_before (xs ++ t ∷ []) a t) (before_last xs a t more)
    ]

pub last_before_none : (xs : List ℕ) (t b : ℕ) → is_among xs t ≡ false → is_before (xs ++ t ∷ []) t b ≡ false
last_before_none [] t b none = or_false (t == t && false) ∙ and_none (t == t)
last_before_none (x ∷ xs) t b none =
    let parts = or_none (x == t) (is_among xs t) none in
    ap (λ (y : Bool). (y && is_among (xs ++ t ∷ []) b) || is_before (xs ++ t ∷ []) t b) parts.0 ∙ last_before_none xs t b parts.1

pub before_without : (xs : List ℕ) (t a b : ℕ) → (a == t) ≡ false → (b == t) ≡ false → is_before xs a b ≡ true → is_before (without t xs) a b ≡ true
before_without [] t a b na nb e = e
before_without (x ∷ xs) t a b na nb e =
    elim (cases_Bool (x == t)) [
      | inl here ↦
          rw here (elim (or_cases (x == a && is_among xs b) (is_before xs a b) e) [
            | inl first ↦
                let own : x ≡ a = eqb-true x a (and_both (x == a) (is_among xs b) first).0 in
                absurd (false≢true (sym na ∙ (ap (λ n. n == t) (sym own) ∙ here)))
            | inr more ↦ before_without xs t a b na nb more
          ])
      | inr there ↦
          rw there (elim (or_cases (x == a && is_among xs b) (is_before xs a b) e) [
            | inl first ↦
                let both = and_both (x == a) (is_among xs b) first in
                or_left (x == a && is_among (without t xs) b) (is_before (without t xs) a b) (and_true (x == a) (is_among (without t xs) b) both.0 (among_without_other xs t b nb ∙ both.1))
            | inr more ↦ or_right (x == a && is_among (without t xs) b) (is_before (without t xs) a b) (before_without xs t a b na nb more)
          ])
    ]

-- ---- standings

abbrev is_undone : Standing → Bool
is_undone Undone = true
is_undone _ = false

abbrev is_done' : Standing → Bool
is_done' Done = true
is_done' _ = false

pub Done≢Undone : Done ≢ Undone
Done≢Undone e = false≢true (ap is_undone e)

pub Undone≢Done : Undone ≢ Done
Undone≢Done e = false≢true (ap is_done' e)

abbrev is_cleared : Standing → Bool
is_cleared Cleared = true
is_cleared _ = false

pub Undone≢Cleared : Undone ≢ Cleared
Undone≢Cleared e = false≢true (ap is_cleared e)

pub Done≢Cleared : Done ≢ Cleared
Done≢Cleared e = false≢true (ap is_cleared e)

pub turned≢Cleared : (from : Standing) → turned from ≢ Cleared
turned≢Cleared Done = Undone≢Cleared
turned≢Cleared Undone = Done≢Cleared
turned≢Cleared Cleared = Done≢Cleared

pub kept_is : {S : Type 0} (k : KeptChange S) (s : Standing) → k.standing ≡ s → kept_as s k.ticket k.saved ≡ k
kept_is k s e = λ i. record { ticket = k.ticket; standing = sym e i; saved = k.saved }

-- ---- a row by equal lists

pub row_of : {W S T : Type 0} (table : S → Option ℕ) (keeps : W → List (KeptChange S) → Type 0) (face : W → List (KeptChange S) → (ℕ → Bool) → Face T)
    (made : (ℕ → Bool) → Face T → Face T) (P : (ℕ → Bool) → Type 0) (before : W) (kept other : List (KeptChange S)) (after : W) (left rest : List (KeptChange S)) →
    kept ≡ other → left ≡ rest → IsRowAfter table keeps face made P before kept after left → IsRowAfter table keeps face made P before other after rest
row_of table keeps face made P before kept other after left rest e f row =
    subst (λ (x : List (KeptChange _)). IsRowAfter table keeps face made P before other after x) f
    (subst (λ (x : List (KeptChange _)). IsRowAfter table keeps face made P before x after left) e row)

-- ---- results

pub on_err : {A E P : Type 0} (r : Result A E) → P → OnErr r P
on_err (Ok a) p = tt
on_err (Err e) p = p
