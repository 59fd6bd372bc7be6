-- Lists of tickets and of kept changes: lemmas for this crate and the crates above.
use Rattle.std.proofs.Common.{◌≡◌, ℕ, suc, ◌<◌, Bool, true, false, List, [], ◌∷◌, length, map, refl, sym, ap, subst, ◌∙◌, inl, inr, arith}
use Rattle.std.specs.Prelude.{filter, ◌==◌, ◌||◌, if◌then◌else◌}
use Rattle.std.specs.List.{AllByRecursion}
use Rattle.std.proofs.lemmas.Bool.{cases_Bool, eqb-true, false≢true}
use Rattle.std.proofs.lemmas.Bool.Decides.{nat_tests}
use Rattle.change_law.specs.declared.kept.KeptChange.{KeptChange}
use Rattle.change_law.specs.declared.kept.Standing.{Standing}
use Rattle.change_law.specs.declared.kept.Standing.TheVariants.{Done, Undone, Cleared}
use Rattle.change_law.specs.Choice.{is_done}
use Rattle.undo_journal.specs.Journal.{in_effect, is_among, tickets_of, without, AreAscending}

pub map_length : {X Y : Type 0} (f : X → Y) (xs : List X) → length (map f xs) ≡ length xs
map_length f [] = refl
map_length f (x ∷ xs) = ap suc (map_length f xs)

-- ---- what all items have

-- Two properties of all items give a third.
pub all_both : {X : Type 0} (P Q R : X → Type 0) → ((x : X) → P x → Q x → R x) → (xs : List X) → AllByRecursion P xs → AllByRecursion Q xs → AllByRecursion R xs
all_both P Q R f [] p q = tt
all_both P Q R f (x ∷ xs) p q = (f x p.0 q.0, all_both P Q R f xs p.1 q.1)

-- If all images have a property, all items have it of their image.
pub all_back : {X Y : Type 0} (f : X → Y) (P : Y → Type 0) (xs : List X) → AllByRecursion P (map f xs) → AllByRecursion (λ x. P (f x)) xs
all_back f P [] h = tt
all_back f P (x ∷ xs) h = (h.0, all_back f P xs h.1)

pub all_images : {X Y : Type 0} (f : X → Y) (P : Y → Type 0) (xs : List X) → AllByRecursion (λ x. P (f x)) xs → AllByRecursion P (map f xs)
all_images f P [] h = tt
all_images f P (x ∷ xs) h = (h.0, all_images f P xs h.1)

pub all_filter : {X : Type 0} (P : X → Type 0) (p : X → Bool) (xs : List X) → AllByRecursion P xs → AllByRecursion P (filter p xs)
all_filter P p [] h = tt
all_filter P p (x ∷ xs) h = elim (cases_Bool (p x)) [ inl yes' ↦ rw yes' (h.0, all_filter P p xs h.1) | inr no' ↦ rw no' (all_filter P p xs h.1) ]

-- what all have, one of them has
pub all_among : (P : ℕ → Type 0) (xs : List ℕ) (t : ℕ) → AllByRecursion P xs → is_among xs t ≡ true → P t
all_among P [] t h e = absurd (false≢true e)
all_among P (x ∷ xs) t h e =
    elim (cases_Bool (x == t)) [
      | inl same ↦ subst P (eqb-true x t same) h.0
      | inr other ↦ all_among P xs t h.1 (sym (ap (λ (b : Bool). b || is_among xs t) other) ∙ e)
    ]

-- ---- tickets

-- what is among these, when one is left out
pub among_without : (xs : List ℕ) (t u : ℕ) → is_among (without t xs) u ≡ (if u == t then false else is_among xs u)
among_without [] t u = elim (cases_Bool (u == t)) [ inl same ↦ rw same refl | inr apart ↦ rw apart refl ]
among_without (x ∷ xs) t u =
    elim (cases_Bool (x == t)) [
      | inl here ↦
          rw here (among_without xs t u ∙
          elim (cases_Bool (u == t)) [
            | inl same ↦ rw same refl
            | inr apart ↦ let other : (x == u) ≡ false = grind (arith, nat_tests) in rw (apart, other) refl
          ])
      | inr there ↦
          rw there (ap (λ (b : Bool). (x == u) || b) (among_without xs t u) ∙
          elim (cases_Bool (u == t)) [
            | inl same ↦ let other : (x == u) ≡ false = grind (arith, nat_tests) in rw (same, other) refl
            | inr apart ↦ rw apart refl
          ])
    ]

-- The tickets that are left of an ascending list ascend.
pub asc_filter : {S : Type 0} (p : KeptChange S → Bool) (kept : List (KeptChange S)) → AreAscending (tickets_of kept) → AreAscending (tickets_of (filter p kept))
asc_filter p [] h = tt
asc_filter {S} p (k ∷ kept) h =
    let above : AllByRecursion (λ t. k.ticket < t) (tickets_of (filter p kept))
    = all_images (λ (x : KeptChange S). x.ticket) (λ t. k.ticket < t) (filter p kept) (all_filter (λ x. k.ticket < x.ticket) p kept (all_back (λ (x : KeptChange S). x.ticket) (λ t. k.ticket < t) kept h.0)) in
    elim (cases_Bool (p k)) [ inl yes' ↦ rw yes' (above, asc_filter p kept h.1) | inr no' ↦ rw no' (asc_filter p kept h.1) ]

-- ---- the kept changes in effect

pub in_effect_done : {S : Type 0} (kept : List (KeptChange S)) → AllByRecursion (λ k. k.standing ≡ Done) (in_effect kept)
in_effect_done [] = tt
in_effect_done {S} (k ∷ kept) = by k.standing refl (in_effect_done kept)
  where
    by : (s : Standing) → k.standing ≡ s → AllByRecursion (λ k. k.standing ≡ Done) (in_effect kept) → AllByRecursion (λ k. k.standing ≡ Done) (if is_done s then k ∷ in_effect kept else in_effect kept)
    by Done e more = (e, more)
    by Undone e more = more
    by Cleared e more = more

pub all_in_effect : {S : Type 0} (kept : List (KeptChange S)) → AllByRecursion (λ k. k.standing ≡ Done) kept → in_effect kept ≡ kept
all_in_effect [] h = refl
all_in_effect {S} (k ∷ kept) h = ap (λ (s : Standing). if is_done s then k ∷ in_effect kept else in_effect kept) h.0 ∙ ap (λ (l : List (KeptChange S)). k ∷ l) (all_in_effect kept h.1)
