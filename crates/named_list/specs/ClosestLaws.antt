-- The thing that is closest to a name, and what a list has at or above it: lemmas for the crates above.
use Rattle.std.proofs.Common.{◌≡◌, ℕ, Bool, true, false, ◌||◌, cond, List, [], ◌∷◌, Option, Some, None, refl, ap, sym, ◌∙◌, subst, inl, inr, ◌⊎◌, arith, zero, suc}
use Rattle.std.specs.Prelude.{is_some}
use Rattle.std.specs.List.{find, list_any, Contains}
use Rattle.std.proofs.lemmas.List.Elements.{Contains-append_right}
use Rattle.std.specs.Option.{option_or}
use Rattle.std.proofs.lemmas.Bool.{cases_Bool, false≢true, or_cases, or_left, or_right}
use Rattle.dns_name.specs.Labels.{Labels, IsAtOrBelow}
use Rattle.dns_name.specs.Order.{name_eq, name_eq_exact, name_eq_itself}
use Rattle.dns_name.specs.Below.{is_at_or_below}
use Rattle.dns_name.specs.BelowLaws.{below_itself, below_from_fact, fact_from_below}
use Rattle.named_list.specs.Named.{has_named}
use Rattle.named_list.specs.Closest.{find_named, closest_of, IsClosestOf}

-- what is found has the name
pub name_of_find : {T : Type 0} (name_of : T → Labels) → (things : List T) (name : Labels) (thing : T) → find_named name_of things name ≡ Some thing → (name_of thing) ≡ name
name_of_find {T} name_of [] name thing e = absurd cc
name_of_find {T} name_of (z ∷ things) name thing e =
    elim (cases_Bool (name_eq (name_of z) name)) [
      | inl same ↦ let is : Some z ≡ Some thing = sym (ap (λ b. cond b (Some z) (find_named name_of things name)) same) ∙ e in
          let same_thing : z ≡ thing = cc in ap (λ (x : T). (name_of x)) (sym same_thing) ∙ name_eq_exact (name_of z) name same
      | inr apart ↦ name_of_find name_of things name thing (sym (ap (λ b. cond b (Some z) (find_named name_of things name)) apart) ∙ e)
    ]

above_in : {T : Type 0} (name_of : T → Labels) → (l : List ℕ) (name : Labels) (things : List T) (thing : T) (found : Option T)
    → ((z : T) → found ≡ Some z → (name_of z) ≡ l ∷ name)
    → (closest_of name_of things name ≡ Some thing → is_at_or_below name (name_of thing) ≡ true)
    → option_or found (closest_of name_of things name) ≡ Some thing → is_at_or_below (l ∷ name) (name_of thing) ≡ true
above_in {T} name_of l name things thing (Some z) named more e =
    let same : z ≡ thing = cc in
    let is : (name_of thing) ≡ l ∷ name = ap (λ (x : T). (name_of x)) (sym same) ∙ named z refl in
    rw is (below_itself (l ∷ name))
above_in {T} name_of l name things thing None named more e = or_right (name_eq (l ∷ name) (name_of thing)) _ (more e)

-- the closest thing is at or above the name
pub closest_above : {T : Type 0} (name_of : T → Labels) → (things : List T) (name : Labels) (thing : T) → closest_of name_of things name ≡ Some thing → is_at_or_below name (name_of thing) ≡ true
closest_above {T} name_of things [] thing e = rw (name_of_find name_of things [] thing e) (below_itself [])
closest_above {T} name_of things (l ∷ name) thing e =
    above_in name_of l name things thing (find_named name_of things (l ∷ name)) (λ z is. name_of_find name_of things (l ∷ name) z is) (closest_above name_of things name thing) e

-- a test of two names does not depend on their order
pub name_eq-swap : (a b : Labels) → name_eq a b ≡ name_eq b a
name_eq-swap a b =
    elim (cases_Bool (name_eq a b)) [
      | inl same ↦ rw (name_eq_exact a b same) refl
      | inr apart ↦ elim (cases_Bool (name_eq b a)) [
        | inl same ↦ rw (name_eq_exact b a same) refl
        | inr other ↦ apart ∙ sym other
      ]
    ]

-- ---- what the list has at or above a name

any_is_found : {X : Type 0} (p : X → Bool) (xs : List X) → list_any p xs ≡ is_some (find p xs)
any_is_found p [] = refl
any_is_found p (x ∷ xs) =
    elim (p x) as (λ b. (b || list_any p xs) ≡ is_some (cond b (Some x) (find p xs))) [ true ↦ refl | false ↦ any_is_found p xs ]

-- a thing of a name is found exactly if there is one
pub has_named-found : {T : Type 0} (name_of : T → Labels) → (things : List T) (name : Labels) → has_named name_of things name ≡ is_some (find_named name_of things name)
has_named-found {T} name_of things name = any_is_found (λ z. name_eq (name_of z) name) things

-- the closest thing, if one of this name is at or above the name
pub record Reaches {T : Type 0} (name_of : T → Labels) (things : List T) (name above : Labels) (found : Option T) : Type 0 where
  pub thing : T
  pub is : found ≡ Some thing
  pub below : is_at_or_below (name_of thing) above ≡ true

some_reaches : {T : Type 0} (name_of : T → Labels) → (things : List T) (name above : Labels) (found : Option T) → is_some found ≡ true → ((z : T) → found ≡ Some z → is_at_or_below (name_of z) above ≡ true) → Reaches name_of things name above found
some_reaches {T} name_of things name above (Some z) e below = record { thing = z; is = refl; below = below z refl }
some_reaches {T} name_of things name above None e below = absurd (false≢true e)

reaches_in : {T : Type 0} (name_of : T → Labels) → (l : List ℕ) (name above : Labels) (things : List T) (found : Option T) → has_named name_of things above ≡ true
    → is_at_or_below (l ∷ name) above ≡ true → find_named name_of things (l ∷ name) ≡ found
    → (is_at_or_below name above ≡ true → Reaches name_of things name above (closest_of name_of things name))
    → Reaches name_of things (l ∷ name) above (option_or found (closest_of name_of things name))
reaches_in {T} name_of l name above things (Some z) there below found more =
    record { thing = z; is = refl; below = rw (name_of_find name_of things (l ∷ name) z found) below }
reaches_in {T} name_of l name above things None there below found more =
    elim (or_cases (name_eq (l ∷ name) above) (is_at_or_below name above) below) [
      | inl same ↦ absurd (false≢true (sym (ap is_some found) ∙ sym (has_named-found name_of things (l ∷ name)) ∙ ap (has_named name_of things) (name_eq_exact (l ∷ name) above same) ∙ there))
      | inr higher ↦ let it = more higher in record { thing = it.thing; is = it.is; below = it.below }
    ]

-- a name that has a thing above it has a closest thing
pub closest_reaches : {T : Type 0} (name_of : T → Labels) → (things : List T) (name above : Labels) → has_named name_of things above ≡ true → is_at_or_below name above ≡ true → Reaches name_of things name above (closest_of name_of things name)
closest_reaches {T} name_of things [] above there below =
    let same : [] ≡ above = name_eq_exact [] above below in
    let found : is_some (find_named name_of things []) ≡ true = sym (has_named-found name_of things []) ∙ ap (has_named name_of things) same ∙ there in
    some_reaches name_of things [] above (find_named name_of things []) found (λ z is. let named : (name_of z) ≡ [] = name_of_find name_of things [] z is in rw named below)
closest_reaches {T} name_of things (l ∷ name) above there below =
    reaches_in name_of l name above things (find_named name_of things (l ∷ name)) there below refl (closest_reaches name_of things name above there)

-- ---- the closest thing is one of the list

-- what the rest holds, the list holds
pub in_tail : {X : Type 0} (x : X) (xs : List X) (y : X) → Contains xs y → Contains (x ∷ xs) y
in_tail x xs y h = Contains-append_right (x ∷ []) xs y h

-- a list holds its first item
pub in_head : {X : Type 0} (x : X) (xs : List X) → Contains (x ∷ xs) x
in_head x xs = (0, omega arith, refl)

-- an item of a list is the first, or in the rest
pub in_cases : {X : Type 0} (x : X) (xs : List X) (y : X) → Contains (x ∷ xs) y → (x ≡ y) ⊎ Contains xs y
in_cases x xs y (zero, within, e) = inl e
in_cases x xs y (suc k, within, e) = inr (k, omega arith, e)

find_in : {X : Type 0} (p : X → Bool) (xs : List X) (y : X) → find p xs ≡ Some y → Contains xs y
find_in p [] y e = absurd cc
find_in p (x ∷ xs) y e =
    elim (cases_Bool (p x)) [
      | inl yes' ↦ let is : Some x ≡ Some y = sym (ap (λ b. cond b (Some x) (find p xs)) yes') ∙ e in let same : x ≡ y = cc in subst (Contains (x ∷ xs)) same (in_head x xs)
      | inr not_so ↦ in_tail x xs y (find_in p xs y (sym (ap (λ b. cond b (Some x) (find p xs)) not_so) ∙ e))
    ]

there_in : {T : Type 0} (name_of : T → Labels) → (things : List T) (name : Labels) (thing : T) (found : Option T) → ((z : T) → found ≡ Some z → Contains things z)
    → (closest_of name_of things name ≡ Some thing → Contains things thing) → option_or found (closest_of name_of things name) ≡ Some thing → Contains things thing
there_in {T} name_of things name thing (Some z) here more e = here thing e
there_in {T} name_of things name thing None here more e = more e

-- the closest thing is in the list
pub closest_there : {T : Type 0} (name_of : T → Labels) → (things : List T) (name : Labels) (thing : T) → closest_of name_of things name ≡ Some thing → Contains things thing
closest_there {T} name_of things [] thing e = find_in (λ z. name_eq (name_of z) []) things thing e
closest_there {T} name_of things (l ∷ name) thing e =
    there_in name_of things name thing (find_named name_of things (l ∷ name)) (λ z is. find_in (λ z'. name_eq (name_of z') (l ∷ name)) things z is) (closest_there name_of things name thing) e

any_from_in : {X : Type 0} (p : X → Bool) (xs : List X) (y : X) → Contains xs y → p y ≡ true → list_any p xs ≡ true
any_from_in p [] y h e = absurd (omega (arith, h.1))
any_from_in p (x ∷ xs) y h e =
    elim (in_cases x xs y h) [
      | inl same ↦ or_left (p x) _ (subst (λ z. p z ≡ true) (sym same) e)
      | inr later ↦ or_right (p x) _ (any_from_in p xs y later e)
    ]

-- a test that no item passes
pub none_passes : {X : Type 0} (p : X → Bool) (xs : List X) (y : X) → list_any p xs ≡ false → Contains xs y → p y ≡ false
none_passes p xs y none h =
    elim (cases_Bool (p y)) [
      | inl yes' ↦ absurd (false≢true (sym none ∙ any_from_in p xs y h yes'))
      | inr not_so ↦ not_so
    ]

-- The closest thing is there, at or above the name, and at or below each other that is.
pub closest_is : {T : Type 0} (name_of : T → Labels) → (things : List T) (name : Labels) (thing : T) → closest_of name_of things name ≡ Some thing → IsClosestOf name_of things name thing
closest_is {T} name_of things name thing e =
    record {
      there = closest_there name_of things name thing e;
      above = fact_from_below name (name_of thing) (closest_above name_of things name thing e);
      longest = λ other within above.
          let has : has_named name_of things (name_of other) ≡ true = any_from_in (λ z. name_eq (name_of z) (name_of other)) things other within (name_eq_itself (name_of other)) in
          let it = closest_reaches name_of things name (name_of other) has (below_from_fact name (name_of other) above) in
          let same : it.thing ≡ thing = let both : Some it.thing ≡ Some thing = sym it.is ∙ e in cc in
          fact_from_below (name_of thing) (name_of other) (ap (λ (z : T). is_at_or_below (name_of z) (name_of other)) (sym same) ∙ it.below);
    }

-- If there is no closest thing, no thing is at or above the name.
pub none_closest : {T : Type 0} (name_of : T → Labels) → (things : List T) (name : Labels) → closest_of name_of things name ≡ None → (thing : T) → Contains things thing → IsAtOrBelow name (name_of thing) → ⊥
none_closest {T} name_of things name e thing within above =
    let has : has_named name_of things (name_of thing) ≡ true = any_from_in (λ z. name_eq (name_of z) (name_of thing)) things thing within (name_eq_itself (name_of thing)) in
    let it = closest_reaches name_of things name (name_of thing) has (below_from_fact name (name_of thing) above) in
    let both : Some it.thing ≡ None = sym it.is ∙ e in cc
