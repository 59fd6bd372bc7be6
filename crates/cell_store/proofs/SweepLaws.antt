-- A column after a sweep.
use Rattle.std.proofs.Common.{◌≡◌, ℕ, Bool, true, false, cond, Option, Some, None, List, [], ◌∷◌, length, map, refl, sym, ap, ◌∙◌, arith, ◌⊎◌, inl, inr}
use Rattle.std.specs.Prelude.{fold, nat_le, nat_lt, ◌==◌, ◌&&◌, ◌||◌, is_some, slice_get}
use Rattle.std.specs.List.{list_any, AllByRecursion}
use Rattle.std.specs.Option.{option_map}
use Rattle.std.proofs.lemmas.Bool.{cases_Bool, eq-eqb, false≢true, and_parts}
use Rattle.std.proofs.lemmas.Bool.Decides.{nat_tests}
use Rattle.ranked.specs.declared.find.Find.{Find}
use Rattle.ranked.specs.declared.cell.Admitted.{Admitted}
use Rattle.ranked.specs.Cell.{admitted_map, is_alive}
use Rattle.cell_store.specs.declared.version.Place.{Place}
use Rattle.cell_store.specs.declared.version.Version.{Version}
use Rattle.cell_store.specs.Version.{nothing, own, whole, later_place, place_at, IsFromStart}
use Rattle.cell_store.specs.Slots.{version_of, place_of, held_of, IsWithin, IsHeldWithin}
use Rattle.cell_store.specs.Column.{Cells, place_in, has_find, is_counted}
use Rattle.cell_store.specs.Mixed.{is_mixed}
use Rattle.cell_store.specs.Prune.{is_asked, is_from, is_held_at, seen_by, is_seen, emptied, kept_entry, pruned, IsLess}
use Rattle.cell_store.specs.Sweep.{alive_at, swept, version_swept, IsSeenAt}
use Rattle.cell_store.proofs.ColumnLaws.{length_map, seen_place, within_place}
use Rattle.cell_store.proofs.CountLaws.{counted_seen, held_seen}
use Rattle.cell_store.proofs.MixedLaws.{one_seen}
use Rattle.cell_store.proofs.PruneLaws.{pruned_fold, less_fold, le_not}
use Rattle.cell_store.specs.TestLaws.{zero_le, or_right, not_true, either, or_left}

-- ---- by slot and by find

alive_seen : {F : Type 0} (finds : List F) (t : ℕ) (held : Option (Admitted ℕ)) → held_of finds (alive_at t held) ≡ alive_at t (held_of finds held)
alive_seen finds t None = refl
alive_seen {F} finds t (Some h) = split (slice_get finds h.body) refl (is_alive h t) refl
  where
    split : (o : Option F) → slice_get finds h.body ≡ o → (b : Bool) → is_alive h t ≡ b → held_of finds (cond (is_alive h t) (Some h) None) ≡ alive_at t (option_map (λ (find : F). admitted_map (λ _. find) h) (slice_get finds h.body))
    split None is true alive =
        ap (λ b. held_of finds (cond b (Some h) None)) alive ∙ (ap (option_map (λ (find : F). admitted_map (λ _. find) h)) is ∙ sym (ap (λ (o : Option F). alive_at t (option_map (λ (find : F). admitted_map (λ _. find) h) o)) is))
    split None is false dead =
        ap (λ b. held_of finds (cond b (Some h) None)) dead ∙ sym (ap (λ (o : Option F). alive_at t (option_map (λ (find : F). admitted_map (λ _. find) h) o)) is)
    split (Some f) is true alive =
        ap (λ b. held_of finds (cond b (Some h) None)) alive
        ∙ (ap (option_map (λ (find : F). admitted_map (λ _. find) h)) is
        ∙ sym (ap (λ (o : Option F). alive_at t (option_map (λ (find : F). admitted_map (λ _. find) h) o)) is ∙ ap (λ b. cond b (Some (admitted_map (λ _. f) h)) None) alive))
    split (Some f) is false dead =
        ap (λ b. held_of finds (cond b (Some h) None)) dead
        ∙ sym (ap (λ (o : Option F). alive_at t (option_map (λ (find : F). admitted_map (λ _. find) h) o)) is ∙ ap (λ b. cond b (Some (admitted_map (λ _. f) h)) None) dead)

swept_seen : {F : Type 0} (finds : List F) (t : ℕ) (place : Place ℕ) → place_of finds (swept t place) ≡ swept t (place_of finds place)
swept_seen {F} finds t place = split place.left
  where
    split : (l : Bool) → place_of finds (cond l whole (own (alive_at t place.cell.held))) ≡ cond l whole (own (alive_at t (held_of finds place.cell.held)))
    split true = refl
    split false = ap (λ (h : Option (Admitted F)). own h) (alive_seen finds t place.cell.held)

swept_fold : {B : Type 0} (t : ℕ) (v : ℕ) (versions : List (Version B)) (place : Place B) → fold (later_place v) (swept t place) (map (version_swept t) versions) ≡ swept t (fold (later_place v) place versions)
swept_fold t v [] place = refl
swept_fold t v (x ∷ versions) place = split (nat_le x.from v) ∙ swept_fold t v versions (later_place v place x)
  where
    split : (b : Bool) → fold (later_place v) (cond b (swept t x.place) (swept t place)) (map (version_swept t) versions) ≡ fold (later_place v) (swept t (cond b x.place place)) (map (version_swept t) versions)
    split true = refl
    split false = refl

pub swept_place : {B : Type 0} (t : ℕ) (v : ℕ) (versions : List (Version B)) → place_at (map (version_swept t) versions) v ≡ swept t (place_at versions v)
swept_place t v versions = swept_fold t v versions nothing

alive_within : (t slots : ℕ) (held : Option (Admitted ℕ)) → IsHeldWithin slots held → IsHeldWithin slots (alive_at t held)
alive_within t slots None low = tt
alive_within t slots (Some h) low = choose (is_alive h t)
  where
    choose : (b : Bool) → IsHeldWithin slots (cond b (Some h) None)
    choose true = low
    choose false = tt

pub swept_within : (t : ℕ) (slots : ℕ) (versions : List (Version ℕ)) → AllByRecursion (IsWithin slots) versions → AllByRecursion (IsWithin slots) (map (version_swept t) versions)
swept_within t slots [] all = tt
swept_within t slots (x ∷ versions) all = (split x.place.left, swept_within t slots versions all.1)
  where
    split : (l : Bool) → IsHeldWithin slots (cond l whole (own (alive_at t x.place.cell.held))).cell.held
    split true = tt
    split false = alive_within t slots x.place.cell.held all.0

pub swept_starts : {B : Type 0} (t : ℕ) (versions : List (Version B)) → IsFromStart versions → IsFromStart (map (version_swept t) versions)
swept_starts t [] starts = starts
swept_starts t (x ∷ versions) starts = starts

-- ---- a version that is asked for has each find that is kept

seen_or : {B : Type 0} (upto : ℕ) (x : Version B) (xs : List (Version B)) (numbers : List ℕ) (seen : Bool) → fold (seen_by upto x xs) seen numbers ≡ true
    → (seen ≡ true) ⊎ ((v : ℕ) × ((list_any (λ n. n == v) numbers ≡ true) × ((nat_le v upto ≡ true) × (is_held_at v x xs ≡ true))))
seen_or upto x xs [] seen is = inl is
seen_or upto x xs (n ∷ numbers) seen is = elim (seen_or upto x xs numbers (seen_by upto x xs seen n) is) [
  | inl here ↦ elim (cases_Bool (nat_le n upto && is_held_at n x xs)) [
    | inl now ↦ let parts = and_parts _ _ now in inr (n, (or_left _ _ (eq-eqb n n refl), (parts.0, parts.1)))
    | inr gone ↦ inl (sym (ap (λ b. cond b true seen) gone) ∙ here)
  ]
  | inr later ↦ inr (later.0, (or_right _ _ later.1.0, later.1.1))
]

entry_seen : {B : Type 0} (numbers : List ℕ) (upto : ℕ) (x : Version B) (xs : List (Version B)) → is_seen numbers upto x xs ≡ true → (v : ℕ) × ((is_asked numbers v ≡ true) × ((nat_le v upto ≡ true) × (is_held_at v x xs ≡ true)))
entry_seen numbers upto x xs is = elim (seen_or upto x xs numbers (is_held_at 0 x xs) is) [
  | inl start ↦ (0, (refl, (zero_le upto, start)))
  | inr some ↦ (some.0, (or_right _ _ some.1.0, some.1.1))
]

from_pruned : {B : Type 0} (numbers : List ℕ) (upto v : ℕ) (x : Version B) (xs : List (Version B)) → is_from v (kept_entry numbers upto x xs) ≡ is_from v x
from_pruned numbers upto v x xs = split (is_seen numbers upto x xs)
  where
    split : (b : Bool) → is_from v (cond b x (emptied x)) ≡ is_from v x
    split true = refl
    split false = refl

any_pruned : {B : Type 0} (numbers : List ℕ) (upto v : ℕ) (xs : List (Version B)) → list_any (is_from v) (pruned numbers upto xs) ≡ list_any (is_from v) xs
any_pruned numbers upto v [] = refl
any_pruned numbers upto v (x ∷ xs) = ap (λ b. b || list_any (is_from v) (pruned numbers upto xs)) (from_pruned numbers upto v x xs) ∙ ap (λ b. is_from v x || b) (any_pruned numbers upto v xs)

none_later : {B : Type 0} (v : ℕ) (a : Place B) (xs : List (Version B)) → list_any (is_from v) xs ≡ false → fold (later_place v) a xs ≡ a
none_later v a [] none = refl
none_later v a (x ∷ xs) none = elim (cases_Bool (nat_le x.from v)) [
  | inl here ↦ absurd (false≢true (sym none ∙ ap (λ b. b || list_any (is_from v) xs) here))
  | inr past ↦ ap (λ b. fold (later_place v) (cond b x.place a) xs) past ∙ none_later v a xs (sym (ap (λ b. b || list_any (is_from v) xs) past) ∙ none)
]

-- some version that is asked for has a find
pub find_seen : {B : Type 0} (numbers : List ℕ) (upto : ℕ) (xs : List (Version B)) → list_any has_find (pruned numbers upto xs) ≡ true
    → (v : ℕ) × ((is_asked numbers v ≡ true) × ((nat_le v upto ≡ true) × ((a : Place B) → is_some (fold (later_place v) a (pruned numbers upto xs)).cell.held ≡ true)))
find_seen numbers upto [] some = absurd (false≢true some)
find_seen {B} numbers upto (x ∷ xs) some = elim (either (has_find (kept_entry numbers upto x xs)) (list_any has_find (pruned numbers upto xs)) some) [
  | inl here ↦ elim (cases_Bool (is_seen numbers upto x xs)) [
    | inl seen ↦
        let at = entry_seen numbers upto x xs seen in
        let parts = and_parts _ _ at.1.1.1 in
        let kept : kept_entry numbers upto x xs ≡ x = ap (λ b. cond b x (emptied x)) seen in
        let none : list_any (is_from at.0) (pruned numbers upto xs) ≡ false = any_pruned numbers upto at.0 xs ∙ not_true _ parts.1 in (
          at.0,
          (
            at.1.0,
            (
              at.1.1.0,
              λ a.
                  let is : fold (later_place at.0) a (pruned numbers upto (x ∷ xs)) ≡ x.place =
                  ap (λ (e : Version B). fold (later_place at.0) (later_place at.0 a e) (pruned numbers upto xs)) kept
                  ∙ (ap (λ b. fold (later_place at.0) (cond b x.place a) (pruned numbers upto xs)) parts.0 ∙ none_later at.0 x.place (pruned numbers upto xs) none) in
                  ap (λ (p : Place B). is_some p.cell.held) is ∙ (ap (λ (e : Version B). has_find e) (sym kept) ∙ here),
            ),
          ),
        )
    | inr gone ↦ absurd (false≢true (ap (λ b. has_find (cond b x (emptied x))) (sym gone) ∙ here))
  ]
  | inr later ↦
      let rest = find_seen numbers upto xs later in
      (rest.0, (rest.1.0, (rest.1.1.0, λ a. rest.1.1.1 (later_place rest.0 a (kept_entry numbers upto x xs)))))
]

-- ---- references to the whole name

pub left_of : {B : Type 0} (t : ℕ) (place : Place B) → (swept t place).left ≡ true → place.left ≡ true
left_of {B} t place is = split place.left refl
  where
    split : (l : Bool) → place.left ≡ l → place.left ≡ true
    split true at = at
    split false at = absurd (false≢true (ap (λ b. (cond b whole (own (alive_at t place.cell.held))).left) (sym at) ∙ is))

less_left : {B : Type 0} (place other : Place B) → IsLess place other → place.left ≡ true → other.left ≡ true
less_left {B} place other less is = elim less [ inl same ↦ ap (λ (p : Place B). p.left) (sym same) ∙ is | inr none ↦ absurd (false≢true (ap (λ (p : Place B). p.left) (sym none) ∙ is)) ]

-- ---- by the fields

upto_not_past : (v upto : ℕ) → nat_le v upto ≡ true → nat_lt upto v ≡ false
upto_not_past v upto is = grind (arith, nat_tests)

module _ (old new : Cells) (versions each merged news : List (Version ℕ)) (finds rest : List Find) (numbers : List ℕ) (t : ℕ)
    (old_is : old.versions ≡ map (version_of finds) versions) (new_is : new.versions ≡ map (version_of rest) news) (upto : new.upto ≡ old.upto)
    (swept_is : (v : ℕ) → place_at each v ≡ swept t (place_at versions v))
    (places : (v : ℕ) → place_at merged v ≡ place_at (pruned numbers old.upto each) v) (same : map (version_of rest) news ≡ map (version_of finds) merged) where
  sweep_new : (v : ℕ) → place_at new.versions v ≡ place_of finds (place_at (pruned numbers old.upto each) v)
  sweep_new v = ap (λ (l : List (Version Find)). place_at l v) (new_is ∙ same) ∙ (seen_place finds v merged ∙ ap (place_of finds) (places v))

  sweep_old : (v : ℕ) → place_at old.versions v ≡ place_of finds (place_at versions v)
  sweep_old v = ap (λ (l : List (Version Find)). place_at l v) old_is ∙ seen_place finds v versions

  pub sweep_place : (v : ℕ) → is_asked numbers v ≡ true → place_in new v ≡ swept t (place_in old v)
  sweep_place v asked = ap (λ n. cond (nat_lt n v) nothing (place_at new.versions v)) upto ∙ split (nat_lt old.upto v) refl
    where
      split : (b : Bool) → nat_lt old.upto v ≡ b → cond b nothing (place_at new.versions v) ≡ swept t (cond b nothing (place_at old.versions v))
      split true is = refl
      split false is =
          sweep_new v
          ∙ (ap (place_of finds) (pruned_fold numbers old.upto v each nothing asked (le_not old.upto v is) ∙ swept_is v)
          ∙ (swept_seen finds t (place_at versions v) ∙ ap (swept t) (sym (sweep_old v))))

  -- a version that is asked for has each find that stays
  pub sweep_seen : AllByRecursion (IsWithin (length finds)) (pruned numbers old.upto each) → AllByRecursion (IsWithin (length finds)) merged → (list_any has_find merged ≡ true → list_any has_find (pruned numbers old.upto each) ≡ true)
      → is_counted new ≡ true → IsSeenAt numbers new
  sweep_seen within merged_within among counted =
      let some : list_any has_find merged ≡ true = sym (counted_seen finds merged merged_within) ∙ (ap (list_any has_find) (sym (new_is ∙ same)) ∙ counted) in
      let at = find_seen numbers old.upto each (among some) in
      let v = at.0 in
      let here : place_in new v ≡ place_of finds (place_at (pruned numbers old.upto each) v) =
      ap (λ b. cond b nothing (place_at new.versions v)) (ap (λ n. nat_lt n v) upto ∙ upto_not_past v old.upto at.1.1.0) ∙ sweep_new v in (
        v,
        (
          at.1.0,
          ap (λ (p : Place Find). is_some p.cell.held) here
              ∙ (held_seen finds (place_at (pruned numbers old.upto each) v).cell.held (within_place (length finds) v (pruned numbers old.upto each) within) ∙ at.1.1.1 nothing),
        ),
      )

  -- references to the whole name were there before
  pub sweep_left : (v : ℕ) → (place_in new v).left ≡ true → (place_in old v).left ≡ true
  sweep_left v is = split (nat_lt old.upto v) refl
    where
      now : (b : Bool) → nat_lt old.upto v ≡ b → place_in new v ≡ cond b nothing (place_at new.versions v)
      now b at = ap (λ c. cond c nothing (place_at new.versions v)) (ap (λ n. nat_lt n v) upto ∙ at)

      split : (b : Bool) → nat_lt old.upto v ≡ b → (place_in old v).left ≡ true
      split true at = absurd (false≢true (ap (λ (p : Place Find). p.left) (sym (now true at)) ∙ is))
      split false at =
          let here : (place_at (pruned numbers old.upto each) v).left ≡ true = ap (λ (p : Place Find). p.left) (sym (now false at ∙ sweep_new v)) ∙ is in
          let was : (place_at each v).left ≡ true = less_left (place_at (pruned numbers old.upto each) v) (place_at each v) (less_fold numbers old.upto v each nothing nothing (inl refl)) here in
          let swept_left : (swept t (place_at versions v)).left ≡ true = ap (λ (p : Place ℕ). p.left) (sym (swept_is v)) ∙ was in
          ap (λ b. (cond b nothing (place_at old.versions v)).left) at ∙ (ap (λ (p : Place Find). p.left) (sweep_old v) ∙ left_of t (place_at versions v) swept_left)

  -- each version has what it had, swept, or nothing
  pub sweep_less : (v : ℕ) → IsLess (place_in new v) (swept t (place_in old v))
  sweep_less v = split (nat_lt old.upto v) refl
    where
      now : (b : Bool) → nat_lt old.upto v ≡ b → place_in new v ≡ cond b nothing (place_at new.versions v)
      now b at = ap (λ c. cond c nothing (place_at new.versions v)) (ap (λ n. nat_lt n v) upto ∙ at)

      split : (b : Bool) → nat_lt old.upto v ≡ b → IsLess (place_in new v) (swept t (place_in old v))
      split true at = inr (now true at)
      split false at = elim (less_fold numbers old.upto v each nothing nothing (inl refl)) [
        | inl same ↦ inl
            (now false at
            ∙ (sweep_new v
            ∙ (ap (place_of finds) (same ∙ swept_is v)
            ∙ (swept_seen finds t (place_at versions v) ∙ (ap (swept t) (sym (sweep_old v)) ∙ sym (ap (λ b. swept t (cond b nothing (place_at old.versions v))) at))))))
        | inr none ↦ inr (now false at ∙ (sweep_new v ∙ ap (place_of finds) none))
      ]

-- a column that has a find after a sweep had one before
kept_find : {B : Type 0} (numbers : List ℕ) (upto : ℕ) (x : Version B) (xs : List (Version B)) → has_find (kept_entry numbers upto x xs) ≡ true → has_find x ≡ true
kept_find numbers upto x xs is = split (is_seen numbers upto x xs) refl
  where
    split : (b : Bool) → is_seen numbers upto x xs ≡ b → has_find x ≡ true
    split true at = ap (λ b. has_find (cond b x (emptied x))) (sym at) ∙ is
    split false at = absurd (false≢true (ap (λ b. has_find (cond b x (emptied x))) (sym at) ∙ is))

alive_some : {B : Type 0} (t : ℕ) (held : Option (Admitted B)) → is_some (alive_at t held) ≡ true → is_some held ≡ true
alive_some t None h = h
alive_some t (Some h) e = refl

swept_find : {B : Type 0} (t : ℕ) (x : Version B) → has_find (version_swept t x) ≡ true → has_find x ≡ true
swept_find t x is = split x.place.left is
  where
    split : (l : Bool) → is_some (cond l whole (own (alive_at t x.place.cell.held))).cell.held ≡ true → is_some x.place.cell.held ≡ true
    split true h = absurd (false≢true h)
    split false h = alive_some t x.place.cell.held h

or_step : (a b c d : Bool) → (a ≡ true → c ≡ true) → (b ≡ true → d ≡ true) → (a || b) ≡ true → (c || d) ≡ true
or_step true b c d p q is = ap (λ x. x || d) (p refl)
or_step false b c d p q is = or_right c d (q is)

pub pruned_finds : (numbers : List ℕ) (upto : ℕ) (versions : List (Version ℕ)) → list_any has_find (pruned numbers upto versions) ≡ true → list_any has_find versions ≡ true
pruned_finds numbers upto [] is = is
pruned_finds numbers upto (x ∷ versions) is = or_step _ _ (has_find x) (list_any has_find versions) (kept_find numbers upto x versions) (pruned_finds numbers upto versions) is

pub swept_finds : (t : ℕ) (versions : List (Version ℕ)) → list_any has_find (map (version_swept t) versions) ≡ true → list_any has_find versions ≡ true
swept_finds t [] is = is
swept_finds t (x ∷ versions) is = or_step _ _ (has_find x) (list_any has_find versions) (swept_find t x) (swept_finds t versions) is

-- ---- a column with one entry

module _ (old new : Cells) (versions news : List (Version ℕ)) (finds rest : List Find) (t : ℕ) (old_is : old.versions ≡ map (version_of finds) versions) (new_is : new.versions ≡ map (version_of rest) news) (upto : new.upto ≡ old.upto)
    (same : map (version_of rest) news ≡ map (version_of finds) (map (version_swept t) versions)) where
  even_at : (v : ℕ) → place_at new.versions v ≡ swept t (place_at old.versions v)
  even_at v =
      ap (λ (l : List (Version Find)). place_at l v) (new_is ∙ same)
      ∙ (seen_place finds v (map (version_swept t) versions)
      ∙ (ap (place_of finds) (swept_place t v versions)
      ∙ (swept_seen finds t (place_at versions v) ∙ ap (swept t) (sym (ap (λ (l : List (Version Find)). place_at l v) old_is ∙ seen_place finds v versions)))))

  pub even_place : (v : ℕ) → place_in new v ≡ swept t (place_in old v)
  even_place v = ap (λ n. cond (nat_lt n v) nothing (place_at new.versions v)) upto ∙ split (nat_lt old.upto v)
    where
      split : (b : Bool) → cond b nothing (place_at new.versions v) ≡ swept t (cond b nothing (place_at old.versions v))
      split true = refl
      split false = even_at v

  even_size : length new.versions ≡ length old.versions
  even_size =
      ap length (new_is ∙ same)
      ∙ (length_map (version_of finds) (map (version_swept t) versions) ∙ (length_map (version_swept t) versions ∙ sym (ap length old_is ∙ length_map (version_of finds) versions)))

  -- version 0 has each find that stays
  pub even_seen : IsFromStart new.versions → is_mixed old ≡ false → is_counted new ≡ true → is_some (place_in new 0).cell.held ≡ true
  even_seen starts few counted = one_seen new starts (ap (nat_lt 1) even_size ∙ few) counted
