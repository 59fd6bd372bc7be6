-- The finds of a column, when one to which no cell refers is dropped.
use Rattle.std.proofs.Common.{◌≡◌, ◌≢◌, ℕ, ◌+◌, ◌-◌, ◌<◌, ◌≤◌, Bool, true, false, cond, Option, Some, None, List, [], ◌∷◌, length, get_or, map, slice_set, refl, sym, ap, ◌∙◌, arith}
use Rattle.std.specs.Prelude.{◌==◌, slice_get}
use Rattle.std.specs.List.{list_any, swap_remove, AllByRecursion}
use Rattle.std.specs.Option.{option_map}
use Rattle.std.proofs.lemmas.Bool.{eq-eqb, eqb-true, false≢true}
use Rattle.std.proofs.lemmas.List.{get_or-take, get_or-set_same, get_or-set_other, get_or_default, length-set, length-take-le}
use Rattle.std.proofs.lemmas.Option.{slice_get-get_or}
use Rattle.ranked.specs.declared.cell.Admitted.{Admitted}
use Rattle.ranked.specs.Cell.{admitted_map}
use Rattle.cell_store.specs.declared.version.Version.{Version}
use Rattle.cell_store.specs.Slots.{held_of, version_of, held_names, names, IsHeldWithin, IsWithin, AreNamed, renamed_held, renamed}
use Rattle.cell_store.proofs.Each.{any_map}
use Rattle.cell_store.specs.TestLaws.{neither}

-- `rest` is `all` with the find of a slot taken out and the last one put there
pub record IsWithout {F : Type 0} (all rest : List F) (slot last : ℕ) : Type 0 where
  pub few : length all ≡ last + 1
  pub fewer : length rest ≡ last
  pub there : (d : F) → slot < last → get_or rest slot d ≡ get_or all last d
  pub other : (k : ℕ) (d : F) → k ≢ slot → k < last → get_or rest k d ≡ get_or all k d

-- ---- the last find moves into a gap

module _ {F : Type 0} (all : List F) (slot : ℕ) (d : F) (low : slot < length all) where
  abbrev last : ℕ
  last = length all - 1

  abbrev moved : List F
  moved = slice_set all slot (get_or all last d)

  moved_length : length (swap_remove all slot d) ≡ last
  moved_length = length-take-le last moved (omega (arith, length-set all slot (get_or all last d)))

  moved_there : (e : F) → slot < last → get_or (swap_remove all slot d) slot e ≡ get_or all last e
  moved_there e below =
      get_or-take last moved slot e below ∙ (get_or-set_same all slot (get_or all last d) e low ∙ get_or_default all last d e (omega arith))

  moved_other : (k : ℕ) (e : F) → (k ≡ slot → ⊥) → k < last → get_or (swap_remove all slot d) k e ≡ get_or all k e
  moved_other k e away below = get_or-take last moved k e below ∙ get_or-set_other all slot k (get_or all last d) e away

-- a find of a list that has a slot
pub some_find : {F : Type 0} (all : List F) (slot : ℕ) → slot < length all → F
some_find [] slot low = absurd (omega arith)
some_find (x ∷ all) slot low = x

-- the last find moved into the gap
pub without_is : {F : Type 0} (all rest : List F) (slot last : ℕ) (d : F) → slot < length all → length all ≡ last + 1 → rest ≡ swap_remove all slot d → IsWithout all rest slot last
without_is {F} all rest slot last d low few is =
    let count : length all - 1 ≡ last = omega arith in
    record {
      few = few;
      fewer = ap length is ∙ (moved_length all slot d low ∙ count);
      there = λ e below. ap (λ (l : List F). get_or l slot e) is ∙ (moved_there all slot d low e (omega arith) ∙ ap (λ k. get_or all k e) count);
      other = λ k e away below. ap (λ (l : List F). get_or l k e) is ∙ moved_other all slot d low k e away (omega arith);
    }

apart : (a b : ℕ) → (a == b) ≡ false → a ≢ b
apart a b is same = false≢true (sym is ∙ eq-eqb a b same)

module _ {F : Type 0} (all rest : List F) (slot last : ℕ) (d : F) (is : IsWithout all rest slot last) (in_all : slot < last + 1) where
  read : (k j : ℕ) → k < length rest → j < length all → get_or rest k d ≡ get_or all j d → slice_get rest k ≡ slice_get all j
  read k j low high same = slice_get-get_or rest k d low ∙ (ap Some same ∙ sym (slice_get-get_or all j d high))

  same_find : (body : ℕ) → body < last + 1 → (body == slot) ≡ false → slice_get rest (cond (body == last) slot body) ≡ slice_get all body
  same_find body low other = split (body == last) refl
    where
      split : (b : Bool) → (body == last) ≡ b → slice_get rest (cond b slot body) ≡ slice_get all body
      split true here =
          let at : body ≡ last = eqb-true body last here in
          let away = apart body slot other in
          let low' : slot < last = omega arith in
          let lo : slot < length rest = omega (arith, is.fewer) in
          let hi : last < length all = omega (arith, is.few) in
          read slot last lo hi (is.there d low') ∙ ap (slice_get all) (sym at)
      split false gone =
          let away = apart body slot other in
          let before = apart body last gone in
          let low' : body < last = omega arith in
          let lo : body < length rest = omega (arith, is.fewer) in
          let hi : body < length all = omega (arith, is.few) in
          read body body lo hi (is.other body d away low')

  same_held : (held : Option (Admitted ℕ)) → IsHeldWithin (last + 1) held → held_names slot held ≡ false → held_of rest (renamed_held last slot held) ≡ held_of all held
  same_held None low other = refl
  same_held (Some held) low other = ap (option_map (λ (find : F). admitted_map (λ _. find) held)) (same_find held.body low other)

  within_held : (held : Option (Admitted ℕ)) → IsHeldWithin (last + 1) held → held_names slot held ≡ false → IsHeldWithin last (renamed_held last slot held)
  within_held None low other = tt
  within_held (Some held) low other = split (held.body == last) refl
    where
      split : (b : Bool) → (held.body == last) ≡ b → cond b slot held.body < last
      split true here =
          let at : held.body ≡ last = eqb-true held.body last here in
          let away = apart held.body slot other in
          omega arith
      split false gone =
          let before = apart held.body last gone in
          omega arith

  pub same_each : (versions : List (Version ℕ)) → AllByRecursion (IsWithin (last + 1)) versions → list_any (names slot) versions ≡ false
      → map (version_of rest) (map (renamed last slot) versions) ≡ map (version_of all) versions
  same_each [] within none = refl
  same_each (v ∷ versions) within none =
      let parts = neither (names slot v) (list_any (names slot) versions) none in
      let here : version_of rest (renamed last slot v) ≡ version_of all v =
      ap (λ (h : Option (Admitted F)). record { from = v.from; place = record { left = v.place.left; cell = record { held = h } } }) (same_held v.place.cell.held within.0 parts.0) in
      ap (λ (w : Version F). w ∷ map (version_of rest) (map (renamed last slot) versions)) here ∙ ap (λ (l : List (Version F)). version_of all v ∷ l) (same_each versions within.1 parts.1)

  pub within_each : (versions : List (Version ℕ)) → AllByRecursion (IsWithin (last + 1)) versions → list_any (names slot) versions ≡ false
      → AllByRecursion (IsWithin last) (map (renamed last slot) versions)
  within_each [] within none = tt
  within_each (v ∷ versions) within none =
      let parts = neither (names slot v) (list_any (names slot) versions) none in
      (within_held v.place.cell.held within.0 parts.0, within_each versions within.1 parts.1)

still_named : (low slot last : ℕ) → low < slot → slot ≤ last → (held : Option (Admitted ℕ)) → held_names low held ≡ true → held_names low (renamed_held last slot held) ≡ true
still_named low slot last below few None is = is
still_named low slot last below few (Some held) is = split (held.body == last) refl
  where
    split : (b : Bool) → (held.body == last) ≡ b → (cond b slot held.body == low) ≡ true
    split true here = absurd (omega (arith, eqb-true held.body last here, eqb-true held.body low is))
    split false gone = is

-- the lower slots are still referred to
pub still_named_each : (slot last : ℕ) → slot ≤ last → (versions : List (Version ℕ)) → AreNamed versions slot → AreNamed (map (renamed last slot) versions) slot
still_named_each slot last few versions named low below =
    any_map (names low) (names low) (renamed last slot) (λ v is. still_named low slot last below few v.place.cell.held is) versions (named low below)
