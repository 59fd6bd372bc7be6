-- A column as its users see it, by what it keeps.
use Rattle.std.proofs.Common.{◌≡◌, ℕ, suc, ◌+◌, ◌-◌, ◌<◌, ◌≤◌, Bool, true, false, cond, Option, Some, None, List, [], ◌∷◌, ◌++◌, length, get_or, map, refl, sym, ap, ◌∙◌, subst, arith, length-append}
use Rattle.std.specs.Prelude.{eqb, nat_le, nat_lt, slice_get, fold}
use Rattle.std.specs.List.{AllByRecursion}
use Rattle.std.specs.Option.{option_map}
use Rattle.std.proofs.lemmas.Bool.{eq-eqb, eqb-true}
use Rattle.std.proofs.lemmas.Bool.Decides.{nat_tests}
use Rattle.std.proofs.lemmas.Option.{slice_get-get_or}
use Rattle.std.proofs.lemmas.Map.Steps.{le-length_from_below}
use Rattle.std.proofs.lemmas.List.{get_or_append_left}
use Rattle.std.proofs.lemmas.List.Sums.{fold-append}
use Rattle.std.proofs.Math.Seq.{get_or-append_seam}
use Rattle.arrayvec.specs.ArrayVec.{ArrayVec}
use Rattle.ranked.specs.declared.find.Find.{Find}
use Rattle.ranked.specs.declared.cell.Admitted.{Admitted}
use Rattle.ranked.specs.declared.cell.Shown.{Shown}
use Rattle.ranked.specs.Cell.{admitted_map, shown_at, is_alive, after_admission, turns_away}
use Rattle.ranked.specs.Find.{admission_of}
use Rattle.cell_store.specs.declared.version.Place.{Place}
use Rattle.cell_store.specs.declared.version.Version.{Version}
use Rattle.cell_store.specs.Version.{nothing, after_find, version_after, later_place, place_at, own, reached, IsFromStart}
use Rattle.cell_store.specs.Slots.{held_of, place_of, version_of, held_names, names, IsHeldWithin, IsWithin, AreNamed}
use Rattle.cell_store.specs.Column.{Cells, cells_of, place_in}
use Rattle.cell_store.proofs.Each.{any_map}
use Rattle.cell_store.specs.TestLaws.{zero_le, some_is_none, not_past, lt_of, ge_of}

-- ---- there are at most as many finds as versions

abbrev slot_in : Option (Admitted ℕ) → ℕ
slot_in None = 0
slot_in (Some held) = held.body

abbrev slot_of : Version ℕ → ℕ
slot_of version = slot_in version.place.cell.held

named_slot : (slot : ℕ) (held : Option (Admitted ℕ)) → held_names slot held ≡ true → eqb slot (slot_in held) ≡ true
named_slot slot None is = absurd cc
named_slot slot (Some held) is = eq-eqb slot held.body (sym (eqb-true held.body slot is))

pub length_map : {X Y : Type 0} (f : X → Y) (xs : List X) → length (map f xs) ≡ length xs
length_map f [] = refl
length_map f (x ∷ xs) = ap suc (length_map f xs)

pub few_finds : (versions : List (Version ℕ)) (slots : ℕ) → AreNamed versions slots → slots ≤ length versions
few_finds versions slots named =
    omega (
      arith,
      length_map slot_of versions,
      le-length_from_below (map slot_of versions) slots
          (λ slot low. any_map (names slot) (eqb slot) slot_of (λ v is. named_slot slot v.place.cell.held is) versions (named slot low)),
    )

-- users see as many versions as are kept
pub same_length : {F : Type 0} (old new : List F) (olds news : List (Version ℕ)) → map (version_of new) news ≡ map (version_of old) olds → length news ≡ length olds
same_length old new olds news same = sym (length_map (version_of new) news) ∙ (ap length same ∙ length_map (version_of old) olds)

-- ---- the place in a version

seen_fold : {F : Type 0} (finds : List F) (v : ℕ) (versions : List (Version ℕ)) (place : Place ℕ)
    → fold (later_place v) (place_of finds place) (map (version_of finds) versions) ≡ place_of finds (fold (later_place v) place versions)
seen_fold finds v [] place = refl
seen_fold {F} finds v (x ∷ versions) place = split (nat_le x.from v) ∙ seen_fold finds v versions (later_place v place x)
  where
    split : (b : Bool) → fold (later_place v) (cond b (place_of finds x.place) (place_of finds place)) (map (version_of finds) versions) ≡ fold (later_place v) (place_of finds (cond b x.place place)) (map (version_of finds) versions)
    split true = refl
    split false = refl

pub seen_place : {F : Type 0} (finds : List F) (v : ℕ) (versions : List (Version ℕ)) → place_at (map (version_of finds) versions) v ≡ place_of finds (place_at versions v)
seen_place finds v versions = seen_fold finds v versions nothing

within_fold : (slots v : ℕ) (versions : List (Version ℕ)) (place : Place ℕ) → IsHeldWithin slots place.cell.held → AllByRecursion (IsWithin slots) versions → IsHeldWithin slots (fold (later_place v) place versions).cell.held
within_fold slots v [] place here within = here
within_fold slots v (x ∷ versions) place here within = within_fold slots v versions (later_place v place x) (split (nat_le x.from v)) within.1
  where
    split : (b : Bool) → IsHeldWithin slots (cond b x.place place).cell.held
    split true = within.0
    split false = here

pub within_place : (slots v : ℕ) (versions : List (Version ℕ)) → AllByRecursion (IsWithin slots) versions → IsHeldWithin slots (place_at versions v).cell.held
within_place slots v versions within = within_fold slots v versions nothing tt within

-- ---- an admission

after_fold : {B : Type 0} (new : Admitted B) (outranked : Bool) (v : ℕ) (versions : List (Version B)) (place : Place B)
    → fold (later_place v) (after_find new outranked place) (map (version_after new outranked) versions) ≡ after_find new outranked (fold (later_place v) place versions)
after_fold new outranked v [] place = refl
after_fold new outranked v (x ∷ versions) place = split (nat_le x.from v) ∙ after_fold new outranked v versions (later_place v place x)
  where
    split : (b : Bool) → fold (later_place v) (cond b (after_find new outranked x.place) (after_find new outranked place)) (map (version_after new outranked) versions) ≡ fold (later_place v) (after_find new outranked (cond b x.place place)) (map (version_after new outranked) versions)
    split true = refl
    split false = refl

-- the place in each version after an admission
pub after_place : {B : Type 0} (new : Admitted B) (outranked : Bool) (v : ℕ) (versions : List (Version B)) → IsFromStart versions → place_at (map (version_after new outranked) versions) v ≡ after_find new outranked (place_at versions v)
after_place new outranked v [] starts = absurd starts
after_place {B} new outranked v (x ∷ versions) starts =
    ap (λ b. fold (later_place v) (cond b (after_find new outranked x.place) nothing) (map (version_after new outranked) versions)) low
    ∙ (after_fold new outranked v versions x.place ∙ sym (ap (λ b. after_find new outranked (fold (later_place v) (cond b x.place nothing) versions)) low))
  where
    low : nat_le x.from v ≡ true
    low = rw starts (zero_le v)

pub still_starts : {B : Type 0} (new : Admitted B) (outranked : Bool) (versions : List (Version B)) → IsFromStart versions → IsFromStart (map (version_after new outranked) versions)
still_starts new outranked [] starts = starts
still_starts new outranked (x ∷ versions) starts = starts

module _ {F : Type 0} (finds : List F) (find : F) (new : Admitted ℕ) (at : new.body ≡ length finds) where
  find_last : slice_get (finds ++ find ∷ []) new.body ≡ Some find
  find_last =
      let low : new.body < length (finds ++ find ∷ []) = omega (arith, length-append finds (find ∷ [])) in
      slice_get-get_or (finds ++ find ∷ []) new.body find low ∙ ap Some (ap (λ k. get_or (finds ++ find ∷ []) k find) at ∙ get_or-append_seam finds find [] find)

  find_other : (body : ℕ) → body < length finds → slice_get (finds ++ find ∷ []) body ≡ slice_get finds body
  find_other body low =
      let low' : body < length (finds ++ find ∷ []) = omega (arith, length-append finds (find ∷ [])) in
      slice_get-get_or (finds ++ find ∷ []) body find low' ∙ (ap Some (get_or_append_left finds (find ∷ []) find body low) ∙ sym (slice_get-get_or finds body find low))

  seen_new : held_of (finds ++ find ∷ []) (Some new) ≡ Some (admitted_map (λ _. find) new)
  seen_new = ap (option_map (λ (f : F). admitted_map (λ _. f) new)) find_last

  seen_old : (held : Option (Admitted ℕ)) → IsHeldWithin (length finds) held → held_of (finds ++ find ∷ []) held ≡ held_of finds held
  seen_old None low = refl
  seen_old (Some held) low = ap (option_map (λ (f : F). admitted_map (λ _. f) held)) (find_other held.body low)

  seen_after : (held : Option (Admitted ℕ)) → IsHeldWithin (length finds) held
      → held_of (finds ++ find ∷ []) (after_admission held new) ≡ after_admission (held_of finds held) (admitted_map (λ _. find) new)
  seen_after None low = seen_new
  seen_after (Some held) low = split (turns_away (Some held) new) refl ∙ sym (ap (λ (h : Option (Admitted F)). after_admission h (admitted_map (λ _. find) new)) known)
    where
      there : F
      there = get_or finds held.body find

      known : held_of finds (Some held) ≡ Some (admitted_map (λ _. there) held)
      known = ap (option_map (λ (f : F). admitted_map (λ _. f) held)) (slice_get-get_or finds held.body find low)

      split : (b : Bool) → turns_away (Some held) new ≡ b → held_of (finds ++ find ∷ []) (cond b (Some held) (Some new)) ≡ cond (turns_away (Some held) new) (Some (admitted_map (λ _. there) held)) (Some (admitted_map (λ _. find) new))
      split true is = seen_old (Some held) low ∙ (known ∙ sym (ap (λ b. cond b (Some (admitted_map (λ _. there) held)) (Some (admitted_map (λ _. find) new))) is))
      split false is = seen_new ∙ sym (ap (λ b. cond b (Some (admitted_map (λ _. there) held)) (Some (admitted_map (λ _. find) new))) is)

  seen_place_after : (outranked : Bool) (place : Place ℕ) → IsHeldWithin (length finds) place.cell.held
      → place_of (finds ++ find ∷ []) (after_find new outranked place) ≡ after_find (admitted_map (λ _. find) new) outranked (place_of finds place)
  seen_place_after outranked place low = split place.left outranked
    where
      both : place_of (finds ++ find ∷ []) (own (after_admission place.cell.held new)) ≡ own (after_admission (held_of finds place.cell.held) (admitted_map (λ _. find) new))
      both = ap (λ (h : Option (Admitted F)). own h) (seen_after place.cell.held low)

      same : place_of (finds ++ find ∷ []) place ≡ place_of finds place
      same = ap (λ (h : Option (Admitted F)). record { left = place.left; cell = record { held = h } }) (seen_old place.cell.held low)

      split : (l o : Bool) → place_of (finds ++ find ∷ []) (cond l (cond o place (own (Some new))) (own (after_admission place.cell.held new)))
          ≡ cond l (cond o (place_of finds place) (own (Some (admitted_map (λ _. find) new)))) (own (after_admission (held_of finds place.cell.held) (admitted_map (λ _. find) new)))
      split true true = same
      split true false = ap (λ (h : Option (Admitted F)). own h) seen_new
      split false o = both

  -- users see an admission by slot as one of the find
  pub seen_each : (outranked : Bool) (versions : List (Version ℕ)) → AllByRecursion (IsWithin (length finds)) versions
      → map (version_of (finds ++ find ∷ [])) (map (version_after new outranked) versions) ≡ map (version_after (admitted_map (λ _. find) new) outranked) (map (version_of finds) versions)
  seen_each outranked [] within = refl
  seen_each outranked (x ∷ versions) within =
      ap (λ (p : Place F). record { from = x.from; place = p } ∷ map (version_of (finds ++ find ∷ [])) (map (version_after new outranked) versions)) (seen_place_after outranked x.place within.0)
      ∙ ap (λ (l : List (Version F)). record { from = x.from; place = after_find (admitted_map (λ _. find) new) outranked (place_of finds x.place) } ∷ l) (seen_each outranked versions within.1)

wider : (slots : ℕ) (held : Option (Admitted ℕ)) → IsHeldWithin slots held → IsHeldWithin (slots + 1) held
wider slots None low = tt
wider slots (Some held) low = omega arith

within_after : (slots : ℕ) (new : Admitted ℕ) → new.body ≡ slots → (held : Option (Admitted ℕ)) → IsHeldWithin slots held → IsHeldWithin (slots + 1) (after_admission held new)
within_after slots new at None low = omega arith
within_after slots new at (Some held) low = split (turns_away (Some held) new)
  where
    split : (b : Bool) → IsHeldWithin (slots + 1) (cond b (Some held) (Some new))
    split true = omega arith
    split false = omega arith

within_place_after : (slots : ℕ) (new : Admitted ℕ) → new.body ≡ slots → (outranked : Bool) (place : Place ℕ) → IsHeldWithin slots place.cell.held → IsHeldWithin (slots + 1) (after_find new outranked place).cell.held
within_place_after slots new at outranked place low = split place.left outranked
  where
    split : (l o : Bool) → IsHeldWithin (slots + 1) (cond l (cond o place (own (Some new))) (own (after_admission place.cell.held new))).cell.held
    split true true = wider slots place.cell.held low
    split true false = omega arith
    split false o = within_after slots new at place.cell.held low

pub within_each_after : (slots : ℕ) (new : Admitted ℕ) → new.body ≡ slots → (outranked : Bool) (versions : List (Version ℕ)) → AllByRecursion (IsWithin slots) versions
    → AllByRecursion (IsWithin (slots + 1)) (map (version_after new outranked) versions)
within_each_after slots new at outranked [] within = tt
within_each_after slots new at outranked (x ∷ versions) within = (within_place_after slots new at outranked x.place within.0, within_each_after slots new at outranked versions within.1)

-- ---- answers

pub shown_seen : {F : Type 0} (finds : List F) (moment : ℕ) (held : Option (Admitted ℕ)) → IsHeldWithin (length finds) held → (shown : Shown ℕ) → shown_at held moment ≡ Some shown
    → (find : F) → find ≡ get_or finds shown.body find → (shown.body < length finds) × (shown_at (held_of finds held) moment ≡ Some (record { rank = shown.rank; left = shown.left; body = find }))
shown_seen finds moment None low shown is find read = absurd cc
shown_seen {F} finds moment (Some held) low shown is find read = split (is_alive held moment) refl
  where
    split : (b : Bool) → is_alive held moment ≡ b → (shown.body < length finds) × (shown_at (held_of finds (Some held)) moment ≡ Some (record { rank = shown.rank; left = shown.left; body = find }))
    split true alive =
        let now : Some (record { rank = held.rank; left = held.ttl - (moment - held.since); body = held.body }) ≡ Some shown = sym (ap (λ b. cond b (Some (record { rank = held.rank; left = held.ttl - (moment - held.since); body = held.body })) None) alive) ∙ is in
        let same : record { rank = held.rank; left = held.ttl - (moment - held.since); body = held.body } ≡ shown = cc in
        subst (λ (s : Shown ℕ). find ≡ get_or finds s.body find → (s.body < length finds) × (shown_at (held_of finds (Some held)) moment ≡ Some (record { rank = s.rank; left = s.left; body = find }))) same
        (λ found.
        let there : slice_get finds held.body ≡ Some find = slice_get-get_or finds held.body find low ∙ ap Some (sym found) in
        (low, ap (λ (o : Option F). shown_at (option_map (λ (f : F). admitted_map (λ _. f) held) o) moment) there ∙ ap (λ b. cond b (Some (record { rank = held.rank; left = held.ttl - (moment - held.since); body = find })) None) alive))
        read
    split false dead =
        let none : None ≡ Some shown = sym (ap (λ b. cond b (Some (record { rank = held.rank; left = held.ttl - (moment - held.since); body = held.body })) None) dead) ∙ is in
        absurd cc

-- a cell that has no answer by slot has none by find
pub dark_seen : {F : Type 0} (finds : List F) (moment : ℕ) (held : Option (Admitted ℕ)) → shown_at held moment ≡ None → shown_at (held_of finds held) moment ≡ None
dark_seen finds moment None is = refl
dark_seen {F} finds moment (Some held) is = split (is_alive held moment) refl (slice_get finds held.body)
  where
    split : (b : Bool) → is_alive held moment ≡ b → (o : Option F) → shown_at (option_map (λ (f : F). admitted_map (λ _. f) held) o) moment ≡ None
    split b alive None = refl
    split true alive (Some f) =
        absurd (some_is_none (record { rank = held.rank; left = held.ttl - (moment - held.since); body = held.body }) (sym (ap (λ b. cond b (Some (record { rank = held.rank; left = held.ttl - (moment - held.since); body = held.body })) None) alive) ∙ is))
    split false dead (Some f) = ap (λ b. cond b (Some (record { rank = held.rank; left = held.ttl - (moment - held.since); body = f })) None) dead

-- ---- by the fields

pub seen_here : (cells : Cells) (versions : ArrayVec (Version ℕ)) (finds : List Find) (upto v : ℕ) (slice : List (Version ℕ)) (place : Place ℕ)
    → cells_of versions finds upto ≡ cells → v ≤ upto → slice ≡ versions.items → place ≡ place_at slice v → place_in cells v ≡ place_of finds place
seen_here cells versions finds upto v slice place view low same is =
    ap (λ (c : Cells). place_in c v) (sym view)
    ∙ (ap (λ b. cond b nothing (place_at (map (version_of finds) versions.items) v)) (not_past v upto low)
    ∙ (seen_place finds v versions.items ∙ ap (place_of finds) (sym (is ∙ ap (λ (l : List (Version ℕ)). place_at l v) same))))

pub within_here : (versions : List (Version ℕ)) (slots v : ℕ) (slice : List (Version ℕ)) (place : Place ℕ)
    → AllByRecursion (IsWithin slots) versions → slice ≡ versions → place ≡ place_at slice v → IsHeldWithin slots place.cell.held
within_here versions slots v slice place within same is =
    subst (λ (p : Place ℕ). IsHeldWithin slots p.cell.held) (sym (is ∙ ap (λ (l : List (Version ℕ)). place_at l v) same)) (within_place slots v versions within)

pub shown_within : (slots moment : ℕ) (held : Option (Admitted ℕ)) → IsHeldWithin slots held → (shown : Shown ℕ) → shown_at held moment ≡ Some shown → shown.body < slots
shown_within slots moment None low shown is = absurd cc
shown_within slots moment (Some held) low shown is = split (is_alive held moment) refl
  where
    split : (b : Bool) → is_alive held moment ≡ b → shown.body < slots
    split true alive =
        let now : Some (record { rank = held.rank; left = held.ttl - (moment - held.since); body = held.body }) ≡ Some shown = sym (ap (λ b. cond b (Some (record { rank = held.rank; left = held.ttl - (moment - held.since); body = held.body })) None) alive) ∙ is in
        let same : record { rank = held.rank; left = held.ttl - (moment - held.since); body = held.body } ≡ shown = cc in
        subst (λ (s : Shown ℕ). s.body < slots) same low
    split false dead =
        absurd (some_is_none shown (sym is ∙ ap (λ b. cond b (Some (record { rank = held.rank; left = held.ttl - (moment - held.since); body = held.body })) None) dead))

pub lent_is : (finds pushed : List Find) (find lent : Find) (slot : ℕ) → slot ≡ length finds → pushed ≡ finds ++ find ∷ [] → lent ≡ get_or pushed slot lent → lent ≡ find
lent_is finds pushed find lent slot at push read = read ∙ (ap (λ (l : List Find). get_or l slot lent) push ∙ (ap (λ k. get_or (finds ++ find ∷ []) k lent) at ∙ get_or-append_seam finds find [] lent))

-- the versions as users see them, after an admission by slot
pub admit_seen : (finds pushed rest : List Find) (olds afters news : List (Version ℕ)) (find lent : Find) (slot moment : ℕ) (outranked : Bool)
    → AllByRecursion (IsWithin (length finds)) olds → slot ≡ length finds → pushed ≡ finds ++ find ∷ [] → lent ≡ get_or pushed slot lent
    → afters ≡ map (version_after (admission_of lent slot moment) outranked) olds → map (version_of rest) news ≡ map (version_of pushed) afters
    → map (version_of rest) news ≡ map (version_after (admission_of find find moment) outranked) (map (version_of finds) olds)
admit_seen finds pushed rest olds afters news find lent slot moment outranked within at push read each same =
    let is : lent ≡ find = lent_is finds pushed find lent slot at push read in
    let after : afters ≡ map (version_after (admission_of find slot moment) outranked) olds = each ∙ ap (λ (f : Find). map (version_after (admission_of f slot moment) outranked) olds) is in
    same ∙ (ap (λ (l : List Find). map (version_of l) afters) push ∙ (ap (map (version_of (finds ++ find ∷ []))) after ∙ seen_each finds find (admission_of find slot moment) at outranked olds within))

pub admit_within : (finds pushed : List Find) (olds afters : List (Version ℕ)) (find lent : Find) (slot moment : ℕ) (outranked : Bool)
    → AllByRecursion (IsWithin (length finds)) olds → slot ≡ length finds → pushed ≡ finds ++ find ∷ []
    → afters ≡ map (version_after (admission_of lent slot moment) outranked) olds → AllByRecursion (IsWithin (length pushed)) afters
admit_within finds pushed olds afters find lent slot moment outranked within at push each =
    let more : length finds + 1 ≡ length pushed = omega (arith, ap length push, length-append finds (find ∷ [])) in
    subst (λ (l : List (Version ℕ)). AllByRecursion (IsWithin (length pushed)) l) (sym each)
    (subst (λ n. AllByRecursion (IsWithin n) (map (version_after (admission_of lent slot moment) outranked) olds)) more (within_each_after (length finds) (admission_of lent slot moment) at outranked olds within))

yes_lt : (a b : ℕ) → a < b → nat_lt a b ≡ true
yes_lt a b low = grind (arith, nat_tests)

pub admit_places : (old new : Cells) (find : Find) (moment : ℕ) (outranked : Bool) → new.upto ≡ old.upto → IsFromStart old.versions
    → ((v : ℕ) → place_at new.versions v ≡ place_at (map (version_after (admission_of find find moment) outranked) old.versions) v)
    → (v : ℕ) → v ≤ old.upto → place_in new v ≡ after_find (admission_of find find moment) outranked (place_in old v)
admit_places old new find moment outranked upto starts is v low =
    let low' : v ≤ new.upto = omega arith in
    ap (λ b. cond b nothing (place_at new.versions v)) (not_past v new.upto low')
    ∙ (is v
    ∙ (after_place (admission_of find find moment) outranked v old.versions starts
    ∙ sym (ap (λ b. after_find (admission_of find find moment) outranked (cond b nothing (place_at old.versions v))) (not_past v old.upto low))))

-- the versions as users see them, where neighbours are equal
pub same_seen : (finds rest : List Find) (afters merged news : List (Version ℕ)) → map (version_of rest) news ≡ map (version_of finds) merged → ((v : ℕ) → place_at merged v ≡ place_at afters v)
    → (v : ℕ) → place_at (map (version_of rest) news) v ≡ place_at (map (version_of finds) afters) v
same_seen finds rest afters merged news same places v =
    ap (λ (l : List (Version Find)). place_at l v) same ∙ (seen_place finds v merged ∙ (ap (place_of finds) (places v) ∙ sym (seen_place finds v afters)))

-- ---- references to the whole name

left_was : (new : Admitted Find) (outranked : Bool) (place : Place Find) → (after_find new outranked place).left ≡ true → place.left ≡ true
left_was new outranked place is = split place.left outranked refl is
  where
    split : (l o : Bool) → place.left ≡ l → (cond l (cond o place (own (Some new))) (own (after_admission place.cell.held new))).left ≡ true → place.left ≡ true
    split true o left_is h = left_is
    split false o left_is h = absurd cc

pub left_after : (old new : Cells) (adm : Admitted Find) (outranked : Bool) → new.upto ≡ old.upto → ((v : ℕ) → v ≤ old.upto → place_in new v ≡ after_find adm outranked (place_in old v))
    → (v : ℕ) → (place_in new v).left ≡ true → (place_in old v).left ≡ true
left_after old new adm outranked upto places v is = split (nat_lt old.upto v) refl
  where
    split : (b : Bool) → nat_lt old.upto v ≡ b → (place_in old v).left ≡ true
    split true past =
        let none : (place_in new v).left ≡ false = ap (λ b. (cond b nothing (place_at new.versions v)).left) (ap (λ n. nat_lt n v) upto ∙ past) in
        absurd cc
    split false here =
        let low : v ≤ old.upto = grind (arith, nat_tests) in
        left_was adm outranked (place_in old v) (ap (λ (p : Place Find). p.left) (sym (places v low)) ∙ is)

-- ---- an admission, after versions that no admission had reached

within_push : (slots : ℕ) (versions : List (Version ℕ)) (upto : ℕ) → AllByRecursion (IsWithin slots) versions → AllByRecursion (IsWithin slots) (versions ++ record { from = upto + 1; place = nothing } ∷ [])
within_push slots [] upto all = (tt, tt)
within_push slots (x ∷ versions) upto all = (all.0, within_push slots versions upto all.1)

pub reached_within : (slots upto top : ℕ) (versions : List (Version ℕ)) → AllByRecursion (IsWithin slots) versions → AllByRecursion (IsWithin slots) (reached upto top versions)
reached_within slots upto top versions all = split (nat_lt upto top)
  where
    split : (b : Bool) → AllByRecursion (IsWithin slots) (cond b (versions ++ record { from = upto + 1; place = nothing } ∷ []) versions)
    split true = within_push slots versions upto all
    split false = all

seen_push : {F : Type 0} (finds : List F) (versions : List (Version ℕ)) (upto : ℕ) → map (version_of finds) (versions ++ record { from = upto + 1; place = nothing } ∷ []) ≡ map (version_of finds) versions ++ record { from = upto + 1; place = nothing } ∷ []
seen_push finds [] upto = refl
seen_push finds (x ∷ versions) upto = ap (λ (l : List (Version _)). version_of finds x ∷ l) (seen_push finds versions upto)

pub reached_seen : {F : Type 0} (finds : List F) (upto top : ℕ) (versions : List (Version ℕ)) → map (version_of finds) (reached upto top versions) ≡ reached upto top (map (version_of finds) versions)
reached_seen {F} finds upto top versions = split (nat_lt upto top)
  where
    split : (b : Bool) → map (version_of finds) (cond b (versions ++ record { from = upto + 1; place = nothing } ∷ []) versions) ≡ cond b (map (version_of finds) versions ++ record { from = upto + 1; place = nothing } ∷ []) (map (version_of finds) versions)
    split true = seen_push finds versions upto
    split false = refl

pub reached_starts : {B : Type 0} (upto top : ℕ) (versions : List (Version B)) → IsFromStart versions → IsFromStart (reached upto top versions)
reached_starts upto top [] starts = absurd starts
reached_starts {B} upto top (x ∷ versions) starts = split (nat_lt upto top)
  where
    split : (b : Bool) → IsFromStart (cond b (x ∷ versions ++ record { from = upto + 1; place = nothing } ∷ []) (x ∷ versions))
    split true = starts
    split false = starts

reached_place : {B : Type 0} (upto top v : ℕ) (versions : List (Version B)) → upto ≤ top
    → cond (nat_lt top v) nothing (place_at (reached upto top versions) v) ≡ cond (nat_lt upto v) nothing (place_at versions v)
reached_place {B} upto top v versions low = split (nat_lt upto top) refl (nat_lt top v) refl (nat_lt upto v) refl (nat_le (upto + 1) v) refl
  where
    pushed : place_at (versions ++ record { from = upto + 1; place = nothing } ∷ []) v ≡ cond (nat_le (upto + 1) v) nothing (place_at versions v)
    pushed = fold-append (later_place v) nothing versions (record { from = upto + 1; place = nothing } ∷ [])

    split : (r : Bool) → nat_lt upto top ≡ r → (t : Bool) → nat_lt top v ≡ t → (u : Bool) → nat_lt upto v ≡ u → (n : Bool) → nat_le (upto + 1) v ≡ n
        → cond t nothing (place_at (cond r (versions ++ record { from = upto + 1; place = nothing } ∷ []) versions) v) ≡ cond u nothing (place_at versions v)
    split true more t past true late n next = split_late t
      where
        next_is : nat_le (upto + 1) v ≡ true
        next_is = grind (arith, nat_tests)

        split_late : (t : Bool) → cond t nothing (place_at (versions ++ record { from = upto + 1; place = nothing } ∷ []) v) ≡ nothing
        split_late true = refl
        split_late false = pushed ∙ ap (λ b. cond b nothing (place_at versions v)) next_is
    split true more true past false early n next = absurd (omega (arith, lt_of top v past, ge_of upto v early))
    split true more false past false early n next =
        let not_next : nat_le (upto + 1) v ≡ false = grind (arith, nat_tests) in
        pushed ∙ ap (λ b. cond b nothing (place_at versions v)) not_next
    split false same true past true late n next = refl
    split false same true past false early n next = absurd (omega (arith, lt_of top v past, ge_of upto v early))
    split false same false past true late n next = absurd (omega (arith, ge_of top v past, lt_of upto v late, ge_of upto top same))
    split false same false past false early n next = refl

module _ (old new : Cells) (top : ℕ) (versions : List (Version Find)) (find : Find) (moment : ℕ) (outranked : Bool) (at : new.upto ≡ top) (low : old.upto ≤ top) (is : versions ≡ reached old.upto top old.versions) (starts : IsFromStart old.versions)
    (places : (v : ℕ) → place_at new.versions v ≡ place_at (map (version_after (admission_of find find moment) outranked) versions) v) where
  same_between : (v : ℕ) → place_in (record { versions = reached old.upto top old.versions; upto = top }) v ≡ place_in old v
  same_between v = reached_place old.upto top v old.versions low

  after_between : (v : ℕ) → v ≤ top → place_in new v ≡ after_find (admission_of find find moment) outranked (place_in (record { versions = reached old.upto top old.versions; upto = top }) v)
  after_between =
      admit_places (record { versions = reached old.upto top old.versions; upto = top }) new find moment outranked at (reached_starts old.upto top old.versions starts)
      (λ v. places v ∙ ap (λ (l : List (Version Find)). place_at (map (version_after (admission_of find find moment) outranked) l) v) is)

  pub hold_places : (v : ℕ) → v ≤ top → place_in new v ≡ after_find (admission_of find find moment) outranked (place_in old v)
  hold_places v few = after_between v few ∙ ap (after_find (admission_of find find moment) outranked) (same_between v)

  pub hold_left : (v : ℕ) → (place_in new v).left ≡ true → (place_in old v).left ≡ true
  hold_left v was =
      ap (λ (p : Place Find). p.left) (sym (same_between v))
      ∙ left_after (record { versions = reached old.upto top old.versions; upto = top }) new (admission_of find find moment) outranked at after_between v was
