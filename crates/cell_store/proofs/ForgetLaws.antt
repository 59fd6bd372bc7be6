-- A column, once a flush is permanent.
use Rattle.std.proofs.Common.{◌≡◌, ℕ, zero, suc, ◌<◌, ◌≤◌, max, Bool, true, false, cond, List, [], ◌∷◌, length, get_or, map, drop, refl, sym, ap, ◌∙◌, subst, arith}
use Rattle.std.specs.Prelude.{◌==◌, fold, nat_le, nat_lt}
use Rattle.std.specs.List.{AllByRecursion}
use Rattle.std.proofs.lemmas.Bool.{false≢true}
use Rattle.std.proofs.lemmas.Bool.Decides.{nat_tests}
use Rattle.ranked.specs.declared.find.Find.{Find}
use Rattle.cell_store.specs.declared.version.Place.{Place}
use Rattle.cell_store.specs.declared.version.Version.{Version}
use Rattle.cell_store.specs.Version.{nothing, later_place, place_at, lowered, IsFromStart}
use Rattle.cell_store.specs.Slots.{version_of, place_of, IsWithin}
use Rattle.cell_store.specs.Column.{Cells, place_in}
use Rattle.cell_store.proofs.ColumnLaws.{seen_place}
use Rattle.cell_store.specs.TestLaws.{zero_le, yes_le, no_le, le_of, gt_of}

same_test : (from number v : ℕ) → nat_le (cond (nat_le from number) 0 from) v ≡ nat_le from (max number v)
same_test from number v = split (nat_le from number) refl
  where
    split : (b : Bool) → nat_le from number ≡ b → nat_le (cond b 0 from) v ≡ nat_le from (max number v)
    split true is = zero_le v ∙ sym (yes_le from (max number v) (omega (arith, le_of from number is)))
    split false is = other (nat_le from v) refl
      where
        other : (b : Bool) → nat_le from v ≡ b → nat_le from v ≡ nat_le from (max number v)
        other true low = low ∙ sym (yes_le from (max number v) (omega (arith, le_of from v low)))
        other false late = late ∙ sym (no_le from (max number v) (omega (arith, gt_of from v late, gt_of from number is)))

lower_fold : {B : Type 0} (number v : ℕ) (versions : List (Version B)) (place : Place B) → fold (later_place v) place (map (lowered number) versions) ≡ fold (later_place (max number v)) place versions
lower_fold number v [] place = refl
lower_fold number v (x ∷ versions) place =
    ap (λ b. fold (later_place v) (cond b x.place place) (map (lowered number) versions)) (same_test x.from number v) ∙ lower_fold number v versions (later_place (max number v) place x)

pub lower_place : {B : Type 0} (number v : ℕ) (versions : List (Version B)) → place_at (map (lowered number) versions) v ≡ place_at versions (max number v)
lower_place number v versions = lower_fold number v versions nothing

drop_fold : {B : Type 0} (v : ℕ) (versions : List (Version B)) (i : ℕ) (here other : Place B) → i < length versions → ((d : Version B) → (get_or versions i d).from ≡ 0)
    → fold (later_place v) here (drop i versions) ≡ fold (later_place v) other versions
drop_fold v [] i here other low start = absurd (omega arith)
drop_fold v (x ∷ versions) zero here other low start =
    let always : nat_le x.from v ≡ true = ap (λ n. nat_le n v) (start x) ∙ zero_le v in
    ap (λ b. fold (later_place v) (cond b x.place here) versions) always ∙ sym (ap (λ b. fold (later_place v) (cond b x.place other) versions) always)
drop_fold v (x ∷ versions) (suc i) here other low start = drop_fold v versions i here (later_place v other x) (omega arith) (λ d. start d)

pub drop_place : {B : Type 0} (v : ℕ) (versions : List (Version B)) (i : ℕ) → i < length versions → ((d : Version B) → (get_or versions i d).from ≡ 0) → place_at (drop i versions) v ≡ place_at versions v
drop_place v versions i low start = drop_fold v versions i nothing nothing low start

pub drop_starts : {B : Type 0} (versions : List (Version B)) (i : ℕ) → i < length versions → ((d : Version B) → (get_or versions i d).from ≡ 0) → IsFromStart (drop i versions)
drop_starts [] i low start = absurd (omega arith)
drop_starts (x ∷ versions) zero low start = start x
drop_starts (x ∷ versions) (suc i) low start = drop_starts versions i (omega arith) (λ d. start d)

pub drop_within : (P : Version ℕ → Type 0) (versions : List (Version ℕ)) (i : ℕ) → AllByRecursion P versions → AllByRecursion P (drop i versions)
drop_within P [] zero all = tt
drop_within P [] (suc i) all = tt
drop_within P (x ∷ versions) zero all = all
drop_within P (x ∷ versions) (suc i) all = drop_within P versions i all.1

pub lower_within : (slots number : ℕ) (versions : List (Version ℕ)) → AllByRecursion (IsWithin slots) versions → AllByRecursion (IsWithin slots) (map (lowered number) versions)
lower_within slots number [] all = tt
lower_within slots number (x ∷ versions) all = (all.0, lower_within slots number versions all.1)

pub lower_starts : {B : Type 0} (number : ℕ) (versions : List (Version B)) → IsFromStart versions → IsFromStart (map (lowered number) versions)
lower_starts number [] starts = starts
lower_starts number (x ∷ versions) starts = ap (λ n. cond (nat_le n number) 0 n) starts ∙ ap (λ b. cond b 0 0) (zero_le number)

-- by the fields
pub forgotten : (old : Cells) (versions forgot news : List (Version ℕ)) (finds rest : List Find) (number : ℕ) (new : Cells)
    → old.versions ≡ map (version_of finds) versions → new.versions ≡ map (version_of rest) news → new.upto ≡ old.upto → number ≤ old.upto
    → ((v : ℕ) → place_at forgot v ≡ place_at versions (max number v)) → map (version_of rest) news ≡ map (version_of finds) forgot
    → (v : ℕ) → place_in new v ≡ place_in old (max number v)
forgotten old versions forgot news finds rest number new old_is new_is upto low places same v =
    ap (λ (l : List (Version Find)). cond (nat_lt new.upto v) nothing (place_at l v)) (new_is ∙ same)
    ∙ (ap (λ (p : Place Find). cond (nat_lt new.upto v) nothing p) (seen_place finds v forgot ∙ (ap (place_of finds) (places v) ∙ sym (seen_place finds (max number v) versions)))
    ∙ (ap (λ b. cond b nothing (place_at (map (version_of finds) versions) (max number v))) (late upto)
    ∙ sym (ap (λ (l : List (Version Find)). cond (nat_lt old.upto (max number v)) nothing (place_at l (max number v))) old_is)))
  where
    late : new.upto ≡ old.upto → nat_lt new.upto v ≡ nat_lt old.upto (max number v)
    late e = ap (λ n. nat_lt n v) e ∙ split (nat_lt old.upto v) refl
      where
        split : (b : Bool) → nat_lt old.upto v ≡ b → nat_lt old.upto v ≡ nat_lt old.upto (max number v)
        split true is = grind (arith, nat_tests)
        split false is = grind (arith, nat_tests)

pub forgot_place : (number : ℕ) (versions lower slice news : List (Version ℕ)) (i : ℕ) → lower ≡ map (lowered number) versions → slice ≡ lower → i < length slice → ((d : Version ℕ) → (get_or slice i d).from ≡ 0) → news ≡ drop i lower
    → (v : ℕ) → place_at news v ≡ place_at versions (max number v)
forgot_place number versions lower slice news i each same low start is v =
    let low' : i < length lower = subst (λ (l : List (Version ℕ)). i < length l) same low in
    let start' : (d : Version ℕ) → (get_or lower i d).from ≡ 0 = subst (λ (l : List (Version ℕ)). (d : Version ℕ) → (get_or l i d).from ≡ 0) same start in
    ap (λ (l : List (Version ℕ)). place_at l v) is
    ∙ (drop_place v lower i low' start' ∙ (ap (λ (l : List (Version ℕ)). place_at l v) each ∙ lower_place number v versions))

pub forgot_starts : (lower slice news : List (Version ℕ)) (i : ℕ) → slice ≡ lower → i < length slice → ((d : Version ℕ) → (get_or slice i d).from ≡ 0) → news ≡ drop i lower → IsFromStart news
forgot_starts lower slice news i same low start is =
    let low' : i < length lower = subst (λ (l : List (Version ℕ)). i < length l) same low in
    let start' : (d : Version ℕ) → (get_or lower i d).from ≡ 0 = subst (λ (l : List (Version ℕ)). (d : Version ℕ) → (get_or l i d).from ≡ 0) same start in
    subst (λ (l : List (Version ℕ)). IsFromStart l) (sym is) (drop_starts lower i low' start')

-- ---- the entries after the first start after the flush

lowered_length : (number : ℕ) (versions : List (Version ℕ)) → length (map (lowered number) versions) ≡ length versions
lowered_length number [] = refl
lowered_length number (x ∷ versions) = ap suc (lowered_length number versions)

all_late : (number : ℕ) (versions : List (Version ℕ)) → ((i : ℕ) (d : Version ℕ) → i < length versions → ((get_or (map (lowered number) versions) i d).from == 0) ≡ false)
    → AllByRecursion (λ (x : Version ℕ). number < x.from) (map (lowered number) versions)
all_late number [] late = tt
all_late number (x ∷ versions) late = (head (late 0 x (omega arith)), all_late number versions (λ i d low. late (suc i) d (omega arith)))
  where
    head : (cond (nat_le x.from number) 0 x.from == 0) ≡ false → number < cond (nat_le x.from number) 0 x.from
    head is = split (nat_le x.from number) refl is
      where
        split : (b : Bool) → nat_le x.from number ≡ b → (cond b 0 x.from == 0) ≡ false → number < cond b 0 x.from
        split true low is = absurd (false≢true (sym is))
        split false high is = gt_of x.from number high

late_after : (number : ℕ) (versions : List (Version ℕ)) (k : ℕ) → ((i : ℕ) (d : Version ℕ) → k < i → i < length versions → ((get_or (map (lowered number) versions) i d).from == 0) ≡ false)
    → AllByRecursion (λ (x : Version ℕ). number < x.from) (drop 1 (drop k (map (lowered number) versions)))
late_after number [] zero late = tt
late_after number [] (suc k) late = tt
late_after number (x ∷ versions) zero late = all_late number versions (λ i d low. late (suc i) d (omega arith) (omega arith))
late_after number (x ∷ versions) (suc k) late = late_after number versions k (λ i d more low. late (suc i) d (omega arith) (omega arith))

pub forgot_later : (number : ℕ) (versions lower slice news : List (Version ℕ)) (k : ℕ) → lower ≡ map (lowered number) versions → slice ≡ lower
    → ((i : ℕ) (d : Version ℕ) → k < i → i < length slice → ((get_or slice i d).from == 0) ≡ false) → news ≡ drop k lower
    → AllByRecursion (λ (x : Version ℕ). number < x.from) (drop 1 news)
forgot_later number versions lower slice news k each same late is =
    let all : slice ≡ map (lowered number) versions = same ∙ each in
    let late' : (i : ℕ) (d : Version ℕ) → k < i → i < length (map (lowered number) versions) → ((get_or (map (lowered number) versions) i d).from == 0) ≡ false =
    subst (λ (l : List (Version ℕ)). (i : ℕ) (d : Version ℕ) → k < i → i < length l → ((get_or l i d).from == 0) ≡ false) all late in
    subst (λ (l : List (Version ℕ)). AllByRecursion (λ (x : Version ℕ). number < x.from) (drop 1 l)) (sym (is ∙ ap (drop k) each))
    (late_after number versions k (λ i d more low. late' i d more (subst (λ n. i < n) (sym (lowered_length number versions)) low)))

-- users see the first entry start at version 0 too
pub seen_starts : (finds : List Find) (versions : List (Version ℕ)) → IsFromStart versions → IsFromStart (map (version_of finds) versions)
seen_starts finds [] starts = starts
seen_starts finds (x ∷ versions) starts = starts

pub starts_seen : (finds : List Find) (versions : List (Version ℕ)) → IsFromStart (map (version_of finds) versions) → IsFromStart versions
starts_seen finds [] starts = starts
starts_seen finds (x ∷ versions) starts = starts
