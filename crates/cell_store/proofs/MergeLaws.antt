-- A column whose equal neighbours are kept once.
use Rattle.std.proofs.Common.{◌≡◌, ℕ, zero, suc, ◌+◌, ◌<◌, ◌≤◌, Bool, true, false, cond, Option, Some, None, List, [], ◌∷◌, length, get_or, slice_set, refl, sym, ap, ◌∙◌, subst, arith, inl, inr}
use Rattle.std.specs.Prelude.{fold, nat_le, nat_lt, ◌&&◌, ◌||◌}
use Rattle.std.proofs.Math.Bool.{beq}
use Rattle.std.specs.List.{AllByRecursion, remove, list_any}
use Rattle.std.specs.Cmp.{booleans_Decides}
use Rattle.std.proofs.lemmas.Bool.{eqb-true, and_parts, false≢true, cases_eq}
use Rattle.std.proofs.lemmas.List.{get_or_default}
use Rattle.std.proofs.lemmas.List.Edits.{get_or-remove_below}
use Rattle.ranked.specs.declared.cell.Admitted.{Admitted}
use Rattle.ranked.specs.EqualLaws.{level_exact}
use Rattle.cell_store.specs.declared.version.Place.{Place}
use Rattle.cell_store.specs.declared.version.Version.{Version}
use Rattle.cell_store.specs.Version.{nothing, later_place, place_at, IsFromStart}
use Rattle.cell_store.specs.Slots.{IsWithin}
use Rattle.cell_store.specs.Column.{has_find, DropsEntries}
use Rattle.cell_store.specs.Few.{AreRanked}
use Rattle.cell_store.specs.Merge.{same_held, holds_same, started, AreApart}
use Rattle.cell_store.specs.TestLaws.{le_of, gt_of, lt_of, ge_of, yes_le, no_le, or_right}

pub held_exact : (a b : Option (Admitted ℕ)) → same_held a b ≡ true → a ≡ b
held_exact None None is = refl
held_exact None (Some b) is = absurd (false≢true is)
held_exact (Some a) None is = absurd (false≢true is)
held_exact (Some a) (Some b) is =
    let p = and_parts _ _ is in
    let q = and_parts _ _ p.1 in
    let r = and_parts _ _ q.1 in
    let rank : a.rank ≡ b.rank = level_exact a.rank b.rank (eqb-true _ _ p.0) in
    let ttl : a.ttl ≡ b.ttl = eqb-true _ _ q.0 in
    let since : a.since ≡ b.since = eqb-true _ _ r.0 in
    let body : a.body ≡ b.body = eqb-true _ _ r.1 in
    λ i. Some (record { rank = rank i; ttl = ttl i; since = since i; body = body i })

left_exact : (a b : Bool) → beq a b ≡ true → a ≡ b
left_exact a b is = (booleans_Decides a b).0 is

pub place_exact : (a b : Version ℕ) → holds_same a b ≡ true → a.place ≡ b.place
place_exact a b is =
    let p = and_parts _ _ is in
    let left = left_exact _ _ p.0 in
    let held = held_exact _ _ p.1 in
    λ i. record { left = left i; cell = record { held = held i } }

-- ---- one entry takes over from the next

abbrev pub joined : ℕ → List (Version ℕ) → List (Version ℕ)
joined zero [] = []
joined (suc i) [] = []
joined zero (a ∷ []) = a ∷ []
joined zero (a ∷ b ∷ versions) = started b.from a ∷ versions
joined (suc i) (a ∷ versions) = a ∷ joined i versions

joined_is : (versions : List (Version ℕ)) (i : ℕ) (d : Version ℕ) → i + 1 < length versions
    → slice_set (remove versions (suc i)) i (started (get_or versions (suc i) d).from (get_or (remove versions (suc i)) i d)) ≡ joined i versions
joined_is [] i d low = absurd (omega arith)
joined_is (a ∷ []) i d low = absurd (omega arith)
joined_is (a ∷ b ∷ versions) zero d low = refl
joined_is (a ∷ b ∷ versions) (suc i) d low = ap (λ (l : List (Version ℕ)). a ∷ l) (joined_is (b ∷ versions) i d (omega arith))

later_joined : (v : ℕ) (before : Place ℕ) (a b : Version ℕ) → a.place ≡ b.place → later_place v before (started b.from a) ≡ later_place v (later_place v before a) b
later_joined v before a b same = split (nat_lt b.from a.from) refl (nat_le b.from v) refl
  where
    split : (l : Bool) → nat_lt b.from a.from ≡ l → (t : Bool) → nat_le b.from v ≡ t → cond (nat_le (cond l b.from a.from) v) a.place before ≡ cond t b.place (cond (nat_le a.from v) a.place before)
    split true less true low = ap (λ t. cond t a.place before) low ∙ same
    split true less false late =
        ap (λ t. cond t a.place before) late ∙ sym (ap (λ t. cond t a.place before) (no_le a.from v (omega (arith, lt_of b.from a.from less, gt_of b.from v late))))
    split false more true low = ap (λ t. cond t a.place before) (yes_le a.from v (omega (arith, ge_of b.from a.from more, le_of b.from v low))) ∙ same
    split false more false late = refl

joined_fold : (v : ℕ) (versions : List (Version ℕ)) (i : ℕ) (before : Place ℕ) → i + 1 < length versions → ((d : Version ℕ) → (get_or versions i d).place ≡ (get_or versions (suc i) d).place)
    → fold (later_place v) before (joined i versions) ≡ fold (later_place v) before versions
joined_fold v [] i before low same = absurd (omega arith)
joined_fold v (a ∷ []) i before low same = absurd (omega arith)
joined_fold v (a ∷ b ∷ versions) zero before low same = ap (λ (p : Place ℕ). fold (later_place v) p versions) (later_joined v before a b (same a))
joined_fold v (a ∷ b ∷ versions) (suc i) before low same = joined_fold v (b ∷ versions) i (later_place v before a) (omega arith) (λ d. same d)

joined_within : (slots : ℕ) (versions : List (Version ℕ)) (i : ℕ) → AllByRecursion (IsWithin slots) versions → AllByRecursion (IsWithin slots) (joined i versions)
joined_within slots [] zero all = tt
joined_within slots [] (suc i) all = tt
joined_within slots (a ∷ []) zero all = all
joined_within slots (a ∷ b ∷ versions) zero all = (all.0, all.1.1)
joined_within slots (a ∷ versions) (suc i) all = (all.0, joined_within slots versions i all.1)

joined_starts : (versions : List (Version ℕ)) (i : ℕ) → IsFromStart versions → IsFromStart (joined i versions)
joined_starts [] i starts = absurd starts
joined_starts (a ∷ []) zero starts = starts
joined_starts (a ∷ b ∷ versions) zero starts = split (nat_lt b.from a.from) refl
  where
    split : (l : Bool) → nat_lt b.from a.from ≡ l → cond l b.from a.from ≡ 0
    split true less = absurd (omega (arith, lt_of b.from a.from less, starts))
    split false more = starts
joined_starts (a ∷ versions) (suc i) starts = starts

joined_length : (versions : List (Version ℕ)) (i : ℕ) → i + 1 < length versions → length (joined i versions) + 1 ≡ length versions
joined_length [] i low = absurd (omega arith)
joined_length (a ∷ []) i low = absurd (omega arith)
joined_length (a ∷ b ∷ versions) zero low = omega arith
joined_length (a ∷ b ∷ versions) (suc i) low = omega (arith, joined_length (b ∷ versions) i (omega arith))

or_later : (a b c : Bool) → (b ≡ true → c ≡ true) → (a || b) ≡ true → (a || c) ≡ true
or_later true b c step is = refl
or_later false b c step is = step is

joined_finds : (versions : List (Version ℕ)) (i : ℕ) → list_any has_find (joined i versions) ≡ true → list_any has_find versions ≡ true
joined_finds [] zero is = is
joined_finds [] (suc i) is = is
joined_finds (a ∷ []) zero is = is
joined_finds (a ∷ b ∷ versions) zero is = or_later (has_find a) (list_any has_find versions) (has_find b || list_any has_find versions) (or_right (has_find b) (list_any has_find versions)) is
joined_finds (a ∷ versions) (suc i) is = or_later (has_find a) (list_any has_find (joined i versions)) (list_any has_find versions) (joined_finds versions i) is

joined_read : (versions : List (Version ℕ)) (i k : ℕ) (d : Version ℕ) → (get_or (joined i versions) k d).place ≡ (get_or (remove versions (suc i)) k d).place
joined_read [] zero k d = refl
joined_read [] (suc i) k d = refl
joined_read (a ∷ []) zero k d = refl
joined_read (a ∷ b ∷ versions) zero zero d = refl
joined_read (a ∷ b ∷ versions) zero (suc k) d = refl
joined_read (a ∷ versions) (suc i) zero d = refl
joined_read (a ∷ versions) (suc i) (suc k) d = joined_read versions i k d

abbrev same_places : Place ℕ → Place ℕ → Bool
same_places p q = beq p.left q.left && same_held p.cell.held q.cell.held

pub record IsMerged (old new : List (Version ℕ)) (place : ℕ) : Type 0 where
  pub some : 1 ≤ place
  pub places : (v : ℕ) → place_at new v ≡ place_at old v
  pub drops : DropsEntries old new
  pub starts : IsFromStart old → IsFromStart new
  pub apart : AreApart new place

read_any : (xs : List (Version ℕ)) (i : ℕ) (x d : Version ℕ) → i < length xs → x ≡ get_or xs i x → get_or xs i d ≡ x
read_any xs i x d low is = get_or_default xs i d x low ∙ sym is

module _ (old versions : List (Version ℕ)) (place i : ℕ) (a b : Version ℕ) (merged : IsMerged old versions place) (at : i + 1 ≡ place) (low : place < length versions)
    (first : a ≡ get_or versions i a) (second : b ≡ get_or versions place b) where
  here : (d : Version ℕ) → holds_same (get_or versions i d) (get_or versions place d) ≡ holds_same a b
  here d = ap (λ x. holds_same x (get_or versions place d)) (read_any versions i a d (omega arith) first) ∙ ap (holds_same a) (read_any versions place b d low second)

  same_here : holds_same a b ≡ true → (d : Version ℕ) → (get_or versions i d).place ≡ (get_or versions (suc i) d).place
  same_here same d =
      let next : suc i ≡ place = omega (arith, at) in
      place_exact (get_or versions i d) (get_or versions (suc i) d) (ap (λ n. holds_same (get_or versions i d) (get_or versions n d)) next ∙ (here d ∙ same))

  put_is : (removed : List (Version ℕ)) (later lent : Version ℕ) → removed ≡ remove versions place → later ≡ get_or versions place later → lent ≡ get_or removed i lent
      → slice_set removed i (started later.from lent) ≡ joined i versions
  put_is removed later lent gone read there =
      let next : suc i ≡ place = omega (arith, at) in
      let gone' : removed ≡ remove versions (suc i) = gone ∙ ap (remove versions) (sym next) in
      let later' : later ≡ get_or versions (suc i) lent = read ∙ (get_or_default versions place later lent low ∙ ap (λ n. get_or versions n lent) (sym next)) in
      let lent' : lent ≡ get_or (remove versions (suc i)) i lent = there ∙ ap (λ (l : List (Version ℕ)). get_or l i lent) gone' in
      ap (λ (l : List (Version ℕ)). slice_set l i (started later.from lent)) gone'
      ∙ (ap (λ (x : Version ℕ). slice_set (remove versions (suc i)) i (started x.from lent)) later'
      ∙ (ap (λ (x : Version ℕ). slice_set (remove versions (suc i)) i (started (get_or versions (suc i) lent).from x)) lent'
      ∙ joined_is versions i lent (omega arith)))

  pub merged_less : ((d : Version ℕ) → (get_or versions i d).place ≡ (get_or versions (suc i) d).place → AreRanked versions → AreRanked (joined i versions))
      → (new : List (Version ℕ)) (removed : List (Version ℕ)) (later lent : Version ℕ) → holds_same a b ≡ true → removed ≡ remove versions place → later ≡ get_or versions place later → lent ≡ get_or removed i lent
      → new ≡ slice_set removed i (started later.from lent) → IsMerged old new place
  merged_less ranks new removed later lent same gone read there items =
      let is : new ≡ joined i versions = items ∙ put_is removed later lent gone read there in
      let low' : i + 1 < length versions = omega arith in
      let next : suc i ≡ place = omega (arith, at) in
      record {
        some = merged.some;
        places = λ v. ap (λ (l : List (Version ℕ)). place_at l v) is ∙ (joined_fold v versions i nothing low' (same_here same) ∙ merged.places v);
        drops = record {
          within = λ slots all. subst (λ (l : List (Version ℕ)). AllByRecursion (IsWithin slots) l) (sym is) (joined_within slots versions i (merged.drops.within slots all));
          fewer = omega (arith, merged.drops.fewer, ap length is, joined_length versions i low');
          finds = λ some. merged.drops.finds (joined_finds versions i (ap (list_any has_find) (sym is) ∙ some));
          ranked = λ was. subst (λ (l : List (Version ℕ)). AreRanked l) (sym is) (ranks a (same_here same a) (merged.drops.ranked was));
        };
        starts = λ start. subst (λ (l : List (Version ℕ)). IsFromStart l) (sym is) (joined_starts versions i (merged.starts start));
        apart = λ k d few.
            let one : k < place = omega arith in
            ap (λ (l : List (Version ℕ)). holds_same (get_or l k d) (get_or l (k + 1) d)) is
            ∙ (ap (λ (p : Place ℕ). same_places p (get_or (joined i versions) (k + 1) d).place) (joined_read versions i k d)
            ∙ (ap (λ (p : Place ℕ). same_places (get_or (remove versions (suc i)) k d).place p) (joined_read versions i (k + 1) d)
            ∙ (ap (λ n. holds_same (get_or (remove versions n) k d) (get_or (remove versions n) (k + 1) d)) next
            ∙ (ap (λ x. holds_same x (get_or (remove versions place) (k + 1) d)) (get_or-remove_below versions place d k one low)
            ∙ (ap (holds_same (get_or versions k d)) (get_or-remove_below versions place d (k + 1) few low) ∙ merged.apart k d few)))));
      }

  pub merged_more : holds_same a b ≡ false → IsMerged old versions (place + 1)
  merged_more other = record {
    some = omega arith;
    places = merged.places;
    drops = merged.drops;
    starts = merged.starts;
    apart = λ k d few. elim (cases_eq k i) [
      | inl same ↦
          let e : k + 1 ≡ place = omega (arith, same, at) in
          ap (λ n. holds_same (get_or versions k d) (get_or versions n d)) e ∙ (ap (λ n. holds_same (get_or versions n d) (get_or versions place d)) same ∙ (here d ∙ other))
      | inr ne ↦ merged.apart k d (omega (arith, at))
    ];
  }
