-- What an undo or a redo reaches, and what is in its way.
use Rattle.std.proofs.Common.{◌≡◌, ◌≢◌, inl, inr, ℕ, zero, suc, ◌+◌, ◌-◌, ◌<◌, ◌≤◌, Bool, true, false, cond, Option, Some, None, List, [], ◌∷◌, ◌++◌, length, take, drop, map, refl, sym, ap, subst, ◌∙◌, arith, rules, length-append}
use Rattle.std.specs.Prelude.{IfSome, slice_get, filter, nat_lt, not, ◌==◌, ◌&&◌, ◌||◌, if◌then◌else◌}
use Rattle.std.specs.List.{AllByRecursion}
use Rattle.std.proofs.lemmas.Bool.{cases_Bool, eq-eqb, false≢true}
use Rattle.std.proofs.lemmas.Bool.Decides.{nat_tests}
use Rattle.std.proofs.lemmas.List.{append-nil}
use Rattle.std.proofs.lemmas.List.Elements.{filter-append}
use Rattle.dns_name.specs.ListLaws.{all_split, all_weaker, never_past}
use Rattle.change_law.specs.declared.kept.KeptChange.{KeptChange}
use Rattle.change_law.specs.declared.kept.Standing.{Standing}
use Rattle.change_law.specs.declared.kept.Standing.TheVariants.{Done, Undone, Cleared}
use Rattle.change_law.specs.Choice.{IsFounded, IsOneTable, is_done, IsClear, passed}
use Rattle.change_law.specs.ChoiceLaws.{same_number, other_number}
use Rattle.undo_journal.specs.Journal.{AreAscending, AreChanges, AreInTurn, CanBeTurned, Changes, IsPlaceOf, farther, farthest, first_of, in_effect, is_among, is_from, is_one_table, is_passed, last_of, lies_in_way, standing_in, table_at, tickets_of, turnable}
use Rattle.undo_journal.specs.Needs.{TurnNeedsNone}
use Rattle.undo_journal.proofs.RingLaws.{all_among, all_both, among_push_here, among_push_other, and_true, at_place, drop_past, map_append, or_none, passed_at, take_there}
use Rattle.undo_journal.proofs.MoveLaws.{asc_after, asc_before, done_here, done_standing, last_founded, standing_undone}

-- ---- lists

pub drop_at : {X : Type 0} (xs : List X) (n : ℕ) (x : X) → slice_get xs n ≡ Some x → drop n xs ≡ x ∷ drop (suc n) xs
drop_at [] n x e = absurd (search rules)
drop_at (a ∷ xs) zero x e = cc
drop_at (a ∷ xs) (suc n) x e = drop_at xs n x e

pub take_at : {X : Type 0} (xs : List X) (n : ℕ) (x : X) → slice_get xs n ≡ Some x → take (suc n) xs ≡ take n xs ++ x ∷ []
take_at [] n x e = absurd (search rules)
take_at (a ∷ xs) zero x e = cc
take_at (a ∷ xs) (suc n) x e = ap (λ l. a ∷ l) (take_at xs n x e)

pub take_whole : {X : Type 0} (n : ℕ) (xs : List X) → length xs ≤ n → take n xs ≡ xs
take_whole zero [] few = refl
take_whole zero (x ∷ xs) few = absurd (omega arith)
take_whole (suc n) [] few = refl
take_whole (suc n) (x ∷ xs) few = ap (λ l. x ∷ l) (take_whole n xs (omega arith))

pub drop_whole : {X : Type 0} (n : ℕ) (xs : List X) → length xs ≤ n → drop n xs ≡ []
drop_whole zero [] few = refl
drop_whole zero (x ∷ xs) few = absurd (omega arith)
drop_whole (suc n) [] few = refl
drop_whole (suc n) (x ∷ xs) few = drop_whole n xs (omega arith)

pub all_at : {X : Type 0} (P : X → Type 0) (xs : List X) (n : ℕ) (x : X) → AllByRecursion P xs → slice_get xs n ≡ Some x → P x
all_at P [] n x h e = absurd (search rules)
all_at P (a ∷ xs) zero x h e = let same : a ≡ x = cc in subst P same h.0
all_at P (a ∷ xs) (suc n) x h e = all_at P xs n x h.1 e

pub last_push : (xs : List ℕ) (x : ℕ) → last_of (xs ++ x ∷ []) ≡ Some x
last_push xs x =
    let size : length (xs ++ x ∷ []) - 1 ≡ length xs = omega (arith, length-append xs (x ∷ [])) in
    ap (λ i. slice_get (xs ++ x ∷ []) i) size ∙ there xs
  where
    there : (xs : List ℕ) → slice_get (xs ++ x ∷ []) (length xs) ≡ Some x
    there [] = refl
    there (y ∷ xs) = there xs

pub last_none : (xs : List ℕ) → last_of xs ≡ None → xs ≡ []
last_none [] e = refl
last_none (x ∷ xs) e = absurd (never_past (x ∷ xs) (length (x ∷ xs) - 1) (omega arith) e)

pub first_none : (xs : List ℕ) → first_of xs ≡ None → xs ≡ []
first_none [] e = refl
first_none (x ∷ xs) e = absurd (search rules)

pub farthest_none : (from : Standing) (xs : List ℕ) → farthest from xs ≡ None → xs ≡ []
farthest_none Done xs e = last_none xs e
farthest_none Undone xs e = first_none xs e
farthest_none Cleared xs e = first_none xs e

first_push : (xs : List ℕ) (x : ℕ) → first_of (xs ++ x ∷ []) ≡ farther Undone (first_of xs) x
first_push [] x = refl
first_push (y ∷ xs) x = refl

pub farthest_push : (from : Standing) (xs : List ℕ) (x : ℕ) → farthest from (xs ++ x ∷ []) ≡ farther from (farthest from xs) x
farthest_push Done xs x = last_push xs x
farthest_push Undone xs x = first_push xs x
farthest_push Cleared [] x = refl
farthest_push Cleared (y ∷ xs) x = refl

-- a list with its last item
pub last_split : (xs : List ℕ) (x : ℕ) → last_of xs ≡ Some x → (front : List ℕ) × (xs ≡ front ++ x ∷ [])
last_split [] x e = absurd (search rules)
last_split (a ∷ []) x e = let same : a ≡ x = cc in ([], ap (λ n. n ∷ []) same)
last_split (a ∷ b ∷ xs) x e =
    let n : length (a ∷ b ∷ xs) - 1 ≡ suc (length (b ∷ xs) - 1) = omega arith in
    let e' : slice_get (b ∷ xs) (length (b ∷ xs) - 1) ≡ Some x = rw n at e in
    let more = last_split (b ∷ xs) x e' in
    (a ∷ more.0, ap (λ l. a ∷ l) more.1)

pub none_mapped : {X Y : Type 0} (f : X → Y) (xs : List X) → map f xs ≡ [] → xs ≡ []
none_mapped f [] e = refl
none_mapped f (x ∷ xs) e = absurd cc

pub none_filtered : {X : Type 0} (p : X → Bool) (xs : List X) → filter p xs ≡ [] → AllByRecursion (λ x. p x ≡ false) xs
none_filtered p [] e = tt
none_filtered {X} p (x ∷ xs) e =
    elim (cases_Bool (p x)) [
      | inl yes' ↦ let here : x ∷ filter p xs ≡ [] = rw yes' at e in absurd cc
      | inr no' ↦ (no', none_filtered p xs (rw no' at e))
    ]

pub filtered_none : {X : Type 0} (p : X → Bool) (xs : List X) → AllByRecursion (λ x. p x ≡ false) xs → filter p xs ≡ []
filtered_none p [] h = refl
filtered_none p (x ∷ xs) h = rw h.0 (filtered_none p xs h.1)

-- ---- the newest change in effect

module _ {S : Type 0} (kept : List (KeptChange S)) where
  pub none_done : AllByRecursion (λ k. is_done k.standing ≡ false) kept → tickets_of (in_effect kept) ≡ []
  none_done h = ap (λ (l : List (KeptChange S)). tickets_of l) (filtered_none (λ k. is_done k.standing) kept h)

  pub last_done : (place : ℕ) (k : KeptChange S) → slice_get kept place ≡ Some k → k.standing ≡ Done → AllByRecursion (λ x. is_done x.standing ≡ false) (drop (place + 1) kept) →
      last_of (tickets_of (in_effect kept)) ≡ Some k.ticket
  last_done place k there done none =
      let at = at_place kept place k there in
      let n : place + 1 ≡ suc (length at.earlier) = omega (arith, at.place) in
      let behind : drop (place + 1) kept ≡ at.later = (λ i. drop (n i) (at.all i)) ∙ drop_past at.earlier k at.later in
      let all : in_effect kept ≡ in_effect at.earlier ++ k ∷ []
      = ap in_effect at.all ∙ filter-append (λ x. is_done x.standing) at.earlier (k ∷ at.later)
      ∙ ap (λ (l : List (KeptChange S)). in_effect at.earlier ++ l) (here at.later ∙ ap (λ (l : List (KeptChange S)). k ∷ l)
      (filtered_none (λ x. is_done x.standing) at.later (subst (λ (l : List (KeptChange S)). AllByRecursion (λ x. is_done x.standing ≡ false) l) behind none))) in
      ap (λ (l : List (KeptChange S)). last_of (tickets_of l)) all
      ∙ ap last_of (map_append (λ x. x.ticket) (in_effect at.earlier) (k ∷ []))
      ∙ last_push (tickets_of (in_effect at.earlier)) k.ticket
    where
      here : (xs : List (KeptChange S)) → in_effect (k ∷ xs) ≡ k ∷ in_effect xs
      here xs = ap (λ (c : Bool). cond c (k ∷ in_effect xs) (in_effect xs)) (ap is_done done)

-- ---- what lies in the way

pub one_table_test : (a b : Option ℕ) → IsOneTable a b → is_one_table a b ≡ true
one_table_test (Some a) (Some b) h = eq-eqb a b h
one_table_test (Some a) None h = absurd h
one_table_test None (Some b) h = absurd h
one_table_test None None h = absurd h

less_test : (t u : ℕ) → t < u → nat_lt t u ≡ true
less_test t u less = grind (arith, nat_tests, less)

from_itself : (from : Standing) → is_from from from ≡ true
from_itself Done = refl
from_itself Undone = refl
from_itself Cleared = refl

passed_all : {X : Type 0} (P : X → Type 0) (from : Standing) (earlier later : List X) → AllByRecursion P earlier → AllByRecursion P later → AllByRecursion P (passed from earlier later)
passed_all P Done earlier later e l = l
passed_all P Undone earlier later e l = e
passed_all P Cleared earlier later e l = e

module _ {S : Type 0} (table : S → Option ℕ) where
  -- in the order of tickets, a turn goes past the tickets on its side
  past_tickets : (from : Standing) (earlier : List (KeptChange S)) (k : KeptChange S) (later : List (KeptChange S)) → AreAscending (tickets_of (earlier ++ k ∷ later)) →
      AllByRecursion (λ x. is_passed from k.ticket x.ticket ≡ true) (passed from earlier later)
  past_tickets Done earlier k later up = all_weaker _ _ (λ x less. less_test k.ticket x.ticket less) later (asc_after earlier k later up)
  past_tickets Undone earlier k later up = all_weaker _ _ (λ x less. less_test x.ticket k.ticket less) earlier (asc_before earlier k later up)
  past_tickets Cleared earlier k later up = all_weaker _ _ (λ x less. less_test x.ticket k.ticket less) earlier (asc_before earlier k later up)

  in_way_one : (from : Standing) (ticket : ℕ) (k j : KeptChange S) → k.ticket ≡ ticket → is_passed from k.ticket j.ticket ≡ true → lies_in_way table from ticket (table k.saved) j ≡ false →
      IsOneTable (table k.saved) (table j.saved) → j.standing ≢ from
  in_way_one from ticket k j own past out same stands =
      let lies : lies_in_way table from ticket (table k.saved) j ≡ true
      = and_true (is_from from j.standing) (is_passed from ticket j.ticket && is_one_table (table k.saved) (table j.saved)) (ap (is_from from) stands ∙ from_itself from)
      (and_true (is_passed from ticket j.ticket) (is_one_table (table k.saved) (table j.saved)) (ap (λ (n : ℕ). is_passed from n j.ticket) (sym own) ∙ past) (one_table_test (table k.saved) (table j.saved) same)) in
      false≢true (sym out ∙ lies)

  pub can_be_turned : (from : Standing) (kept : List (KeptChange S)) (ticket place : ℕ) (k : KeptChange S) → AreAscending (tickets_of kept) → slice_get kept place ≡ Some k → k.ticket ≡ ticket → k.standing ≡ from →
      farthest from (tickets_of (filter (lies_in_way table from ticket (table k.saved)) kept)) ≡ None → CanBeTurned table from kept place
  can_be_turned from kept ticket place k up there own stands none =
      let at = at_place kept place k there in
      let lies = lies_in_way table from ticket (table k.saved) in
      let out = none_filtered lies kept (none_mapped (λ (x : KeptChange S). x.ticket) (filter lies kept) (farthest_none from (tickets_of (filter lies kept)) none)) in
      let parts = all_split (λ x. lies x ≡ false) at.earlier (k ∷ at.later) (subst (λ (l : List (KeptChange S)). AllByRecursion (λ x. lies x ≡ false) l) at.all out) in
      let past = past_tickets from at.earlier k at.later (subst (λ (l : List (KeptChange S)). AreAscending (tickets_of l)) at.all up) in
      record {
        here = k;
        there = there;
        stands = stands;
        clear = subst (λ (l : List (KeptChange S)). IsClear table from k.saved l) (sym (passed_at kept place k at from))
            (all_both (λ x. is_passed from k.ticket x.ticket ≡ true) (λ x. lies x ≡ false) _ (λ x p o. in_way_one from ticket k x own p o) (passed from at.earlier at.later) past
            (passed_all (λ x. lies x ≡ false) from at.earlier at.later parts.0 parts.1.1));
      }

  -- the one that was undone last can be redone
  pub last_can_be_redone : (changes : Changes S) (ticket place : ℕ) (k : KeptChange S) → AreChanges table changes → last_of changes.undone ≡ Some ticket →
      slice_get changes.kept place ≡ Some k → k.ticket ≡ ticket → CanBeTurned table Undone changes.kept place
  last_can_be_redone changes ticket place k are last there own =
      let at = at_place changes.kept place k there in
      let split = last_split changes.undone ticket last in
      let among : is_among changes.undone k.ticket ≡ true = ap (is_among changes.undone) own ∙ ap (λ (l : List ℕ). is_among l ticket) split.1 ∙ here split.0 in
      let undone : k.standing ≡ Undone = all_at (λ x. x.standing ≡ standing_in changes.undone x.ticket) changes.kept place k are.standings there ∙ ap (λ (b : Bool). if b then Undone else Done) among in
      let first : take place changes.kept ≡ at.earlier = (λ i. take (sym at.place i) (at.all i)) ∙ take_there at.earlier (k ∷ at.later) in
      record {
        here = k;
        there = there;
        stands = undone;
        clear = subst (λ (l : List (KeptChange S)). IsFounded table k.saved l) (sym first)
            (last_founded table at.earlier k at.later split.0 changes.undone (split.1 ∙ ap (λ n. split.0 ++ n ∷ []) (sym own)) are.once undone
            (subst (λ (l : List (KeptChange S)). AreInTurn table changes.undone l) at.all are.in_turn));
      }
    where
      here : (xs : List ℕ) → is_among (xs ++ ticket ∷ []) ticket ≡ true
      here xs = among_push_here xs ticket

-- ---- what is done, and what is not

pub absent_not_done : {S : Type 0} (kept : List (KeptChange S)) (ticket : ℕ) → is_among (tickets_of kept) ticket ≡ false → is_among (tickets_of (in_effect kept)) ticket ≡ false
absent_not_done [] ticket h = refl
absent_not_done (k ∷ kept) ticket h =
    let parts = or_none (k.ticket == ticket) (is_among (tickets_of kept) ticket) h in
    elim (cases_Bool (is_done k.standing)) [
      | inl yes' ↦ rw yes' (ap (λ (b : Bool). b || is_among (tickets_of (in_effect kept)) ticket) parts.0 ∙ absent_not_done kept ticket parts.1)
      | inr no' ↦ rw no' (absent_not_done kept ticket parts.1)
    ]

pub undone_not_done : {S : Type 0} (undone : List ℕ) (kept : List (KeptChange S)) (ticket : ℕ) → AllByRecursion (λ k. k.standing ≡ standing_in undone k.ticket) kept →
    is_among undone ticket ≡ true → is_among (tickets_of (in_effect kept)) ticket ≡ false
undone_not_done undone [] ticket h there = refl
undone_not_done undone (k ∷ kept) ticket h there =
    elim (cases_Bool (is_done k.standing)) [
      | inl yes' ↦
          let apart : (k.ticket == ticket) ≡ false = other_number k.ticket ticket (λ same.
          false≢true (sym (ap (λ (b : Bool). is_done (if b then Undone else Done)) (ap (is_among undone) same ∙ there)) ∙ (sym (ap is_done h.0) ∙ yes'))) in
          rw yes' (ap (λ (b : Bool). b || is_among (tickets_of (in_effect kept)) ticket) apart ∙ undone_not_done undone kept ticket h.1 there)
      | inr no' ↦ rw no' (undone_not_done undone kept ticket h.1 there)
    ]

pub unknown_not_undone : {S : Type 0} (undone : List ℕ) (kept : List (KeptChange S)) (ticket : ℕ) → AllByRecursion (λ t. is_among (tickets_of kept) t ≡ true) undone →
    is_among (tickets_of kept) ticket ≡ false → is_among undone ticket ≡ false
unknown_not_undone undone kept ticket known absent =
    elim (cases_Bool (is_among undone ticket)) [
      | inl there ↦ absurd (false≢true (sym absent ∙ all_among (λ t. is_among (tickets_of kept) t ≡ true) undone ticket known there))
      | inr none ↦ none
    ]

pub done_among : {S : Type 0} (kept : List (KeptChange S)) (place ticket : ℕ) (k : KeptChange S) → slice_get kept place ≡ Some k → k.ticket ≡ ticket → k.standing ≡ Done →
    is_among (tickets_of (in_effect kept)) ticket ≡ true
done_among {S} kept place ticket k there own done =
    let at = at_place kept place k there in
    ap (λ (l : List (KeptChange S)). is_among (tickets_of (in_effect l)) ticket) at.all
    ∙ ap (is_among (tickets_of (in_effect (at.earlier ++ k ∷ at.later)))) (sym own)
    ∙ done_here at.earlier k at.later (ap is_done done)

-- ---- what can be turned, and what cannot

module _ {S : Type 0} (table : S → Option ℕ) (changes : Changes S) (are : AreChanges table changes) (ticket : ℕ) where
  pub absent_not_turnable : (from : Standing) → is_among (tickets_of changes.kept) ticket ≡ false → is_among (turnable from changes) ticket ≡ false
  absent_not_turnable Done absent = absent_not_done changes.kept ticket absent
  absent_not_turnable Undone absent = unknown_not_undone changes.undone changes.kept ticket are.known absent
  absent_not_turnable Cleared absent = unknown_not_undone changes.undone changes.kept ticket are.known absent

  module _ (place : ℕ) (k : KeptChange S) (there : slice_get changes.kept place ≡ Some k) (own : k.ticket ≡ ticket) where
    its_standing : k.standing ≡ standing_in changes.undone ticket
    its_standing = all_at (λ x. x.standing ≡ standing_in changes.undone x.ticket) changes.kept place k are.standings there ∙ ap (standing_in changes.undone) own

    pub stands_from : (from : Standing) → from ≢ Cleared → is_from from k.standing ≡ true → k.standing ≡ from
    unfolding its_standing
    stands_from from live is = its_standing ∙ by from (is_among changes.undone ticket) live (sym (ap (is_from from) its_standing) ∙ is)
      where
        by : (s : Standing) (b : Bool) → s ≢ Cleared → is_from s (if b then Undone else Done) ≡ true → (if b then Undone else Done) ≡ s
        by Done true live is = absurd (false≢true is)
        by Done false live is = refl
        by Undone true live is = refl
        by Undone false live is = absurd (false≢true is)
        by Cleared b live is = absurd (live refl)

    undone_there : k.standing ≡ Undone → is_among changes.undone ticket ≡ true
    unfolding its_standing
    undone_there undone = standing_undone (is_among changes.undone ticket) (sym its_standing ∙ undone)

    pub turnable_there : (from : Standing) → from ≢ Cleared → k.standing ≡ from → is_among (turnable from changes) ticket ≡ true
    turnable_there Done live stands = done_among changes.kept place ticket k there own stands
    turnable_there Undone live stands = undone_there stands
    turnable_there Cleared live stands = absurd (live refl)

    not_done : is_done k.standing ≡ false → is_among changes.undone ticket ≡ true
    unfolding its_standing
    not_done out = by (is_among changes.undone ticket) (sym (ap is_done its_standing) ∙ out)
      where
        by : (b : Bool) → is_done (if b then Undone else Done) ≡ false → b ≡ true
        by true e = refl
        by false e = absurd (false≢true (sym e))

    not_undone : not (is_done k.standing) ≡ false → is_among changes.undone ticket ≡ false
    unfolding its_standing
    not_undone out = by (is_among changes.undone ticket) (sym (ap (λ (s : Standing). not (is_done s)) its_standing) ∙ out)
      where
        by : (b : Bool) → not (is_done (if b then Undone else Done)) ≡ false → b ≡ false
        by true e = absurd (false≢true (sym e))
        by false e = refl

    pub not_turnable : (from : Standing) → is_from from k.standing ≡ false → is_among (turnable from changes) ticket ≡ false
    not_turnable Done out = undone_not_done changes.undone changes.kept ticket are.standings (not_done out)
    not_turnable Undone out = not_undone out
    not_turnable Cleared out = not_undone out

-- no memory to turn the change at a place, which stands so
pub turn_needs_none_at : {S : Type 0} (needs_memory : S → Bool) (from : Standing) (kept : List (KeptChange S)) (place ticket : ℕ) (k : KeptChange S) → TurnNeedsNone needs_memory from kept ticket → slice_get kept place ≡ Some k →
    k.ticket ≡ ticket → k.standing ≡ from → IfSome (slice_get kept place) (λ k. needs_memory k.saved ≡ false)
turn_needs_none_at {S} needs_memory from kept place ticket k none there own stands =
    subst (λ (o : Option (KeptChange S)). IfSome o (λ k. needs_memory k.saved ≡ false)) (sym there)
    (all_at (λ x. x.ticket ≡ ticket → x.standing ≡ from → needs_memory x.saved ≡ false) kept place k none there own stands)

-- ---- a walk over the ring

-- one change more is looked at
pub filter_more : {X : Type 0} (p : X → Bool) (xs : List X) (n : ℕ) (x : X) → slice_get xs n ≡ Some x → filter p (take (n + 1) xs) ≡ filter p (take n xs) ++ (if p x then x ∷ [] else [])
filter_more {X} p xs n x there =
    let next : n + 1 ≡ suc n = omega arith in
    ap (λ (l : List X). filter p l) ((λ i. take (next i) xs) ∙ take_at xs n x there) ∙ filter-append p (take n xs) (x ∷ [])

module _ {S : Type 0} (p : KeptChange S → Bool) (kept : List (KeptChange S)) (place : ℕ) (k : KeptChange S) (there : slice_get kept place ≡ Some k) where
  pub found_here : (from : Standing) (found found' : Option ℕ) → p k ≡ true → found ≡ farthest from (tickets_of (filter p (take place kept))) → found' ≡ farther from found k.ticket →
      found' ≡ farthest from (tickets_of (filter p (take (place + 1) kept)))
  found_here from found found' lies so is =
      let all : filter p (take (place + 1) kept) ≡ filter p (take place kept) ++ k ∷ []
      = filter_more p kept place k there ∙ ap (λ (b : Bool). filter p (take place kept) ++ (if b then k ∷ [] else [])) lies in
      is ∙ ap (λ (o : Option ℕ). farther from o k.ticket) so ∙ sym (farthest_push from (tickets_of (filter p (take place kept))) k.ticket)
      ∙ ap (farthest from) (sym (map_append (λ x. x.ticket) (filter p (take place kept)) (k ∷ [])))
      ∙ ap (λ (l : List (KeptChange S)). farthest from (tickets_of l)) (sym all)

  pub found_passed : (from : Standing) (found found' : Option ℕ) → p k ≡ false → found ≡ farthest from (tickets_of (filter p (take place kept))) → found' ≡ found →
      found' ≡ farthest from (tickets_of (filter p (take (place + 1) kept)))
  found_passed from found found' apart so is =
      let all : filter p (take (place + 1) kept) ≡ filter p (take place kept)
      = filter_more p kept place k there ∙ ap (λ (b : Bool). filter p (take place kept) ++ (if b then k ∷ [] else [])) apart ∙ append-nil (filter p (take place kept)) in
      is ∙ so ∙ ap (λ (l : List (KeptChange S)). farthest from (tickets_of l)) (sym all)

-- ---- the place of a ticket

module _ {S : Type 0} (table : S → Option ℕ) (kept : List (KeptChange S)) (ticket place : ℕ) (k : KeptChange S) (there : slice_get kept place ≡ Some k)
    (looked : table_at table kept ticket ≡ table_at table (drop place kept) ticket) where
  pub place_here : k.ticket ≡ ticket → IsPlaceOf table kept ticket place
  place_here own =
      let test : (k.ticket == ticket) ≡ true = ap (λ (n : ℕ). n == ticket) own ∙ same_number ticket in
      record {
        here = k;
        there = there;
        own = own;
        looked = looked ∙ ap (λ (l : List (KeptChange S)). table_at table l ticket) (drop_at kept place k there)
            ∙ ap (λ (b : Bool). if b then table k.saved else table_at table (drop (suc place) kept) ticket) test;
      }

  pub place_passed : k.ticket ≢ ticket → table_at table kept ticket ≡ table_at table (drop (place + 1) kept) ticket
  place_passed n =
      let test : (k.ticket == ticket) ≡ false = other_number k.ticket ticket n in
      let next : suc place ≡ place + 1 = omega arith in
      looked ∙ ap (λ (l : List (KeptChange S)). table_at table l ticket) (drop_at kept place k there)
      ∙ ap (λ (b : Bool). if b then table k.saved else table_at table (drop (suc place) kept) ticket) test
      ∙ ap (λ (n : ℕ). table_at table (drop n kept) ticket) next

pub absent_passed : {S : Type 0} (kept : List (KeptChange S)) (ticket place : ℕ) (k : KeptChange S) → slice_get kept place ≡ Some k → k.ticket ≢ ticket →
    is_among (tickets_of (take place kept)) ticket ≡ false → is_among (tickets_of (take (place + 1) kept)) ticket ≡ false
absent_passed {S} kept ticket place k there n absent =
    let next : place + 1 ≡ suc place = omega arith in
    let all : take (place + 1) kept ≡ take place kept ++ k ∷ [] = (λ i. take (next i) kept) ∙ take_at kept place k there in
    ap (λ (l : List (KeptChange S)). is_among (tickets_of l) ticket) all
    ∙ ap (λ (l : List ℕ). is_among l ticket) (map_append (λ x. x.ticket) (take place kept) (k ∷ []))
    ∙ among_push_other (tickets_of (take place kept)) k.ticket ticket (other_number k.ticket ticket n)
    ∙ absent

-- ---- from the end

-- The newest change in effect is at this place.
pub record IsLastDone {S : Type 0} (kept : List (KeptChange S)) (place : ℕ) : Type 0 where
  pub here : KeptChange S
  pub there : slice_get kept place ≡ Some here
  pub done : here.standing ≡ Done
  pub none : AllByRecursion (λ k. is_done k.standing ≡ false) (drop (place + 1) kept)

module _ {S : Type 0} (kept : List (KeptChange S)) (len back : ℕ) (size : len ≡ length kept) where
  at_back : back < len → (k : KeptChange S) × (slice_get kept (len - 1 - back) ≡ Some k)
  at_back within = by (slice_get kept (len - 1 - back)) refl
    where
      by : (o : Option (KeptChange S)) → slice_get kept (len - 1 - back) ≡ o → (k : KeptChange S) × (slice_get kept (len - 1 - back) ≡ Some k)
      by None e = absurd (never_past kept (len - 1 - back) (omega (arith, size, within)) e)
      by (Some k) e = (k, e)

  pub back_here : (b : Bool) → back < len → IfSome (slice_get kept (len - 1 - back)) (λ k. b ≡ is_done k.standing) → b ≡ true →
      AllByRecursion (λ k. is_done k.standing ≡ false) (drop (len - back) kept) → IsLastDone kept (len - 1 - back)
  unfolding at_back
  back_here b within told lies none =
      let there = at_back within in
      let same : b ≡ is_done there.0.standing = subst (λ (o : Option (KeptChange S)). IfSome o (λ k. b ≡ is_done k.standing)) there.1 told in
      let next : len - back ≡ len - 1 - back + 1 = omega (arith, within) in
      record {
        here = there.0;
        there = there.1;
        done = done_standing there.0.standing (sym same ∙ lies);
        none = subst (λ (n : ℕ). AllByRecursion (λ k. is_done k.standing ≡ false) (drop n kept)) next none;
      }

  pub back_passed : (b : Bool) → back < len → IfSome (slice_get kept (len - 1 - back)) (λ k. b ≡ is_done k.standing) → b ≡ false →
      AllByRecursion (λ k. is_done k.standing ≡ false) (drop (len - back) kept) → AllByRecursion (λ k. is_done k.standing ≡ false) (drop (len - (back + 1)) kept)
  unfolding at_back
  back_passed b within told apart none =
      let there = at_back within in
      let same : b ≡ is_done there.0.standing = subst (λ (o : Option (KeptChange S)). IfSome o (λ k. b ≡ is_done k.standing)) there.1 told in
      let place : len - 1 - back ≡ len - (back + 1) = omega arith in
      let next : len - back ≡ suc (len - 1 - back) = omega (arith, within) in
      let rest = subst (λ (n : ℕ). AllByRecursion (λ k. is_done k.standing ≡ false) (drop n kept)) next none in
      subst (λ (n : ℕ). AllByRecursion (λ k. is_done k.standing ≡ false) (drop n kept)) place
      (subst (λ (l : List (KeptChange S)). AllByRecursion (λ k. is_done k.standing ≡ false) l) (sym (drop_at kept (len - 1 - back) there.0 there.1)) (sym same ∙ apart, rest))

pub back_end : {S : Type 0} (kept : List (KeptChange S)) (len back : ℕ) → len ≤ back → AllByRecursion (λ k. is_done k.standing ≡ false) (drop (len - back) kept) → tickets_of (in_effect kept) ≡ []
back_end kept len back past none =
    let all : len - back ≡ 0 = omega (arith, past) in
    none_done kept (subst (λ (n : ℕ). AllByRecursion (λ k. is_done k.standing ≡ false) (drop n kept)) all none)

-- ---- the newest in effect can be undone

pub last_can_be_undone : {S : Type 0} (table : S → Option ℕ) (kept : List (KeptChange S)) (place : ℕ) → IsLastDone kept place → CanBeTurned table Done kept place
last_can_be_undone table kept place is = record {
  here = is.here;
  there = is.there;
  stands = is.done;
  clear = all_weaker (λ k. is_done k.standing ≡ false) _ (λ k out same done. false≢true (sym out ∙ ap is_done done)) (drop (place + 1) kept) is.none;
}

pub none_long : {X : Type 0} (xs : List X) → length xs ≡ 0 → xs ≡ []
none_long [] e = refl
none_long (x ∷ xs) e = absurd (omega (arith, e))
