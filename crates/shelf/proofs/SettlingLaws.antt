-- Permanent flushes that reach the names one after the other.
use Rattle.std.proofs.Common.{◌≡◌, ℕ, zero, suc, ◌+◌, ◌-◌, ◌<◌, ◌≤◌, max, min, Bool, true, false, cond, Option, Some, None, List, [], ◌∷◌, ◌++◌, length, get_or, refl, sym, ap, ◌∙◌, subst, arith, ◌⊎◌, inl, inr}
use Rattle.std.specs.Prelude.{◌==◌, ◌&&◌, not, nat_le, nat_lt, slice_get, swap_remove, Result, Ok, Err, OnOk, OnErr}
use Rattle.std.specs.List.{filter, position_or_len, AllByRecursion}
use Rattle.std.specs.Map.{keys_of, lookup}
use Rattle.std.proofs.lemmas.Bool.{and_parts, eqb-true, false≢true}
use Rattle.std.proofs.lemmas.Map.Entries.{length-keys_of}
use Rattle.std.proofs.lemmas.Bool.Decides.{nat_tests}
use Rattle.std.proofs.Math.ListN.{set, length-set}
use Rattle.std.proofs.lemmas.List.{length-take-le}
use Rattle.std.proofs.lemmas.List.Sums.{fold-append}
use Rattle.std.specs.Option.{option_map_or}
use Rattle.indexmap.specs.IndexMap.{IndexMap, get, swap_remove_entry}
use Rattle.dns_name.specs.Labels.{Labels}
use Rattle.dns_name.specs.Order.{name_eq, name_eq_exact, name_equiv}
use Rattle.dns_name.specs.Below.{is_at_or_below}
use Rattle.dns_text.specs.declared.record.Question.{Question}
use Rattle.ranked.specs.declared.find.Find.{Find}
use Rattle.ranked.specs.declared.cell.Admitted.{Admitted}
use Rattle.ranked.specs.Find.{admission_of, touches}
use Rattle.cell_store.specs.declared.owner.OwnerCells.{OwnerCells}
use Rattle.cell_store.specs.Count.{KeepPairs}
use Rattle.cell_store.specs.Owner.{after_settle, after_touch}
use Rattle.cell_store.specs.Store.{cell_by_owner, cell_of, name_place, AreAbout, AreSameCells, AreUpTo}
use Rattle.shelf.specs.declared.settling.Settling.{Settling}
use Rattle.shelf.specs.Settling.{doubting, first_at, is_outdone, later_settled, settled_cell, settled_version, unmoved, with_left, without_outdone, AreReached, IsMoved, IsReaching, IsSettling}
use Rattle.shelf.proofs.AboutLaws.{about_moved}
use Rattle.shelf.proofs.ListLaws.{get_set_other, get_set_same, get_some, get_take, lt_or}
use Rattle.shelf.proofs.ShelfLaws.{nothing_past}
use Rattle.cell_store.specs.TestLaws.{either, not_false, or_right}

-- ---- versions

max_twice : (n v : ℕ) → max n (max n v) ≡ max n v
max_twice n v = omega arith

max_either : (n m v : ℕ) → max n (max m v) ≡ max m (max n v)
max_either n m v = omega arith

pub twice : (b : Bool) (n v : ℕ) → after_settle b n (after_settle b n v) ≡ after_settle b n v
twice true n v = max_twice n v
twice false n v = refl

pub either_first : (b c : Bool) (n m v : ℕ) → after_settle b n (after_settle c m v) ≡ after_settle c m (after_settle b n v)
either_first true true n m v = max_either n m v
either_first true false n m v = refl
either_first false c n m v = refl

after_low : (b : Bool) (n v top : ℕ) → n ≤ top → v ≤ top → after_settle b n v ≤ top
after_low true n v top few low = omega (arith, few, low)
after_low false n v top few low = low

after_late : (b : Bool) (n v : ℕ) → n ≤ v → after_settle b n v ≡ v
after_late true n v late = omega (arith, late)
after_late false n v late = refl

after_high : (b : Bool) (n v : ℕ) → v ≤ after_settle b n v
after_high true n v = omega arith
after_high false n v = omega arith

low_then : (a b c : ℕ) → a ≤ b → b ≤ c → a ≤ c
low_then a b c first then = omega (arith, first, then)

pub version_low : {S : Type 0} (owners : IndexMap Labels OwnerCells S) (top : ℕ) (settlings : List Settling) → AllByRecursion (IsSettling top owners) settlings → (name : Labels) (v : ℕ) → v ≤ top → settled_version settlings name v ≤ top
version_low owners top [] all name v low = low
version_low owners top (own ∷ later) all name v low =
    version_low owners top later all.1 name (after_settle (is_at_or_below name own.zone) own.number v) (after_low (is_at_or_below name own.zone) own.number v top all.0.older low)

version_high : (settlings : List Settling) (name : Labels) (v : ℕ) → v ≤ settled_version settlings name v
version_high [] name v = omega arith
version_high (own ∷ later) name v =
    let first : ℕ = after_settle (is_at_or_below name own.zone) own.number v in
    low_then v first (settled_version later name first) (after_high (is_at_or_below name own.zone) own.number v) (version_high later name first)

-- it does not matter whether another flush comes before those of a list or after them
pub version_from : (settlings : List Settling) (name : Labels) (b : Bool) (n v : ℕ) → settled_version settlings name (after_settle b n v) ≡ after_settle b n (settled_version settlings name v)
version_from [] name b n v = refl
version_from (own ∷ later) name b n v =
    ap (settled_version later name) (either_first (is_at_or_below name own.zone) b own.number n v)
    ∙ version_from later name b n (after_settle (is_at_or_below name own.zone) own.number v)

pub nothing_settled : {S : Type 0} (owners : IndexMap Labels OwnerCells S) (top : ℕ) (settlings : List Settling) → AreUpTo top owners → (q : Question) (v : ℕ) → top < v → settled_cell settlings owners q v ≡ None
nothing_settled owners top settlings upto q v late = nothing_past owners top upto q (settled_version settlings q.owner v) (omega (arith, late, version_high settlings q.owner v))

-- ---- lists of flushes

pub is_none : (size len : ℕ) (empty : Bool) → empty ≡ (size == 0) → size ≡ len → empty ≡ true → len ≡ 0
is_none size len empty at same is = let none : size ≡ 0 = eqb-true size 0 (sym at ∙ is) in omega (arith, none, same)

pub is_some : (size len : ℕ) (empty : Bool) → empty ≡ (size == 0) → size ≡ len → empty ≡ false → 0 < len
is_some size len empty at same isnt = let off : (size == 0) ≡ false = sym at ∙ isnt in let some : 0 < size = grind (arith, nat_tests) in omega (arith, some, same)

pub nil_of : {A : Type 0} (xs : List A) → length xs ≡ 0 → xs ≡ []
nil_of [] none = refl
nil_of (x ∷ xs) none = absurd (omega (arith, none))

pub all_each : (P Q : Settling → Type 0) (settlings : List Settling) → ((own : Settling) → P own → Q own) → AllByRecursion P settlings → AllByRecursion Q settlings
all_each P Q [] step all = tt
all_each P Q (own ∷ later) step all = (step own all.0, all_each P Q later step all.1)

all_kept : (P : Settling → Type 0) (test : Settling → Bool) (settlings : List Settling) → AllByRecursion P settlings → AllByRecursion P (filter test settlings)
all_kept P test [] all = tt
all_kept P test (own ∷ later) all = split (test own) (all_kept P test later all.1)
  where
    split : (b : Bool) → AllByRecursion P (filter test later) → AllByRecursion P (cond b (own ∷ filter test later) (filter test later))
    split true rest = (all.0, rest)
    split false rest = rest

all_push : (P : Settling → Type 0) (settlings : List Settling) (own : Settling) → AllByRecursion P settlings → P own → AllByRecursion P (settlings ++ own ∷ [])
all_push P [] own all is = (is, tt)
all_push P (x ∷ later) own all is = (all.0, all_push P later own all.1 is)

-- ---- places

pub absent : (entries : List (Labels × OwnerCells)) (name : Labels) → length entries ≤ name_place name entries → lookup (name_eq name) entries ≡ None
absent [] name far = refl
absent (e ∷ entries) name far = split (name_eq name e.0) far (absent entries name)
  where
    split : (b : Bool) → suc (length entries) ≤ cond (not b) (1 + name_place name entries) 0 → (length entries ≤ name_place name entries → lookup (name_eq name) entries ≡ None) → cond b (Some e.1) (lookup (name_eq name) entries) ≡ None
    split true far later = absurd (omega (arith, far))
    split false far later = later (omega (arith, far))

same_place : (olds news : List (Labels × OwnerCells)) (name : Labels) → keys_of news ≡ keys_of olds → name_place name news ≡ name_place name olds
same_place olds news name names = ap (position_or_len (name_eq name)) names

pub same_length : (olds news : List (Labels × OwnerCells)) → keys_of news ≡ keys_of olds → length news ≡ length olds
same_length olds news names = sym (length-keys_of news) ∙ (ap length names ∙ length-keys_of olds)

-- a name that is new is past the others
place_more : (test : Labels → Bool) (names : List Labels) (new : Labels) (left : ℕ) → left ≤ length names → left ≤ position_or_len test (names ++ new ∷ []) → left ≤ position_or_len test names
place_more test [] new left few far = few
place_more test (name ∷ names) new zero few far = omega arith
place_more test (name ∷ names) new (suc left) few far = split (test name) far (place_more test names new left (omega (arith, few)))
  where
    split : (b : Bool) → suc left ≤ cond (not b) (1 + position_or_len test (names ++ new ∷ [])) 0 → (left ≤ position_or_len test (names ++ new ∷ []) → left ≤ position_or_len test names) → suc left ≤ cond (not b) (1 + position_or_len test names) 0
    split true far later = far
    split false far later = omega (arith, later (omega (arith, far)))

pub place_before : (olds news : List (Labels × OwnerCells)) (new name : Labels) (left : ℕ) → (keys_of news ≡ keys_of olds) ⊎ (keys_of news ≡ keys_of olds ++ new ∷ []) → left ≤ length olds → left ≤ name_place name news → left ≤ name_place name olds
place_before olds news new name left (inl same) few far = subst (λ (l : List Labels). left ≤ position_or_len (name_eq name) l) same far
place_before olds news new name left (inr more) few far = place_more (name_eq name) (keys_of olds) new left (omega (arith, few, length-keys_of olds)) (subst (λ (l : List Labels). left ≤ position_or_len (name_eq name) l) more far)

-- ---- one name

next_place : (x place : ℕ) → place ≤ x → (x == place) ≡ false → place + 1 ≤ x
next_place x place low off = grind (arith, off)

module _ {S : Type 0} (zone : Labels) (number place : ℕ) (old new : IndexMap Labels OwnerCells S) (names : keys_of new.entries ≡ keys_of old.entries)
    (cells : (q : Question) (v : ℕ) → cell_of new q v ≡ cell_of old q (after_settle (name_place q.owner old.entries == place && is_at_or_below q.owner zone) number v)) where
  seen_same : (q : Question) (v : ℕ) → cell_of new q (after_settle (is_at_or_below q.owner zone) number v) ≡ cell_of old q (after_settle (is_at_or_below q.owner zone) number v)
  seen_same q v = cells q (after_settle (is_at_or_below q.owner zone) number v) ∙ ap (cell_of old q) (split (name_place q.owner old.entries == place))
    where
      split : (b : Bool) → after_settle (b && is_at_or_below q.owner zone) number (after_settle (is_at_or_below q.owner zone) number v) ≡ after_settle (is_at_or_below q.owner zone) number v
      split true = twice (is_at_or_below q.owner zone) number v
      split false = refl

  reached_here : AreReached zone number (place + 1) old → AreReached zone number place new
  reached_here was q v far = split (name_place q.owner old.entries == place) refl
    where
      far' : place ≤ name_place q.owner old.entries
      far' = subst (λ n. place ≤ n) (same_place old.entries new.entries q.owner names) far

      split : (b : Bool) → (name_place q.owner old.entries == place) ≡ b → cell_of new q (after_settle (is_at_or_below q.owner zone) number v) ≡ cell_of new q v
      split true at = seen_same q v ∙ sym (cells q v ∙ ap (λ b. cell_of old q (after_settle (b && is_at_or_below q.owner zone) number v)) at)
      split false off = seen_same q v ∙ (was q v (next_place (name_place q.owner old.entries) place far' off) ∙ sym (cells q v ∙ ap (λ b. cell_of old q (after_settle (b && is_at_or_below q.owner zone) number v)) off))

  about_here : AreAbout old → AreAbout new
  about_here = about_moved old new (λ q v. after_settle (name_place q.owner old.entries == place && is_at_or_below q.owner zone) number v) cells

-- ---- the cells of each name move alike

module _ {S : Type 0} (covered : Question → Bool) (number top : ℕ) (old new : IndexMap Labels OwnerCells S) (names : keys_of new.entries ≡ keys_of old.entries)
    (cells : (q : Question) (v : ℕ) → cell_of new q v ≡ cell_of old q (after_settle (covered q) number v)) where
  pub moved_own : (own : Settling) → IsSettling top old own → IsSettling top new own
  moved_own own is = record {
    older = is.older;
    reached = λ q v far.
        cells q (after_settle (is_at_or_below q.owner own.zone) own.number v)
        ∙ (ap (cell_of old q) (either_first (covered q) (is_at_or_below q.owner own.zone) number own.number v)
        ∙ (is.reached q (after_settle (covered q) number v) (subst (λ n. own.left ≤ n) (same_place old.entries new.entries q.owner names) far) ∙ sym (cells q v)));
  }

  moved_cells : (was : List Settling) (q : Question) (v : ℕ) → settled_cell was new q v ≡ settled_cell was old q (after_settle (covered q) number v)
  moved_cells was q v = cells q (settled_version was q.owner v) ∙ ap (cell_of old q) (sym (version_from was q.owner (covered q) number v))

  pub moved_name : (was : List Settling) → AreUpTo top new → AllByRecursion (IsSettling top old) was → IsMoved (λ q v. after_settle (covered q) number v) top was was old new
  moved_name was upto all = record {
    cells = moved_cells was;
    upto = upto;
    about = about_moved old new (λ q v. after_settle (covered q) number v) cells;
    settling = all_each (IsSettling top old) (IsSettling top new) was moved_own all;
  }

pub moved_like : {S : Type 0} (moved other : Question → ℕ → ℕ) (top : ℕ) (was now : List Settling) (old new : IndexMap Labels OwnerCells S) → ((q : Question) (v : ℕ) → moved q v ≡ other q v) → IsMoved moved top was now old new → IsMoved other top was now old new
moved_like moved other top was now old new same is = record { cells = λ q v. is.cells q v ∙ ap (settled_cell was old q) (same q v); upto = is.upto; about = is.about; settling = is.settling }

-- one after the other
pub moved_then : {S : Type 0} (moved : Question → ℕ → ℕ) (top : ℕ) (was middle now : List Settling) (old between new : IndexMap Labels OwnerCells S) → IsMoved unmoved top was middle old between → IsMoved moved top middle now between new
    → IsMoved moved top was now old new
moved_then moved top was middle now old between new first second = record {
  cells = λ q v. second.cells q v ∙ first.cells q (moved q v);
  upto = second.upto;
  about = λ is. second.about (first.about is);
  settling = second.settling;
}

pub moved_after : {S : Type 0} (moved : Question → ℕ → ℕ) (top : ℕ) (was middle now : List Settling) (old between new : IndexMap Labels OwnerCells S) → IsMoved moved top was middle old between → IsMoved unmoved top middle now between new
    → IsMoved moved top was now old new
moved_after moved top was middle now old between new first second = record {
  cells = λ q v. second.cells q v ∙ first.cells q v;
  upto = second.upto;
  about = λ is. second.about (first.about is);
  settling = second.settling;
}

-- number 0 moves nothing
pub after_zero : (b : Bool) (v : ℕ) → after_settle b 0 v ≡ v
after_zero true v = omega arith
after_zero false v = refl

pub moved_same : {S : Type 0} (top : ℕ) (settlings : List Settling) (owners : IndexMap Labels OwnerCells S) → AreUpTo top owners → AllByRecursion (IsSettling top owners) settlings → IsMoved unmoved top settlings settlings owners owners
moved_same top settlings owners upto all = record { cells = λ q v. refl; upto = upto; about = λ is. is; settling = all }

-- ---- names that a flush has reached

-- from the end of the names on there is nothing to reach
pub past_reached : {S : Type 0} (zone : Labels) (number place : ℕ) (owners : IndexMap Labels OwnerCells S) → length owners.entries ≤ place → AreReached zone number place owners
past_reached zone number place owners past q v far =
    let none : get name_eq owners q.owner ≡ None = absent owners.entries q.owner (omega (arith, past, far)) in
    ap (λ (o : Option OwnerCells). cell_by_owner o q.kind (after_settle (is_at_or_below q.owner zone) number v)) none ∙ sym (ap (λ (o : Option OwnerCells). cell_by_owner o q.kind v) none)

pub reached_low : {S : Type 0} (zone : Labels) (number left : ℕ) (owners : IndexMap Labels OwnerCells S) → AreReached zone number left owners → (q : Question) (v : ℕ) → min left (length owners.entries) ≤ name_place q.owner owners.entries
    → cell_of owners q (after_settle (is_at_or_below q.owner zone) number v) ≡ cell_of owners q v
reached_low zone number left owners is q v far = elim (lt_or (name_place q.owner owners.entries) left) [
  | inr done ↦ is q v done
  | inl before ↦ past_reached zone number (length owners.entries) owners (omega arith) q v (omega (arith, far, before))
]

pub reach_none : {S : Type 0} (zone : Labels) (number top place : ℕ) (owners : IndexMap Labels OwnerCells S) → AreUpTo top owners → IsReaching zone number top place place owners owners
reach_none zone number top place owners upto = record { cells = λ q v. refl; upto = upto; about = λ is. is; reached = λ is. is; others = λ own is. is }

-- there is no name at the place
pub reach_past : {S : Type 0} (zone : Labels) (number top from place : ℕ) (owners : IndexMap Labels OwnerCells S) → AreUpTo top owners → length owners.entries ≤ place → IsReaching zone number top from place owners owners
reach_past zone number top from place owners upto past = record { cells = λ q v. refl; upto = upto; about = λ is. is; reached = λ is. past_reached zone number place owners past; others = λ own is. is }

pub reach_then : {S : Type 0} (zone : Labels) (number top from before to : ℕ) (first old new : IndexMap Labels OwnerCells S) → IsReaching zone number top from before first old → IsReaching zone number top before to old new → IsReaching zone number top from to first new
reach_then zone number top from before to first old new is then = record {
  cells = λ q v. then.cells q v ∙ is.cells q v;
  upto = then.upto;
  about = λ was. then.about (is.about was);
  reached = λ was. then.reached (is.reached was);
  others = λ own was. then.others own (is.others own was);
}

pub reach_one : {S : Type 0} (zone : Labels) (number top place : ℕ) (old new : IndexMap Labels OwnerCells S) → keys_of new.entries ≡ keys_of old.entries → AreUpTo top new
    → ((q : Question) (v : ℕ) → cell_of new q v ≡ cell_of old q (after_settle (name_place q.owner old.entries == place && is_at_or_below q.owner zone) number v)) → IsReaching zone number top (place + 1) place old new
reach_one zone number top place old new names upto cells = record {
  cells = seen_same zone number place old new names cells;
  upto = upto;
  about = about_here zone number place old new names cells;
  reached = reached_here zone number place old new names cells;
  others = moved_own (λ q. name_place q.owner old.entries == place && is_at_or_below q.owner zone) number top old new names cells;
}

-- ---- the first flush

module _ {S : Type 0} (top left : ℕ) (own : Settling) (later : List Settling) (old new : IndexMap Labels OwnerCells S) (is : IsReaching own.zone own.number top own.left left old new) (all : AllByRecursion (IsSettling top old) (own ∷ later)) where
  abbrev more : Labels → ℕ → ℕ
  more name v = settled_version later name v

  abbrev from_own : Question → ℕ → ℕ
  from_own q v = after_settle (is_at_or_below q.owner own.zone) own.number v

  first_cells : (q : Question) (v : ℕ) → cell_of new q (more q.owner (from_own q v)) ≡ cell_of old q (more q.owner (from_own q v))
  first_cells q v =
      let turned : more q.owner (from_own q v) ≡ from_own q (more q.owner v) = version_from later q.owner (is_at_or_below q.owner own.zone) own.number v in
      ap (cell_of new q) turned ∙ (is.cells q (more q.owner v) ∙ sym (ap (cell_of old q) turned))

  first_others : AllByRecursion (IsSettling top new) later
  first_others = all_each (IsSettling top old) (IsSettling top new) later is.others all.1

  pub moved_first : IsMoved unmoved top (own ∷ later) (first_at left (own ∷ later)) old new
  moved_first = split (left == 0) refl
    where
      split : (b : Bool) → (left == 0) ≡ b → IsMoved unmoved top (own ∷ later) (cond b later (with_left left own ∷ later)) old new
      split true none = record {
        cells = λ q v.
            let turned : more q.owner (from_own q v) ≡ from_own q (more q.owner v) = version_from later q.owner (is_at_or_below q.owner own.zone) own.number v in
            let nothing : left ≡ 0 = eqb-true left 0 none in
            sym (is.reached all.0.reached q (more q.owner v) (omega (arith, nothing))) ∙ (is.cells q (more q.owner v) ∙ sym (ap (cell_of old q) turned));
        upto = is.upto;
        about = is.about;
        settling = first_others;
      }
      split false some = record {
        cells = first_cells;
        upto = is.upto;
        about = is.about;
        settling = (record { older = all.0.older; reached = is.reached all.0.reached }, first_others);
      }

pub moved_some : {S : Type 0} (top left : ℕ) (own : Settling) (was now : List Settling) (old new : IndexMap Labels OwnerCells S) → 0 < length was → own ≡ get_or was 0 own → now ≡ first_at left was → IsReaching own.zone own.number top own.left left old new
    → AllByRecursion (IsSettling top old) was → IsMoved unmoved top was now old new
moved_some top left own [] now old new some read at is all = absurd (omega (arith, some))
moved_some top left own (x ∷ later) now old new some read at is all =
    let first : own ≡ x = read in
    subst (λ (l : List Settling). IsMoved unmoved top (x ∷ later) l old new) (sym at)
    (moved_first top left x later old new (subst (λ (o : Settling). IsReaching o.zone o.number top o.left left old new) first is) all)

-- the entry that ends the names in doubt joins the list
pub doubt_moved : {S : Type 0} (root : Labels) (top : ℕ) (was now : List Settling) (owners : IndexMap Labels OwnerCells S) → IsMoved (λ q v. after_settle (is_at_or_below q.owner root) 0 v) top was now owners owners → IsMoved unmoved top was now owners owners
doubt_moved root top was now owners is = moved_like (λ q v. after_settle (is_at_or_below q.owner root) 0 v) unmoved top was now owners owners (λ q v. after_zero (is_at_or_below q.owner root) v) is

pub doubt_items : (root : Labels) (names : ℕ) (was now : List Settling) → root ≡ [] → now ≡ without_outdone root 0 was ++ record { zone = root; number = 0; left = names } ∷ [] → now ≡ without_outdone [] 0 was ++ doubting names ∷ []
doubt_items root names was now is at = at ∙ ap (λ (z : Labels). without_outdone z 0 was ++ record { zone = z; number = 0; left = names } ∷ []) is

-- those of number 0 that it outdoes, and itself, change no version
fold_doubt : (name : Labels) (settlings : List Settling) (v : ℕ) → settled_version (without_outdone [] 0 settlings) name v ≡ settled_version settlings name v
fold_doubt name [] v = refl
fold_doubt name (own ∷ later) v = split (is_outdone [] 0 own) refl (fold_doubt name later (later_settled name v own))
  where
    split : (b : Bool) → is_outdone [] 0 own ≡ b → settled_version (without_outdone [] 0 later) name (later_settled name v own) ≡ settled_version later name (later_settled name v own)
        → settled_version (cond (not b) (own ∷ without_outdone [] 0 later) (without_outdone [] 0 later)) name v ≡ settled_version later name (later_settled name v own)
    split false is rest = rest
    split true is rest =
        let low : nat_le own.number 0 ≡ true = (and_parts (nat_le own.number 0) (is_at_or_below own.zone []) is).0 in
        let zero : own.number ≡ 0 = grind (arith, nat_tests) in
        let same : later_settled name v own ≡ v = ap (λ n. after_settle (is_at_or_below name own.zone) n v) zero ∙ after_zero (is_at_or_below name own.zone) v in
        ap (settled_version (without_outdone [] 0 later) name) (sym same) ∙ rest

pub doubt_versions : (names : ℕ) (was now : List Settling) → now ≡ without_outdone [] 0 was ++ doubting names ∷ [] → (name : Labels) (v : ℕ) → settled_version now name v ≡ settled_version was name v
doubt_versions names was now at name v =
    ap (λ (l : List Settling). settled_version l name v) at
    ∙ (fold-append (later_settled name) v (without_outdone [] 0 was) (doubting names ∷ [])
    ∙ (after_zero (is_at_or_below name []) (settled_version (without_outdone [] 0 was) name v)
    ∙ fold_doubt name was v))

-- number 0 reaches each name at once
pub reach_zero : {S : Type 0} (zone : Labels) (number top from to : ℕ) (owners : IndexMap Labels OwnerCells S) → number ≡ 0 → AreUpTo top owners → IsReaching zone number top from to owners owners
reach_zero zone number top from to owners none upto = record {
  cells = λ q v. refl;
  upto = upto;
  about = λ is. is;
  reached = λ is q v far. ap (cell_of owners q) (ap (λ n. after_settle (is_at_or_below q.owner zone) n v) none ∙ after_zero (is_at_or_below q.owner zone) v);
  others = λ own is. is;
}

-- ---- another flush becomes permanent

below_below : (name zone other : Labels) → is_at_or_below name zone ≡ true → is_at_or_below zone other ≡ true → is_at_or_below name other ≡ true
below_below [] zone other is below = subst (λ (n : Labels). is_at_or_below n other ≡ true) (sym (name_eq_exact [] zone is)) below
below_below (label ∷ labels) zone other is below = elim (either (name_eq (label ∷ labels) zone) (is_at_or_below labels zone) is) [
  | inl same ↦ subst (λ (n : Labels). is_at_or_below n other ≡ true) (sym (name_eq_exact (label ∷ labels) zone same)) below
  | inr later ↦ or_right (name_eq (label ∷ labels) other) (is_at_or_below labels other) (below_below labels zone other later below)
]

-- a flush that covers all that an older one covers leaves nothing of it to be seen
outdone : (own : Settling) (zone : Labels) (number : ℕ) → is_outdone zone number own ≡ true → (name : Labels) (v : ℕ)
    → after_settle (is_at_or_below name own.zone) own.number (after_settle (is_at_or_below name zone) number v) ≡ after_settle (is_at_or_below name zone) number v
outdone own zone number is name v = split (is_at_or_below name own.zone) refl
  where
    parts : (nat_le own.number number ≡ true) × (is_at_or_below own.zone zone ≡ true)
    parts = and_parts _ _ is

    newer : own.number ≤ number
    newer = let low = parts.0 in grind (arith, nat_tests, low)

    split : (b : Bool) → is_at_or_below name own.zone ≡ b → after_settle b own.number (after_settle (is_at_or_below name zone) number v) ≡ after_settle (is_at_or_below name zone) number v
    split true here = ap (λ b. max own.number (after_settle b number v)) covered ∙ (max_over own.number number v newer ∙ sym (ap (λ b. after_settle b number v) covered))
      where
        covered : is_at_or_below name zone ≡ true
        covered = below_below name own.zone zone here parts.1

        max_over : (m n v : ℕ) → m ≤ n → max m (max n v) ≡ max n v
        max_over m n v le = omega (arith, le)
    split false off = refl

-- nor do those that go
all_outdone : (settlings : List Settling) (zone : Labels) (number : ℕ) (name : Labels) (v : ℕ)
    → settled_version (without_outdone zone number settlings) name (after_settle (is_at_or_below name zone) number v) ≡ settled_version settlings name (after_settle (is_at_or_below name zone) number v)
all_outdone [] zone number name v = refl
all_outdone (own ∷ later) zone number name v = split (not (is_outdone zone number own)) refl (all_outdone later zone number name)
  where
    split : (b : Bool) → not (is_outdone zone number own) ≡ b
        → ((w : ℕ) → settled_version (without_outdone zone number later) name (after_settle (is_at_or_below name zone) number w) ≡ settled_version later name (after_settle (is_at_or_below name zone) number w))
        → settled_version (cond b (own ∷ without_outdone zone number later) (without_outdone zone number later)) name (after_settle (is_at_or_below name zone) number v)
        ≡ settled_version later name (after_settle (is_at_or_below name own.zone) own.number (after_settle (is_at_or_below name zone) number v))
    split true stays rest =
        let turned : after_settle (is_at_or_below name own.zone) own.number (after_settle (is_at_or_below name zone) number v) ≡ after_settle (is_at_or_below name zone) number (after_settle (is_at_or_below name own.zone) own.number v) =
        either_first (is_at_or_below name own.zone) (is_at_or_below name zone) own.number number v in
        ap (settled_version (without_outdone zone number later) name) turned
        ∙ (rest (after_settle (is_at_or_below name own.zone) own.number v) ∙ sym (ap (settled_version later name) turned))
    split false goes rest = rest v ∙ sym (ap (settled_version later name) (outdone own zone number (not_false (is_outdone zone number own) goes) name v))

pub moved_zone : {S : Type 0} (top : ℕ) (zone : Labels) (number left : ℕ) (was now : List Settling) (owners : IndexMap Labels OwnerCells S) → number ≤ top → AreUpTo top owners → AllByRecursion (IsSettling top owners) was → left ≡ length owners.entries
    → now ≡ without_outdone zone number was ++ record { zone = zone; number = number; left = left } ∷ [] → IsMoved (λ q v. after_settle (is_at_or_below q.owner zone) number v) top was now owners owners
moved_zone top zone number left was now owners older upto all size at = subst (λ (l : List Settling). IsMoved (λ q v. after_settle (is_at_or_below q.owner zone) number v) top was l owners owners) (sym at) (record {
  cells = λ q v. ap (cell_of owners q) (
      fold-append (later_settled q.owner) v (without_outdone zone number was) (own ∷ [])
      ∙ (sym (version_from (without_outdone zone number was) q.owner (is_at_or_below q.owner zone) number v) ∙ all_outdone was zone number q.owner v));
  upto = upto;
  about = λ is. is;
  settling = all_push (IsSettling top owners) (without_outdone zone number was) own (all_kept (IsSettling top owners) (λ x. not (is_outdone zone number x)) was all)
      (record { older = older; reached = past_reached zone number left owners (omega (arith, size)) });
})
  where
    own : Settling
    own = record { zone = zone; number = number; left = left }

-- ---- cells that stay, and an admission

module _ {S : Type 0} (top : ℕ) (old new : IndexMap Labels OwnerCells S) (name : Labels) (names : (keys_of new.entries ≡ keys_of old.entries) ⊎ (keys_of new.entries ≡ keys_of old.entries ++ name ∷ [])) where
  -- a name that was reached was so before
  was_reached : (own : Settling) → AreReached own.zone own.number own.left old → (q : Question) (v : ℕ) → own.left ≤ name_place q.owner new.entries → cell_of old q (after_settle (is_at_or_below q.owner own.zone) own.number v) ≡ cell_of old q v
  was_reached own is q v far = reached_low own.zone own.number own.left old is q v
      (place_before old.entries new.entries name q.owner (min own.left (length old.entries)) names (omega arith) (omega (arith, far)))

  kept_own : AreSameCells old new → (own : Settling) → IsSettling top old own → IsSettling top new own
  kept_own same own is = record {
    older = is.older;
    reached = λ q v far. same q (after_settle (is_at_or_below q.owner own.zone) own.number v) ∙ (was_reached own is.reached q v far ∙ sym (same q v));
  }

  pub kept_settling : AreSameCells old new → (settlings : List Settling) → AllByRecursion (IsSettling top old) settlings → AllByRecursion (IsSettling top new) settlings
  kept_settling same settlings all = all_each (IsSettling top old) (IsSettling top new) settlings (kept_own same) all

  module _ (find : Find) (moment : ℕ) (cells : (q : Question) (v : ℕ) → v ≤ top → cell_of new q v ≡ after_touch (touches find q) (cell_of old q v) (admission_of find find moment)) where
    low_or_past : (v : ℕ) → (v ≤ top) ⊎ (top < v)
    low_or_past v = grind arith

    admitted_own : (own : Settling) → IsSettling top old own → IsSettling top new own
    admitted_own own is = record { older = is.older; reached = λ q v far. at q v far (low_or_past v) }
      where
        at : (q : Question) (v : ℕ) → own.left ≤ name_place q.owner new.entries → (v ≤ top) ⊎ (top < v) → cell_of new q (after_settle (is_at_or_below q.owner own.zone) own.number v) ≡ cell_of new q v
        at q v far (inl low) =
            cells q (after_settle (is_at_or_below q.owner own.zone) own.number v) (after_low (is_at_or_below q.owner own.zone) own.number v top is.older low)
            ∙ (ap (λ (h : Option (Admitted Find)). after_touch (touches find q) h (admission_of find find moment)) (was_reached own is.reached q v far)
            ∙ sym (cells q v low))
        at q v far (inr late) = ap (cell_of new q) (after_late (is_at_or_below q.owner own.zone) own.number v (omega (arith, is.older, late)))

    pub admitted_settling : (settlings : List Settling) → AllByRecursion (IsSettling top old) settlings → AllByRecursion (IsSettling top new) settlings
    admitted_settling settlings all = all_each (IsSettling top old) (IsSettling top new) settlings admitted_own all

pub held_settling : {S : Type 0} {T E : Type 0} (old new : IndexMap Labels OwnerCells S) (find : Find) (moment top was stored : ℕ) (result : Result T E)
    → OnOk result ((q : Question) (v : ℕ) → v ≤ top → cell_of new q v ≡ after_touch (touches find q) (cell_of old q v) (admission_of find find moment))
    → OnErr result (AreSameCells old new × (stored ≡ was) × KeepPairs old new) → (keys_of new.entries ≡ keys_of old.entries) ⊎ (keys_of new.entries ≡ keys_of old.entries ++ find.owner ∷ [])
    → (settlings : List Settling) → AllByRecursion (IsSettling top old) settlings → AllByRecursion (IsSettling top new) settlings
held_settling old new find moment top was stored (Ok done) cells same names settlings all = admitted_settling top old new find.owner names find moment cells settlings all
held_settling old new find moment top was stored (Err fault) cells same names settlings all = kept_settling top old new find.owner names same.0 settlings all

pub newer_settling : {S : Type 0} (top more : ℕ) (owners : IndexMap Labels OwnerCells S) → top ≤ more → (settlings : List Settling) → AllByRecursion (IsSettling top owners) settlings → AllByRecursion (IsSettling more owners) settlings
newer_settling top more owners le settlings all = all_each (IsSettling top owners) (IsSettling more owners) settlings (λ own was. record { older = omega (arith, le, was.older); reached = was.reached }) all

-- ---- a name has gone

at_most : (test : Labels → Bool) (entries : List (Labels × OwnerCells)) (i : ℕ) (e : Labels × OwnerCells) → slice_get entries i ≡ Some e → test e.0 ≡ true → position_or_len test (keys_of entries) ≤ i
at_most test [] i e is passes = let none : None ≡ Some e = is in absurd cc
at_most test (x ∷ entries) zero e is passes =
    let some : Some x ≡ Some e = is in
    let one : x ≡ e = cc in
    let here : test x.0 ≡ true = ap (λ (y : Labels × OwnerCells). test y.0) one ∙ passes in
    omega (arith, ap (λ b. cond (not b) (1 + position_or_len test (keys_of entries)) 0) here)
at_most test (x ∷ entries) (suc i) e is passes = split (test x.0) (at_most test entries i e is passes)
  where
    split : (b : Bool) → position_or_len test (keys_of entries) ≤ i → cond (not b) (1 + position_or_len test (keys_of entries)) 0 ≤ suc i
    split true later = omega arith
    split false later = omega (arith, later)

-- The entry at a place passes a test.
pub record IsThere (test : Labels → Bool) (entries : List (Labels × OwnerCells)) (place : ℕ) : Type 0 where
  pub entry : Labels × OwnerCells
  pub read : slice_get entries place ≡ Some entry
  pub passes : test entry.0 ≡ true

there : (test : Labels → Bool) (entries : List (Labels × OwnerCells)) → position_or_len test (keys_of entries) < length entries → IsThere test entries (position_or_len test (keys_of entries))
there test [] low = absurd (omega (arith, low))
there test (x ∷ entries) low = split (test x.0) refl low (there test entries)
  where
    split : (b : Bool) → test x.0 ≡ b → cond (not b) (1 + position_or_len test (keys_of entries)) 0 < suc (length entries)
        → (position_or_len test (keys_of entries) < length entries → IsThere test entries (position_or_len test (keys_of entries))) → IsThere test (x ∷ entries) (cond (not b) (1 + position_or_len test (keys_of entries)) 0)
    split true is low later = record { entry = x; read = refl; passes = is }
    split false is low later =
        let it = later (omega (arith, low)) in
        let next : suc (position_or_len test (keys_of entries)) ≡ 1 + position_or_len test (keys_of entries) = omega arith in
        subst (λ n. IsThere test (x ∷ entries) n) next (record { entry = it.entry; read = it.read; passes = it.passes })

swapped_length : (entries : List (Labels × OwnerCells)) (place : ℕ) (d : Labels × OwnerCells) → length (swap_remove entries place d) ≡ length entries - 1
swapped_length entries place d =
    length-take-le (length entries - 1) (set entries place (get_or entries (length entries - 1) d)) (omega (arith, length-set entries place (get_or entries (length entries - 1) d)))

module _ (owner name : Labels) (apart : name_eq owner name ≡ false) (entries : List (Labels × OwnerCells)) (left : ℕ) (within : left ≤ length entries) (d : Labels × OwnerCells) (place : ℕ) (low : place < length entries) (gone : IsThere (name_eq owner) entries place) where
  not_there : name_place name entries < length entries → name_place name entries ≡ place → ⊥
  not_there few same =
      let it = there (name_eq name) entries few in
      let both : Some it.entry ≡ Some gone.entry = sym it.read ∙ (ap (slice_get entries) same ∙ gone.read) in
      let one : it.entry ≡ gone.entry = cc in
      let owns : owner ≡ it.entry.0 = name_eq_exact owner gone.entry.0 gone.passes ∙ ap (λ (e : Labels × OwnerCells). e.0) (sym one) in
      let names : name ≡ it.entry.0 = name_eq_exact name it.entry.0 it.passes in
      false≢true (sym apart ∙ (ap (name_eq owner) (names ∙ sym owns) ∙ name_equiv.refl owner))

  pub swapped_place : min left (length (swap_remove entries place d)) ≤ name_place name (swap_remove entries place d) → left ≤ name_place name entries
  swapped_place far = elim (lt_or (name_place name entries) left) [
    | inr done ↦ done
    | inl before ↦
        let few : name_place name entries < length entries = omega (arith, before, within) in
        let it = there (name_eq name) entries few in
        let size = swapped_length entries place d in
        let moved : Labels × OwnerCells = get_or entries (length entries - 1) d in
        elim (lt_or (name_place name entries) (length entries - 1)) [
          | inl early ↦
              let read : slice_get (swap_remove entries place d) (name_place name entries) ≡ Some it.entry =
              get_take (length entries - 1) (set entries place moved) (name_place name entries) early ∙ (get_set_other entries place (name_place name entries) moved (not_there few) ∙ it.read) in
              let most = at_most (name_eq name) (swap_remove entries place d) (name_place name entries) it.entry read it.passes in
              absurd (omega (arith, most, far, before, early, size))
          | inr last ↦
              let at : name_place name entries ≡ length entries - 1 = omega (arith, last, few) in
              let earlier : place < length entries - 1 = apart_low place (name_place name entries) (length entries) low few at (not_there few) in
              let same : Some moved ≡ Some it.entry = sym (get_some entries (length entries - 1) d (omega (arith, low))) ∙ (ap (slice_get entries) (sym at) ∙ it.read) in
              let read : slice_get (swap_remove entries place d) place ≡ Some it.entry =
              get_take (length entries - 1) (set entries place moved) place earlier ∙ (get_set_same entries place moved low ∙ same) in
              let most = at_most (name_eq name) (swap_remove entries place d) place it.entry read it.passes in
              absurd (omega (arith, most, far, before, earlier, size, at))
        ]
  ]
    where
      apart_low : (p j n : ℕ) → p < n → j < n → j ≡ n - 1 → (j ≡ p → ⊥) → p < n - 1
      apart_low p j n low few at off = elim (lt_or p (n - 1)) [ inl so ↦ so | inr not ↦ absurd (off (omega (arith, low, few, at, not))) ]

gone_place : (owner name : Labels) → name_eq owner name ≡ false → (entries : List (Labels × OwnerCells)) (left : ℕ) → left ≤ length entries
    → min left (length (swap_remove_entry (name_eq owner) entries)) ≤ name_place name (swap_remove_entry (name_eq owner) entries) → left ≤ name_place name entries
gone_place owner name apart [] left within far = omega (arith, within)
gone_place owner name apart (e ∷ entries) left within far = split (nat_lt place (length (keys_of (e ∷ entries)))) refl far
  where
    place : ℕ
    place = position_or_len (name_eq owner) (keys_of (e ∷ entries))

    after : Bool → List (Labels × OwnerCells)
    after b = option_map_or (λ i. swap_remove (e ∷ entries) i e) (cond b (Some place) None) (e ∷ entries)

    split : (b : Bool) → nat_lt place (length (keys_of (e ∷ entries))) ≡ b → min left (length (after b)) ≤ name_place name (after b) → left ≤ name_place name (e ∷ entries)
    split true low far =
        let few : place < length (e ∷ entries) = grind (arith, nat_tests, length-keys_of (e ∷ entries)) in
        swapped_place owner name apart (e ∷ entries) left within e place few (there (name_eq owner) (e ∷ entries) few) far
    split false high far = omega (arith, far, within)

module _ {S : Type 0} (top : ℕ) (old new : IndexMap Labels OwnerCells S) (owner : Labels) (cells : (q : Question) (v : ℕ) → cell_of new q v ≡ cond (name_eq owner q.owner) None (cell_of old q v)) where
  forgot_own : new.entries ≡ swap_remove_entry (name_eq owner) old.entries → (own : Settling) → IsSettling top old own → IsSettling top new own
  forgot_own put own is = record { older = is.older; reached = λ q v far. split q v far (name_eq owner q.owner) refl }
    where
      split : (q : Question) (v : ℕ) → own.left ≤ name_place q.owner new.entries → (b : Bool) → name_eq owner q.owner ≡ b → cell_of new q (after_settle (is_at_or_below q.owner own.zone) own.number v) ≡ cell_of new q v
      split q v far true same =
          cells q (after_settle (is_at_or_below q.owner own.zone) own.number v)
          ∙ (ap (λ b. cond b None (cell_of old q (after_settle (is_at_or_below q.owner own.zone) own.number v))) same
          ∙ sym (cells q v ∙ ap (λ b. cond b None (cell_of old q v)) same))
      split q v far false apart =
          let gone : min (min own.left (length old.entries)) (length (swap_remove_entry (name_eq owner) old.entries)) ≤ name_place q.owner (swap_remove_entry (name_eq owner) old.entries) =
          subst (λ (l : List (Labels × OwnerCells)). min (min own.left (length old.entries)) (length l) ≤ name_place q.owner l) put (omega (arith, far)) in
          let far' : min own.left (length old.entries) ≤ name_place q.owner old.entries = gone_place owner q.owner apart old.entries (min own.left (length old.entries)) (omega arith) gone in
          cells q (after_settle (is_at_or_below q.owner own.zone) own.number v)
          ∙ (ap (λ b. cond b None (cell_of old q (after_settle (is_at_or_below q.owner own.zone) own.number v))) apart
          ∙ (reached_low own.zone own.number own.left old is.reached q v far'
          ∙ sym (cells q v ∙ ap (λ b. cond b None (cell_of old q v)) apart)))

  pub forgot_settling : new.entries ≡ swap_remove_entry (name_eq owner) old.entries → (settlings : List Settling) → AllByRecursion (IsSettling top old) settlings → AllByRecursion (IsSettling top new) settlings
  forgot_settling put settlings all = all_each (IsSettling top old) (IsSettling top new) settlings (forgot_own put) all
