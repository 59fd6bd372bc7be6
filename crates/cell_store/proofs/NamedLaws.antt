-- Each name of the index has a place that counts, and no column without a find.
use Rattle.std.proofs.Common.{◌≡◌, ℕ, zero, suc, ◌≤◌, Bool, true, false, cond, Option, Some, None, List, [], ◌∷◌, length, refl, sym, ap, ◌∙◌, subst, arith, ◌⊎◌, inl, inr}
use Rattle.std.specs.Prelude.{is_some, slice_get, IfSome, Result, Ok, Err, OnOk, OnErr}
use Rattle.std.specs.Map.{lookup, set_value}
use Rattle.std.proofs.lemmas.Bool.{eq-eqb, false≢true}
use Rattle.indexmap.specs.IndexMap.{insert_entry, set_value_at}
use Rattle.dns_name.specs.Labels.{Labels}
use Rattle.dns_name.specs.Order.{name_eq}
use Rattle.ranked.specs.declared.find.Find.{Find}
use Rattle.ranked.specs.declared.find.Scope.{Scope}
use Rattle.ranked.specs.declared.find.Scope.TheVariants.{One, Whole}
use Rattle.ranked.specs.declared.cell.Admitted.{Admitted}
use Rattle.ranked.specs.Cell.{after_admission, turns_away}
use Rattle.ranked.specs.Find.{has_kind}
use Rattle.cell_store.specs.declared.owner.OwnerCells.{OwnerCells}
use Rattle.cell_store.specs.Owner.{after_touch, cell_in, HasSameCells}
use Rattle.cell_store.specs.Count.{count_of, HasSamePlaces, IsInUse, IsTidy}
use Rattle.cell_store.specs.Store.{EachCounts}
use Rattle.cell_store.proofs.HeldLaws.{uncounted_cell}

-- ---- a name that has a find

none_or_some : (n : ℕ) → (n ≡ 0) ⊎ (1 ≤ n)
none_or_some zero = inl refl
none_or_some (suc n) = inr (omega arith)

found_count : (cells : OwnerCells) (k v : ℕ) → is_some (cell_in cells k v) ≡ true → 1 ≤ count_of cells
found_count cells k v found = elim (none_or_some (count_of cells)) [
  | inl none ↦ absurd (false≢true (sym (ap is_some (uncounted_cell cells k v none)) ∙ found))
  | inr some ↦ some
]

pub admission_found : (old : Option (Admitted Find)) (new : Admitted Find) → is_some (after_admission old new) ≡ true
admission_found None new = refl
admission_found (Some held) new = split (turns_away (Some held) new)
  where
    split : (b : Bool) → is_some (cond b (Some held) (Some new)) ≡ true
    split true = refl
    split false = refl

-- a type that a find of this scope is about
abbrev kind_of : Scope → ℕ
kind_of (One kind) = kind
kind_of Whole = 0

kind_there : (scope : Scope) → has_kind scope (kind_of scope) ≡ true
kind_there (One kind) = eq-eqb kind kind refl
kind_there Whole = refl

pub admitted_count : (old new : OwnerCells) (scope : Scope) (top : ℕ) (a : Admitted Find) → ((k v : ℕ) → v ≤ top → cell_in new k v ≡ after_touch (has_kind scope k) (cell_in old k v) a) → 1 ≤ count_of new
admitted_count old new scope top a cells = found_count new (kind_of scope) 0 (
    ap is_some (cells (kind_of scope) 0 (omega arith) ∙ ap (λ b. after_touch b (cell_in old (kind_of scope) 0) a) (kind_there scope))
    ∙ admission_found (cell_in old (kind_of scope) 0) a)

-- the same, or nothing has changed
pub held_count : {T E : Type 0} (result : Result T E) (old new : OwnerCells) (scope : Scope) (top : ℕ) (a : Admitted Find) → OnOk result ((k v : ℕ) → v ≤ top → cell_in new k v ≡ after_touch (has_kind scope k) (cell_in old k v) a)
    → OnErr result (HasSameCells old new × HasSamePlaces old new) → 1 ≤ count_of old → 1 ≤ count_of new
held_count (Ok done) old new scope top a cells same was = admitted_count old new scope top a cells
held_count (Err fault) old new scope top a cells same was = omega (arith, same.1.count, was)

-- a column more is there only if a find of the whole name is cached
pub opened_use : (old new : OwnerCells) → HasSamePlaces old new → (old.whole ≡ None → new ≡ old) → IsInUse old → IsInUse new
opened_use old new same still was = (
  omega (arith, same.count, was.0),
  λ none. let one : new ≡ old = still (none_of old.whole (sym (same.places Whole) ∙ ap is_some none)) in subst (λ (c : OwnerCells). length c.kinds.items ≤ count_of c) (sym one) (was.1 (ap (λ (c : OwnerCells). c.whole) (sym one) ∙ none)),
)
  where
    none_of : {A : Type 0} (o : Option A) → is_some o ≡ false → o ≡ None
    none_of None is = refl
    none_of (Some a) is = absurd (false≢true (sym is))

-- ---- the cells of one name are replaced

-- the cells of the name at a place
pub used_at : (entries : List (Labels × OwnerCells)) (place : ℕ) (key : Labels) (cells : OwnerCells) → slice_get entries place ≡ Some (key, cells) → EachCounts entries → IsInUse cells
used_at [] place key cells at each = let none : None ≡ Some (key, cells) = at in absurd cc
used_at (e ∷ entries) zero key cells at each =
    let there : Some e ≡ Some (key, cells) = at in
    let one : e ≡ (key, cells) = cc in
    subst (λ (x : Labels × OwnerCells). IsInUse x.1) one (each 0)
used_at (e ∷ entries) (suc place) key cells at each = used_at entries place key cells at (λ i. each (suc i))

pub each_at : (entries : List (Labels × OwnerCells)) (place : ℕ) (new : OwnerCells) → IsInUse new → EachCounts entries → (i : ℕ) → IfSome (slice_get (set_value_at entries place new) i) (λ entry. IsInUse entry.1)
each_at [] place new one each i = each i
each_at (e ∷ entries) zero new one each zero = one
each_at (e ∷ entries) zero new one each (suc i) = each (suc i)
each_at (e ∷ entries) (suc place) new one each zero = each 0
each_at (e ∷ entries) (suc place) new one each (suc i) = each_at entries place new one (λ j. each (suc j)) i

pub each_put : (name : Labels) (entries : List (Labels × OwnerCells)) (new : OwnerCells) → IsInUse new → EachCounts entries → (i : ℕ) → IfSome (slice_get (insert_entry name_eq entries name new) i) (λ entry. IsInUse entry.1)
each_put name [] new one each zero = one
each_put name [] new one each (suc i) = tt
each_put name (e ∷ entries) new one each i = split (name_eq name e.0) i (each_put name entries new one (λ j. each (suc j)))
  where
    split : (b : Bool) (i : ℕ) → ((j : ℕ) → IfSome (slice_get (insert_entry name_eq entries name new) j) (λ entry. IsInUse entry.1))
        → IfSome (slice_get (cond b ((e.0, new) ∷ entries) (e ∷ insert_entry name_eq entries name new)) i) (λ entry. IsInUse entry.1)
    split true zero later = one
    split true (suc i) later = each (suc i)
    split false zero later = each 0
    split false (suc i) later = later i

pub each_set : (test : Labels → Bool) (entries : List (Labels × OwnerCells)) (old new : OwnerCells) → lookup test entries ≡ Some old → (IsInUse old → IsInUse new) → EachCounts entries
    → (i : ℕ) → IfSome (slice_get (set_value test entries new) i) (λ entry. IsInUse entry.1)
each_set test [] old new held step each i = each i
each_set test (e ∷ entries) old new held step each i = split (test e.0) i held (λ there. each_set test entries old new there step (λ j. each (suc j)))
  where
    split : (b : Bool) (i : ℕ) → cond b (Some e.1) (lookup test entries) ≡ Some old → (lookup test entries ≡ Some old → (j : ℕ) → IfSome (slice_get (set_value test entries new) j) (λ entry. IsInUse entry.1))
        → IfSome (slice_get (cond b ((e.0, new) ∷ entries) (e ∷ set_value test entries new)) i) (λ entry. IsInUse entry.1)
    split true zero there later =
        let one : Some e.1 ≡ Some old = there in
        let cells : e.1 ≡ old = cc in
        step (subst (λ (c : OwnerCells). IsInUse c) cells (each 0))
    split true (suc i) there later = each (suc i)
    split false zero there later = each 0
    split false (suc i) there later = later there i

-- the cells of the name at a place count as many places, and are tidy now
pub now_used : (entries : List (Labels × OwnerCells)) (place : ℕ) (key : Labels) (old new : OwnerCells) → slice_get entries place ≡ Some (key, old) → HasSamePlaces old new → IsTidy new
    → IfSome (slice_get entries place) (λ entry. 1 ≤ count_of entry.1) → IfSome (slice_get (set_value_at entries place new) place) (λ entry. IsInUse entry.1)
now_used [] place key old new at same tidy some = let none : None ≡ Some (key, old) = at in absurd cc
now_used (e ∷ entries) zero key old new at same tidy some =
    let there : Some e ≡ Some (key, old) = at in
    let one : e ≡ (key, old) = cc in
    (omega (arith, some, same.count, ap (λ (x : Labels × OwnerCells). count_of x.1) one), tidy)
now_used (e ∷ entries) (suc place) key old new at same tidy some = now_used entries place key old new at same tidy some
