-- The cells of all names, when those of one have changed.
use Rattle.std.proofs.Common.{◌≡◌, ℕ, zero, suc, ◌+◌, ◌≤◌, max, Bool, true, false, cond, Option, Some, None, List, [], ◌∷◌, refl, sym, ap, ◌∙◌, subst, arith, slice_get, inl, inr}
use Rattle.std.specs.Prelude.{◌==◌, ◌&&◌, ◌||◌, not, nat_lt, position, is_some, length, IfSome, Result, Ok, Err, OnOk}
use Rattle.std.specs.Option.{option_map_or}
use Rattle.std.proofs.lemmas.Bool.{cases_Bool, eq-eqb, false≢true}
use Rattle.std.specs.List.{AllByRecursion, list_any, position_or_len}
use Rattle.std.specs.Map.{keys_of, lookup}
use Rattle.indexmap.specs.IndexMap.{IndexMap, get, set_value_at, with_entries, with_value_at, IsUnique, Updates}
use Rattle.indexmap.proofs.MapLemmas.{some_index}
use Rattle.indexmap.proofs.CallerLemmas.{index_map_len-with_value_at, updates-with_value_at}
use Rattle.dns_name.specs.Labels.{Labels}
use Rattle.dns_name.specs.Order.{name_eq, name_eq_exact, name_equiv}
use Rattle.dns_text.specs.declared.record.Question.{Question}
use Rattle.ranked.specs.declared.find.Find.{Find}
use Rattle.ranked.specs.declared.find.Scope.{Scope}
use Rattle.ranked.specs.declared.cell.Admitted.{Admitted}
use Rattle.ranked.specs.Find.{touches, has_kind}
use Rattle.ranked.specs.Cell.{after_admission}
use Rattle.cell_store.specs.declared.owner.OwnerCells.{OwnerCells}
use Rattle.dns_name.specs.Below.{is_at_or_below}
use Rattle.cell_store.specs.Owner.{cell_in, CanSettle, HasSameCells, IsUpTo}
use Rattle.cell_store.specs.Store.{cell_by_owner, cell_of, name_place, AreSameCells, AreUpTo, CanSettleAt, StayBut, StayButAt}
use Rattle.cell_store.specs.Count.{has_pair, has_place, pair_eq, scope_eq, AddPair, KeepPairs, KeepsPlaces}
use Rattle.cell_store.specs.StoredLaws.{others_at}
use Rattle.cell_store.specs.TestLaws.{or_right}

module _ {S : Type 0} (old before after : IndexMap Labels OwnerCells S) (owner key : Labels) (new : OwnerCells) (known : before ≡ old) (one : key ≡ owner) (updates : Updates name_eq before after key (Some new)) where
  read : (q : Question) (v : ℕ) → cell_of after q v ≡ cell_by_owner (cond (name_eq owner q.owner) (Some new) (get name_eq old q.owner)) q.kind v
  read q v =
      let h : Updates name_eq old after owner (Some new) =
      subst (λ (m : IndexMap Labels OwnerCells S). Updates name_eq m after owner (Some new)) known (subst (λ (k : Labels). Updates name_eq before after k (Some new)) one updates) in
      ap (λ (o : Option OwnerCells). cell_by_owner o q.kind v) (h.0 q.owner)

  -- an admission
  pub cells_admitted : (find : Find) (adm : Admitted Find) (top : ℕ) → owner ≡ find.owner
      → ((k v : ℕ) → v ≤ top → cell_in new k v ≡ cond (has_kind find.scope k) (after_admission (cell_by_owner (get name_eq old owner) k v) adm) (cell_by_owner (get name_eq old owner) k v))
      → (q : Question) (v : ℕ) → v ≤ top → cell_of after q v ≡ cond (touches find q) (after_admission (cell_of old q v) adm) (cell_of old q v)
  cells_admitted find adm top is step q v low =
      read q v
      ∙ (split (name_eq owner q.owner) refl
      ∙ ap (λ (n : Labels). cond (name_eq n q.owner && has_kind find.scope q.kind) (after_admission (cell_of old q v) adm) (cell_of old q v)) is)
    where
      split : (b : Bool) → name_eq owner q.owner ≡ b → cell_by_owner (cond b (Some new) (get name_eq old q.owner)) q.kind v
          ≡ cond (name_eq owner q.owner && has_kind find.scope q.kind) (after_admission (cell_of old q v) adm) (cell_of old q v)
      split true same =
          step q.kind v low
          ∙ (ap (λ (n : Labels). cond (has_kind find.scope q.kind) (after_admission (cell_by_owner (get name_eq old n) q.kind v) adm) (cell_by_owner (get name_eq old n) q.kind v)) (name_eq_exact owner q.owner same)
          ∙ sym (ap (λ b. cond (b && has_kind find.scope q.kind) (after_admission (cell_of old q v) adm) (cell_of old q v)) same))
      split false apart = sym (ap (λ b. cond (b && has_kind find.scope q.kind) (after_admission (cell_of old q v) adm) (cell_of old q v)) apart)

  -- no change
  pub cells_kept : ((k v : ℕ) → cell_in new k v ≡ cell_by_owner (get name_eq old owner) k v) → (q : Question) (v : ℕ) → cell_of after q v ≡ cell_of old q v
  cells_kept step q v = read q v ∙ split (name_eq owner q.owner) refl
    where
      split : (b : Bool) → name_eq owner q.owner ≡ b → cell_by_owner (cond b (Some new) (get name_eq old q.owner)) q.kind v ≡ cell_of old q v
      split true same = step q.kind v ∙ ap (λ (n : Labels). cell_by_owner (get name_eq old n) q.kind v) (name_eq_exact owner q.owner same)
      split false apart = refl

  -- a flush of some types is permanent
  pub cells_settled : (kinds : List ℕ) (number : ℕ) → ((k v : ℕ) → cell_in new k v ≡ cell_by_owner (get name_eq old owner) k (cond (list_any (λ kind. kind == k) kinds) (max number v) v))
      → (q : Question) (v : ℕ) → cell_of after q v ≡ cell_of old q (cond (name_eq owner q.owner && list_any (λ kind. kind == q.kind) kinds) (max number v) v)
  cells_settled kinds number step q v = read q v ∙ split (name_eq owner q.owner) refl
    where
      split : (b : Bool) → name_eq owner q.owner ≡ b → cell_by_owner (cond b (Some new) (get name_eq old q.owner)) q.kind v ≡ cell_of old q (cond (name_eq owner q.owner && list_any (λ kind. kind == q.kind) kinds) (max number v) v)
      split true same =
          step q.kind v ∙ (ap (λ (n : Labels). cell_by_owner (get name_eq old n) q.kind (cond (list_any (λ kind. kind == q.kind) kinds) (max number v) v)) (name_eq_exact owner q.owner same)
          ∙ sym (ap (λ b. cell_of old q (cond (b && list_any (λ kind. kind == q.kind) kinds) (max number v) v)) same))
      split false apart = sym (ap (λ b. cell_of old q (cond (b && list_any (λ kind. kind == q.kind) kinds) (max number v) v)) apart)

  -- flushes of types of the name can become permanent
  pub settles_updated : {T E : Type 0} (result : Result T E) (kinds : List ℕ) → OnOk result (AllByRecursion (λ kind. (n : ℕ) → CanSettle n kind new) kinds) → OnOk result (AllByRecursion (λ kind. (n : ℕ) → CanSettleAt n kind owner after) kinds)
  settles_updated (Err fault) kinds all = tt
  settles_updated (Ok done) kinds all =
      let h : Updates name_eq old after owner (Some new) =
      subst (λ (m : IndexMap Labels OwnerCells S). Updates name_eq m after owner (Some new)) known (subst (λ (k : Labels). Updates name_eq before after k (Some new)) one updates) in
      let there : get name_eq after owner ≡ Some new = h.0 owner ∙ ap (λ b. cond b (Some new) (get name_eq old owner)) (name_equiv.refl owner) in
      subst (λ (o : Option OwnerCells). AllByRecursion (λ kind. (n : ℕ) → IfSome o (CanSettle n kind)) kinds) (sym there) all

  -- a fact of the cells of each name
  pub each_updated : (P : OwnerCells → Type 0) → (IfSome (get name_eq old owner) P → P new) → (name : Labels) → IfSome (get name_eq old name) P → IfSome (get name_eq after name) P
  each_updated P step name was =
      let h : Updates name_eq old after owner (Some new) =
      subst (λ (m : IndexMap Labels OwnerCells S). Updates name_eq m after owner (Some new)) known (subst (λ (k : Labels). Updates name_eq before after k (Some new)) one updates) in
      subst (λ (o : Option OwnerCells). IfSome o P) (sym (h.0 name)) (split (name_eq owner name) refl)
    where
      split : (b : Bool) → name_eq owner name ≡ b → IfSome (cond b (Some new) (get name_eq old name)) P
      split true same = step (subst (λ (n : Labels). IfSome (get name_eq old n) P) (sym (name_eq_exact owner name same)) was)
      split false apart = was

  placed : (pair : Labels × Scope) → has_pair after pair ≡ option_map_or (λ cells. has_place cells pair.1) (cond (name_eq owner pair.0) (Some new) (get name_eq old pair.0)) false
  placed pair =
      let h : Updates name_eq old after owner (Some new) =
      subst (λ (m : IndexMap Labels OwnerCells S). Updates name_eq m after owner (Some new)) known (subst (λ (k : Labels). Updates name_eq before after k (Some new)) one updates) in
      ap (λ (o : Option OwnerCells). option_map_or (λ cells. has_place cells pair.1) o false) (h.0 pair.0)

  placed_other : (pair : Labels × Scope) → name_eq owner pair.0 ≡ false → has_pair after pair ≡ has_pair old pair
  placed_other pair apart = placed pair ∙ ap (λ b. option_map_or (λ cells. has_place cells pair.1) (cond b (Some new) (get name_eq old pair.0)) false) apart

  placed_here : (pair : Labels × Scope) → name_eq owner pair.0 ≡ true → has_pair after pair ≡ has_place new pair.1
  placed_here pair same = placed pair ∙ ap (λ b. option_map_or (λ cells. has_place cells pair.1) (cond b (Some new) (get name_eq old pair.0)) false) same

  -- no place counts that did not
  pub pairs_kept : ((scope : Scope) → has_place new scope ≡ true → has_pair old (owner, scope) ≡ true) → KeepPairs old after
  pairs_kept step pair has = elim (cases_Bool (name_eq owner pair.0)) [
    | inl same ↦ ap (λ (n : Labels). has_pair old (n, pair.1)) (sym (name_eq_exact owner pair.0 same)) ∙ step pair.1 (sym (placed_here pair same) ∙ has)
    | inr apart ↦ sym (placed_other pair apart) ∙ has
  ]

  -- no place counts that did not, but that of an admission
  pub pairs_added : (added : Scope) → ((scope : Scope) → has_place new scope ≡ true → (scope_eq added scope || has_pair old (owner, scope)) ≡ true) → AddPair (owner, added) old after
  pairs_added added step pair has = elim (cases_Bool (name_eq owner pair.0)) [
    | inl same ↦
        ap (λ b. (b && scope_eq added pair.1) || has_pair old pair) same
        ∙ (ap (λ (n : Labels). scope_eq added pair.1 || has_pair old (n, pair.1)) (sym (name_eq_exact owner pair.0 same)) ∙ step pair.1 (sym (placed_here pair same) ∙ has))
    | inr apart ↦ or_right (pair_eq (owner, added) pair) (has_pair old pair) (sym (placed_other pair apart) ∙ has)
  ]

-- all places are those that they were
pub pairs_same : {S : Type 0} (added : Labels × Scope) (old new : IndexMap Labels OwnerCells S) → new ≡ old → AddPair added old new
pairs_same added old new same pair has = or_right (pair_eq added pair) (has_pair old pair) (ap (λ (m : IndexMap Labels OwnerCells _). has_pair m pair) (sym same) ∙ has)

-- the cells of a name by another that is equal to them
pub by_held : (held : Option OwnerCells) (cells : OwnerCells) (b : Bool) (adm : Admitted Find) (k v : ℕ) → Some cells ≡ held
    → cond b (after_admission (cell_in cells k v) adm) (cell_in cells k v) ≡ cond b (after_admission (cell_by_owner held k v) adm) (cell_by_owner held k v)
by_held held cells b adm k v is = ap (λ (o : Option OwnerCells). cond b (after_admission (cell_by_owner o k v) adm) (cell_by_owner o k v)) is

pub by_none : (held : Option OwnerCells) (cells : OwnerCells) (b : Bool) (adm : Admitted Find) (k v : ℕ) → cell_in cells k v ≡ None → held ≡ None
    → cond b (after_admission (cell_in cells k v) adm) (cell_in cells k v) ≡ cond b (after_admission (cell_by_owner held k v) adm) (cell_by_owner held k v)
by_none held cells b adm k v empty none =
    ap (λ (h : Option (Admitted Find)). cond b (after_admission h adm) h) empty ∙ sym (ap (λ (o : Option OwnerCells). cond b (after_admission (cell_by_owner o k v) adm) (cell_by_owner o k v)) none)

-- ---- the name at a place

late : (n : ℕ) → ((1 + n) == 0) ≡ false
late n = grind arith

early : (place : ℕ) → (0 == suc place) ≡ false
early place = grind arith

next : (n place : ℕ) → ((1 + n) == suc place) ≡ (n == place)
next n place = grind arith

-- what a test finds, once the value at a place is another
found_at : (test : Labels → Bool) (entries : List (Labels × OwnerCells)) (place : ℕ) (key : Labels) (lent new : OwnerCells) → slice_get entries place ≡ Some (key, lent)
    → lookup test (set_value_at entries place new) ≡ cond (position_or_len test (keys_of entries) == place) (Some new) (lookup test entries)
found_at test [] place key lent new is = let none : None ≡ Some (key, lent) = is in absurd cc
found_at test (e ∷ entries) zero key lent new is = split (test e.0)
  where
    split : (b : Bool) → cond b (Some new) (lookup test entries) ≡ cond (cond (not b) (1 + position_or_len test (keys_of entries)) 0 == 0) (Some new) (cond b (Some e.1) (lookup test entries))
    split true = refl
    split false = sym (ap (λ c. cond c (Some new) (lookup test entries)) (late (position_or_len test (keys_of entries))))
found_at test (e ∷ entries) (suc place) key lent new is = split (test e.0) (found_at test entries place key lent new is)
  where
    split : (b : Bool) → lookup test (set_value_at entries place new) ≡ cond (position_or_len test (keys_of entries) == place) (Some new) (lookup test entries)
        → cond b (Some e.1) (lookup test (set_value_at entries place new)) ≡ cond (cond (not b) (1 + position_or_len test (keys_of entries)) 0 == suc place) (Some new) (cond b (Some e.1) (lookup test entries))
    split true later = sym (ap (λ c. cond c (Some new) (Some e.1)) (early place))
    split false later = later ∙ sym (ap (λ c. cond c (Some new) (lookup test entries)) (next (position_or_len test (keys_of entries)) place))

-- the first name that passes a test is at its place
there_at : (test : Labels → Bool) (entries : List (Labels × OwnerCells)) (place : ℕ) (key : Labels) (lent : OwnerCells) → slice_get entries place ≡ Some (key, lent)
    → (position_or_len test (keys_of entries) == place) ≡ true → (lookup test entries ≡ Some lent) × (test key ≡ true)
there_at test [] place key lent is at = let none : None ≡ Some (key, lent) = is in absurd cc
there_at test (e ∷ entries) zero key lent is at =
    let some : Some e ≡ Some (key, lent) = is in
    let one : e ≡ (key, lent) = cc in
    split (test e.0) refl one at
  where
    split : (b : Bool) → test e.0 ≡ b → e ≡ (key, lent) → (cond (not b) (1 + position_or_len test (keys_of entries)) 0 == 0) ≡ true → (cond b (Some e.1) (lookup test entries) ≡ Some lent) × (test key ≡ true)
    split true passes one at = (ap (λ (x : Labels × OwnerCells). Some x.1) one, ap (λ (x : Labels × OwnerCells). test x.0) (sym one) ∙ passes)
    split false passes one at = absurd (false≢true (sym (late (position_or_len test (keys_of entries))) ∙ at))
there_at test (e ∷ entries) (suc place) key lent is at = split (test e.0) at (there_at test entries place key lent is)
  where
    split : (b : Bool) → (cond (not b) (1 + position_or_len test (keys_of entries)) 0 == suc place) ≡ true
        → ((position_or_len test (keys_of entries) == place) ≡ true → (lookup test entries ≡ Some lent) × (test key ≡ true)) → (cond b (Some e.1) (lookup test entries) ≡ Some lent) × (test key ≡ true)
    split true at later = absurd (false≢true (sym (early place) ∙ at))
    split false at later = later (sym (next (position_or_len test (keys_of entries)) place) ∙ at)

keys_at : (entries : List (Labels × OwnerCells)) (place : ℕ) (new : OwnerCells) → keys_of (set_value_at entries place new) ≡ keys_of entries
keys_at [] place new = refl
keys_at (e ∷ entries) zero new = refl
keys_at (e ∷ entries) (suc place) new = ap (λ (l : List Labels). e.0 ∷ l) (keys_at entries place new)

pub stays_at : (entries : List (Labels × OwnerCells)) (place : ℕ) (new : OwnerCells) → StayButAt place entries (set_value_at entries place new)
stays_at entries place new = record { others = others_at entries place new; names = keys_at entries place new }

back_at : (entries : List (Labels × OwnerCells)) (place : ℕ) (key : Labels) (cells : OwnerCells) → slice_get entries place ≡ Some (key, cells) → set_value_at entries place cells ≡ entries
back_at [] place key cells is = refl
back_at (e ∷ entries) zero key cells is =
    let there : Some e ≡ Some (key, cells) = is in
    let one : e ≡ (key, cells) = cc in
    ap (λ (x : Labels × OwnerCells). (e.0, x.1) ∷ entries) (sym one)
back_at (e ∷ entries) (suc place) key cells is = ap (λ (l : List (Labels × OwnerCells)). e ∷ l) (back_at entries place key cells is)

-- the cells that a name has are put in their place
pub put_back : {S : Type 0} (owners : IndexMap Labels OwnerCells S) (place : ℕ) (key : Labels) (cells : OwnerCells) → slice_get owners.entries place ≡ Some (key, cells) → with_value_at owners place cells ≡ owners
put_back owners place key cells there = ap (with_entries owners) (back_at owners.entries place key cells there)

module _ {S : Type 0} (old new : IndexMap Labels OwnerCells S) (place : ℕ) (key : Labels) (lent cells : OwnerCells) (there : slice_get old.entries place ≡ Some (key, lent)) (put : new.entries ≡ set_value_at old.entries place cells) where
  at_place : (name : Labels) → get name_eq new name ≡ cond (name_place name old.entries == place) (Some cells) (get name_eq old name)
  at_place name = ap (λ (l : List (Labels × OwnerCells)). lookup (name_eq name) l) put ∙ found_at (name_eq name) old.entries place key lent cells there

  -- a flush of every type at or below a name is permanent there
  pub cells_at : (zone : Labels) (number : ℕ) → ((top : ℕ) → IsUpTo top lent → (k v : ℕ) → cell_in cells k v ≡ cell_in lent k (cond (is_at_or_below key zone) (max number v) v))
      → (top : ℕ) → AreUpTo top old → (q : Question) (v : ℕ) → cell_of new q v ≡ cell_of old q (cond (name_place q.owner old.entries == place && is_at_or_below q.owner zone) (max number v) v)
  cells_at zone number step top upto q v = ap (λ (o : Option OwnerCells). cell_by_owner o q.kind v) (at_place q.owner) ∙ split (name_place q.owner old.entries == place) refl
    where
      split : (b : Bool) → (name_place q.owner old.entries == place) ≡ b → cell_by_owner (cond b (Some cells) (get name_eq old q.owner)) q.kind v
          ≡ cell_of old q (cond (name_place q.owner old.entries == place && is_at_or_below q.owner zone) (max number v) v)
      split true at =
          let here = there_at (name_eq q.owner) old.entries place key lent there at in
          let same : q.owner ≡ key = name_eq_exact q.owner key here.1 in
          step top (subst (λ (o : Option OwnerCells). IfSome o (IsUpTo top)) here.0 (upto q.owner)) q.kind v
          ∙ (ap (λ (n : Labels). cell_in lent q.kind (cond (is_at_or_below n zone) (max number v) v)) (sym same)
          ∙ (ap (λ (o : Option OwnerCells). cell_by_owner o q.kind (cond (is_at_or_below q.owner zone) (max number v) v)) (sym here.0)
          ∙ ap (λ b. cell_of old q (cond (b && is_at_or_below q.owner zone) (max number v) v)) (sym at)))
      split false off = ap (λ b. cell_of old q (cond (b && is_at_or_below q.owner zone) (max number v) v)) (sym off)

  -- a fact of the cells of each name
  pub each_at : (P : OwnerCells → Type 0) → (P lent → P cells) → (name : Labels) → IfSome (get name_eq old name) P → IfSome (get name_eq new name) P
  each_at P step name was = subst (λ (o : Option OwnerCells). IfSome o P) (sym (at_place name)) (split (name_place name old.entries == place) refl)
    where
      split : (b : Bool) → (name_place name old.entries == place) ≡ b → IfSome (cond b (Some cells) (get name_eq old name)) P
      split true at = step (subst (λ (o : Option OwnerCells). IfSome o P) (there_at (name_eq name) old.entries place key lent there at).0 was)
      split false off = was

  -- no cell changes
  pub same_at : HasSameCells lent cells → AreSameCells old new
  same_at step q v = ap (λ (o : Option OwnerCells). cell_by_owner o q.kind v) (at_place q.owner) ∙ split (name_place q.owner old.entries == place) refl
    where
      split : (b : Bool) → (name_place q.owner old.entries == place) ≡ b → cell_by_owner (cond b (Some cells) (get name_eq old q.owner)) q.kind v ≡ cell_of old q v
      split true at = step q.kind v ∙ ap (λ (o : Option OwnerCells). cell_by_owner o q.kind v) (sym (there_at (name_eq q.owner) old.entries place key lent there at).0)
      split false off = refl

  -- no place counts that did not
  pub pairs_at : KeepsPlaces lent cells → KeepPairs old new
  pairs_at step pair has = split (name_place pair.0 old.entries == place) refl (sym (ap (λ (o : Option OwnerCells). option_map_or (λ cells. has_place cells pair.1) o false) (at_place pair.0)) ∙ has)
    where
      split : (b : Bool) → (name_place pair.0 old.entries == place) ≡ b → option_map_or (λ cells. has_place cells pair.1) (cond b (Some cells) (get name_eq old pair.0)) false ≡ true → has_pair old pair ≡ true
      split true at has = ap (λ (o : Option OwnerCells). option_map_or (λ cells. has_place cells pair.1) o false) (there_at (name_eq pair.0) old.entries place key lent there at).0 ∙ step pair.1 has
      split false off has = has

-- ---- a name by the place that a look-up has found

at_first : (p n place : ℕ) → Some place ≡ cond (nat_lt p n) (Some p) None → p ≡ place
at_first p n place is = split (nat_lt p n) is
  where
    split : (b : Bool) → Some place ≡ cond b (Some p) None → p ≡ place
    split true is = let one : Some place ≡ Some p = is in cc
    split false is = let none : Some place ≡ None = is in absurd cc

pub none_there : (test : Labels → Bool) (entries : List (Labels × OwnerCells)) → None ≡ position test (keys_of entries) → lookup test entries ≡ None
none_there test entries none = split (lookup test entries) (sym (some_index test entries) ∙ ap is_some (sym none))
  where
    split : (o : Option OwnerCells) → is_some o ≡ false → o ≡ None
    split None is = refl
    split (Some cells) is = absurd (false≢true (sym is))

-- what stands at the first place that passes
pub held_at : (test : Labels → Bool) (entries : List (Labels × OwnerCells)) (place : ℕ) (key : Labels) (lent : OwnerCells) → Some place ≡ position test (keys_of entries) → slice_get entries place ≡ Some (key, lent)
    → (lookup test entries ≡ Some lent) × (test key ≡ true)
held_at test entries place key lent at there =
    there_at test entries place key lent there (eq-eqb (position_or_len test (keys_of entries)) place (at_first (position_or_len test (keys_of entries)) (length (keys_of entries)) place at))

-- what is known of the entry that a look-up of a name has found
pub record IsFound {S : Type 0} (old : IndexMap Labels OwnerCells S) (owner : Labels) (place : ℕ) (key : Labels) (lent : OwnerCells) : Type 0 where
  pub held : get name_eq old owner ≡ Some lent
  pub same : key ≡ owner
  pub updates : (new : OwnerCells) → Updates name_eq old (with_value_at old place new) key (Some new)
  pub stays : (new : OwnerCells) → StayBut owner old.entries (set_value_at old.entries place new)

pub found : {S : Type 0} (old : IndexMap Labels OwnerCells S) (owner : Labels) (place : ℕ) (key : Labels) (lent : OwnerCells) → Some place ≡ position (name_eq owner) (keys_of old.entries) → slice_get old.entries place ≡ Some (key, lent) → IsUnique name_eq old
    → IsFound old owner place key lent
found old owner place key lent at there unique =
    let spot : name_place owner old.entries ≡ place = at_first (name_place owner old.entries) (length (keys_of old.entries)) place at in
    let here = held_at (name_eq owner) old.entries place key lent at there in
    record {
      held = here.0;
      same = sym (name_eq_exact owner key here.1);
      updates = λ new. updates-with_value_at old place new name_equiv unique key lent there;
      stays = λ new. record {
        others = λ i off. others_at old.entries place new i (λ same. off (same ∙ sym spot));
        size = inl (index_map_len-with_value_at old place new);
        names = inl (keys_at old.entries place new);
      };
    }

-- a flush of types of a name that has no cells can become permanent
pub settles_absent : {S : Type 0} (owners after : IndexMap Labels OwnerCells S) (owner : Labels) (kinds : List ℕ) → after ≡ owners → get name_eq owners owner ≡ None → AllByRecursion (λ kind. (n : ℕ) → CanSettleAt n kind owner after) kinds
settles_absent owners after owner [] same absent = tt
settles_absent owners after owner (k ∷ kinds) same absent =
    ((λ n. subst (λ (o : Option OwnerCells). IfSome o (CanSettle n k)) (sym (ap (λ (m : IndexMap Labels OwnerCells _). get name_eq m owner) same ∙ absent)) tt), settles_absent owners after owner kinds same absent)

pub settles_there : {S : Type 0} (owners : IndexMap Labels OwnerCells S) (owner : Labels) (cells : OwnerCells) (number : ℕ) (kinds : List ℕ) → get name_eq owners owner ≡ Some cells
    → AllByRecursion (λ kind. CanSettleAt number kind owner owners) kinds → AllByRecursion (λ kind. CanSettle number kind cells) kinds
settles_there owners owner cells number [] there all = tt
settles_there owners owner cells number (k ∷ kinds) there all = (subst (λ (o : Option OwnerCells). IfSome o (CanSettle number k)) there all.0, settles_there owners owner cells number kinds there all.1)

-- ---- a name is removed

module _ {S : Type 0} (old new : IndexMap Labels OwnerCells S) (owner : Labels) (updates : Updates name_eq old new owner None) where
  pub forgot_cells : (q : Question) (v : ℕ) → cell_of new q v ≡ cond (name_eq owner q.owner) None (cell_of old q v)
  forgot_cells q v = ap (λ (o : Option OwnerCells). cell_by_owner o q.kind v) (updates.0 q.owner) ∙ split (name_eq owner q.owner)
    where
      split : (b : Bool) → cell_by_owner (cond b None (get name_eq old q.owner)) q.kind v ≡ cond b None (cell_of old q v)
      split true = refl
      split false = refl

  pub forgot_each : (P : OwnerCells → Type 0) (name : Labels) → IfSome (get name_eq old name) P → IfSome (get name_eq new name) P
  forgot_each P name was = subst (λ (o : Option OwnerCells). IfSome o P) (sym (updates.0 name)) (split (name_eq owner name))
    where
      split : (b : Bool) → IfSome (cond b None (get name_eq old name)) P
      split true = tt
      split false = was

  pub forgot_pairs : KeepPairs old new
  forgot_pairs pair has = split (name_eq owner pair.0) (sym (ap (λ (o : Option OwnerCells). option_map_or (λ cells. has_place cells pair.1) o false) (updates.0 pair.0)) ∙ has)
    where
      split : (b : Bool) → option_map_or (λ cells. has_place cells pair.1) (cond b None (get name_eq old pair.0)) false ≡ true → has_pair old pair ≡ true
      split true is = absurd (false≢true is)
      split false is = is
