-- The records of an owner and type on the other side of a change, and whether the owner has any there.
use Rattle.std.proofs.Common.{◌≡◌, ℕ, zero, suc, ◌+◌, ◌-◌, ◌<◌, ◌≤◌, Bool, true, false, ◌&&◌, ◌||◌, ◌==◌, not, cond, List, [], ◌∷◌, ◌++◌, length, map, take, nat_lt, Option, Some, None, refl, ap, sym, ◌∙◌, inl, inr, arith}
use Rattle.std.specs.Borrow.{Bor}
use Rattle.std.specs.Option.{option_map}
use Rattle.std.proofs.lemmas.Bool.{and_parts, eqb-true, false≢true, le-ltb, lt-ltb}
use Rattle.std.proofs.lemmas.List.{append-nil, map-id}
use Rattle.dns_name.specs.Labels.{Labels}
use Rattle.dns_name.specs.Order.{name_eq, name_eq_exact}
use Rattle.dns_text.specs.Equal.{data_eq}
use Rattle.dns_text.specs.declared.record.Record.{Record}
use Rattle.dns_text.specs.declared.ttl.Ttl.{Ttl}
use Rattle.local_zone.specs.declared.added.Added.{Added as AddedRecord}
use Rattle.local_zone.specs.declared.taken.Taken.{Taken}
use Rattle.local_zone.specs.Added.{records_before}
use Rattle.local_zone.specs.Answer.{has_record}
use Rattle.local_zone.specs.Change.{is_there, records_with, retimed_by}
use Rattle.local_zone.specs.Gaps.{at_gaps, put_back, records_of, rest_of, AreApart, AreWithin}
use Rattle.local_zone.specs.Index.{of_kind, of_owner}
use Rattle.local_zone.specs.OtherSet.{with_last}
use Rattle.local_zone.specs.Show.{is_for, set_of, shown_as, timed_as}
use Rattle.local_zone.specs.Tables.{is_of_set, is_same}
use Rattle.local_zone.proofs.AddLaws.{take_front}
use Rattle.local_zone.proofs.CountLaws.{any_some}
use Rattle.local_zone.proofs.CountsBelowLaws.{count_back, count_one}
use Rattle.local_zone.proofs.GapLaws.{back_at, put_all, put_none}
use Rattle.local_zone.proofs.IndexLaws.{filter_push, set-of-owner}
use Rattle.local_zone.proofs.OtherLaws.{count_before_is, count_with_is, last_added, there_is}
use Rattle.local_zone.proofs.SetLaws.{there_in_set}

-- ---- a set, a record behind it, and its time to live

module _ (owner : Labels) (kind : ℕ) where
  pushed : (rs : List Record) (x : Record) (b : Bool) → is_for owner kind x ≡ b → set_of owner kind (rs ++ x ∷ []) ≡ set_of owner kind rs ++ cond b (x ∷ []) []
  pushed rs x b e = filter_push (is_for owner kind) rs x ∙ ap (λ t. set_of owner kind rs ++ cond t (x ∷ []) []) e

  module _ (new : Record) where
    kept : (r : Record) → is_for owner kind (retimed_by new r) ≡ is_for owner kind r
    kept r = by (is_of_set r new)
      where
        by : (b : Bool) → is_for owner kind (cond b (record r { ttl = new.ttl }) r) ≡ is_for owner kind r
        by true = refl
        by false = refl

    -- a record of the set is of the set of the new one just where that one is for it
    one_set : (r : Record) → is_for owner kind r ≡ true → (b : Bool) → is_for owner kind new ≡ b → is_of_set r new ≡ b
    one_set r here true there =
        let r_parts = and_parts (name_eq r.owner owner) (r.kind == kind) here in
        let parts = and_parts (name_eq new.owner owner) (new.kind == kind) there in
        let owners : new.owner ≡ owner = name_eq_exact new.owner owner parts.0 in
        let kinds : new.kind ≡ kind = eqb-true new.kind kind parts.1 in
        (λ i. name_eq r.owner (owners i) && r.kind == kinds i) ∙ here
    one_set r here false apart = by (is_of_set r new) refl
      where
        by : (b : Bool) → is_of_set r new ≡ b → b ≡ false
        by false e = refl
        by true e =
            let parts = and_parts (name_eq r.owner new.owner) (r.kind == new.kind) e in
            let owners : r.owner ≡ new.owner = name_eq_exact r.owner new.owner parts.0 in
            let kinds : r.kind ≡ new.kind = eqb-true r.kind new.kind parts.1 in
            absurd (false≢true (sym apart ∙ sym (λ i. name_eq (owners i) owner && kinds i == kind) ∙ here))

    set_timed : (b : Bool) → is_for owner kind new ≡ b → (rs : List Record) → set_of owner kind (map (retimed_by new) rs) ≡ map (timed_as (cond b (Some new.ttl) None)) (set_of owner kind rs)
    set_timed b e [] = refl
    set_timed b e (r ∷ rs) =
        ap (λ t. cond t (retimed_by new r ∷ set_of owner kind (map (retimed_by new) rs)) (set_of owner kind (map (retimed_by new) rs))) (kept r) ∙ by (is_for owner kind r) refl (set_timed b e rs)
      where
        time : (t : Bool) → cond t (record r { ttl = new.ttl }) r ≡ timed_as (cond t (Some new.ttl) None) r
        time true = refl
        time false = refl

        by : (t : Bool) → is_for owner kind r ≡ t → set_of owner kind (map (retimed_by new) rs) ≡ map (timed_as (cond b (Some new.ttl) None)) (set_of owner kind rs)
            → cond t (retimed_by new r ∷ set_of owner kind (map (retimed_by new) rs)) (set_of owner kind (map (retimed_by new) rs)) ≡ map (timed_as (cond b (Some new.ttl) None)) (cond t (r ∷ set_of owner kind rs) (set_of owner kind rs))
        by true here more = λ i. (ap (λ t. cond t (record r { ttl = new.ttl }) r) (one_set r here b e) ∙ time b) i ∷ more i
        by false here more = more

    pub set_same : is_for owner kind new ≡ true → (rs : List Record) → set_of owner kind (map (retimed_by new) rs) ≡ map (timed_as (Some new.ttl)) (set_of owner kind rs)
    set_same e rs = set_timed true e rs

    pub set_other : is_for owner kind new ≡ false → (rs : List Record) → set_of owner kind (map (retimed_by new) rs) ≡ set_of owner kind rs
    set_other e rs = set_timed false e rs ∙ map-id (set_of owner kind rs)

  -- ---- a record that was added

  module _ (added : AddedRecord) (records : List Record) (goes : records_with added.said (records_before added records) ≡ records) where
    abbrev stays : List Record
    stays = take (length records - 1) records

    abbrev timed : Record
    timed = record added.said { ttl = added.ttl }

    pub before_other : is_for owner kind added.said ≡ false → set_of owner kind records ≡ set_of owner kind (records_before added records)
    before_other e = by added.is_new refl ∙ sym (set_other timed e (cond added.is_new stays records))
      where
        by : (b : Bool) → added.is_new ≡ b → set_of owner kind records ≡ set_of owner kind (cond b stays records)
        by true is = ap (set_of owner kind) (last_added added records goes is) ∙ pushed stays added.said false e ∙ append-nil (set_of owner kind stays)
        by false is = refl

    pub before_same : is_for owner kind added.said ≡ true → (own : List Record) → own ≡ set_of owner kind records
        → map (timed_as (Some added.ttl)) (cond added.is_new (take (length own - 1) own) own) ≡ set_of owner kind (records_before added records)
    before_same e own is = ap (λ (rs : List Record). map (timed_as (Some added.ttl)) rs) (by added.is_new refl) ∙ sym (set_same timed e (cond added.is_new stays records))
      where
        by : (b : Bool) → added.is_new ≡ b → cond b (take (length own - 1) own) own ≡ set_of owner kind (cond b stays records)
        by true new =
            let all : own ≡ set_of owner kind stays ++ added.said ∷ [] = is ∙ ap (set_of owner kind) (last_added added records goes new) ∙ pushed stays added.said true e in
            ap (λ (rs : List Record). take (length rs - 1) rs) all ∙ take_front (set_of owner kind stays) added.said
        by false new = is

  -- ---- a record that is added

  module _ (new : Record) (records : List Record) where
    abbrev retimed : List Record
    retimed = map (retimed_by new) records

    pub with_other : is_for owner kind new ≡ false → set_of owner kind records ≡ set_of owner kind (records_with new records)
    with_other e = sym (by (is_there records new) refl ∙ set_other new e records)
      where
        by : (b : Bool) → is_there records new ≡ b → set_of owner kind (records_with new records) ≡ set_of owner kind retimed
        by true is = ap (set_of owner kind) (there_is new records true is)
        by false is = ap (set_of owner kind) (there_is new records false is) ∙ pushed retimed new false e ∙ append-nil (set_of owner kind retimed)

    -- whether it is there is told by its set
    there : is_for owner kind new ≡ true → (rs : List Record) → is_there (set_of owner kind rs) new ≡ is_there rs new
    there e rs =
        let parts = and_parts (name_eq new.owner owner) (new.kind == kind) e in
        let owners : owner ≡ new.owner = sym (name_eq_exact new.owner owner parts.0) in
        let kinds : kind ≡ new.kind = sym (eqb-true new.kind kind parts.1) in
        (λ i. is_there (set_of (owners i) (kinds i) rs) new) ∙ there_in_set new rs

    pub with_there : is_for owner kind new ≡ true → is_there (set_of owner kind records) new ≡ true → map (timed_as (Some new.ttl)) (set_of owner kind records) ≡ set_of owner kind (records_with new records)
    with_there e is = sym (ap (set_of owner kind) (there_is new records true (sym (there e records) ∙ is)) ∙ set_same new e records)

    pub with_new : is_for owner kind new ≡ true → is_there (set_of owner kind records) new ≡ false → map (timed_as (Some new.ttl)) (set_of owner kind records) ++ new ∷ [] ≡ set_of owner kind (records_with new records)
    with_new e is =
        sym (ap (set_of owner kind) (there_is new records false (sym (there e records) ∙ is)) ∙ pushed retimed new true e ∙ ap (λ (rs : List Record). rs ++ new ∷ []) (set_same new e records))

  -- ---- a removal

  by_owner : (xs ys : List Record) → of_owner owner xs ≡ of_owner owner ys → set_of owner kind xs ≡ set_of owner kind ys
  by_owner xs ys e = set-of-owner owner kind xs ∙ ap (of_kind kind) e ∙ sym (set-of-owner owner kind ys)

  no_set : (xs : List Record) → of_owner owner xs ≡ [] → set_of owner kind xs ≡ []
  no_set xs e = set-of-owner owner kind xs ∙ ap (of_kind kind) e

  pub back_none : (taken : List Taken) (left : List Record) → AreApart taken left → set_of owner kind left ≡ [] → set_of owner kind (records_of taken) ≡ set_of owner kind (put_back taken left)
  back_none taken left apart e =
      elim (apart owner) [
        | inl none ↦ no_set (records_of taken) none ∙ sym e ∙ sym (by_owner (put_back taken left) left (put_none owner taken left none))
        | inr empty ↦ sym (by_owner (put_back taken left) (records_of taken) (put_all owner taken left empty))
      ]

  pub back_some : (taken : List Taken) (left : List Record) → AreApart taken left → (set_of owner kind left ≡ [] → ⊥) → set_of owner kind left ≡ set_of owner kind (put_back taken left)
  back_some taken left apart some =
      elim (apart owner) [
        | inl none ↦ sym (by_owner (put_back taken left) left (put_none owner taken left none))
        | inr empty ↦ absurd (some (no_set left empty))
      ]

  pub left_none : (gaps : List ℕ) (full : List Record) → AreWithin gaps full → AreApart (at_gaps gaps full) (rest_of gaps full) → set_of owner kind full ≡ [] → set_of owner kind (rest_of gaps full) ≡ []
  left_none gaps full within apart e =
      elim (apart owner) [
        | inl none ↦ by_owner (rest_of gaps full) full (sym (put_none owner (at_gaps gaps full) (rest_of gaps full) none) ∙ ap (of_owner owner) (back_at gaps full within)) ∙ e
        | inr empty ↦ no_set (rest_of gaps full) empty
      ]

  pub left_is : (b : Bool) (left full : List Record) → of_owner owner left ≡ cond b [] (of_owner owner full) → cond b [] (set_of owner kind full) ≡ set_of owner kind left
  left_is true left full e = sym (no_set left e)
  left_is false left full e = sym (by_owner left full e)

-- ---- lists

pub no_items : {X : Type 0} (xs : List X) → (length xs == 0) ≡ true → xs ≡ []
no_items [] e = refl
no_items (x ∷ xs) e = absurd (omega (arith, eqb-true (length (x ∷ xs)) 0 e))

pub some_items : {X : Type 0} (xs : List X) → (length xs == 0) ≡ false → xs ≡ [] → ⊥
some_items [] e is = false≢true (sym e)
some_items (x ∷ xs) e is = absurd cc

-- ---- whether an owner has a record

module _ (owner : Labels) where
  abbrev many : List Record → ℕ
  many records = length (of_owner owner records)

  pub has_many : (records : List Record) → has_record owner records ≡ nat_lt 0 (many records)
  has_many records = any_some (λ (r : Record). name_eq r.owner owner) records

  many_before : (added : AddedRecord) (records : List Record) → records_with added.said (records_before added records) ≡ records
      → many records ≡ many (records_before added records) + cond (added.is_new && name_eq added.said.owner owner) 1 0
  many_before added records goes = count_before_is added records goes (λ o. name_eq o owner)

  some_there : (new : Record) (rs : List Record) → name_eq new.owner owner ≡ true → is_there rs new ≡ true → 0 < many rs
  some_there new [] same e = absurd (false≢true e)
  some_there new (r ∷ rs) same e = by (is_same r new) refl e (some_there new rs same)
    where
      by : (b : Bool) → is_same r new ≡ b → (b || is_there rs new) ≡ true → (is_there rs new ≡ true → 0 < many rs) → 0 < many (r ∷ rs)
      by true is e more =
          let parts = and_parts (name_eq r.owner new.owner) (r.kind == new.kind) (and_parts (is_of_set r new) (data_eq r.body new.body) is).0 in
          let own : name_eq r.owner owner ≡ true = ap (λ (o : Labels). name_eq o owner) (name_eq_exact r.owner new.owner parts.0) ∙ same in
          omega (arith, count_one (λ o. name_eq o owner) r rs, ap {B = ℕ} (λ b. cond b 1 0) own)
      by false is e more = let some = more e in omega (arith, count_one (λ o. name_eq o owner) r rs, some)

  or_last : (x b : Bool) → (x || b) ≡ cond b true x
  or_last true true = refl
  or_last true false = refl
  or_last false true = refl
  or_last false false = refl

  one_more : (w m : ℕ) (t b : Bool) → w ≡ m + cond (not t && b) 1 0 → (b ≡ true → t ≡ true → 0 < m) → nat_lt 0 w ≡ (nat_lt 0 m || b)
  one_more w m true true e h = let some = h refl refl in lt-ltb 0 w (omega (arith, e, some)) ∙ sym (or_last (nat_lt 0 m) true)
  one_more w m false true e h = lt-ltb 0 w (omega (arith, e)) ∙ sym (or_last (nat_lt 0 m) true)
  one_more w m true false e h = let is : w ≡ m = omega (arith, e) in ap (nat_lt 0) is ∙ sym (or_last (nat_lt 0 m) false)
  one_more w m false false e h = let is : w ≡ m = omega (arith, e) in ap (nat_lt 0) is ∙ sym (or_last (nat_lt 0 m) false)

  -- it has one with a new record just where it had one, or the record is its own
  some_with : (new : Record) (records : List Record) → has_record owner (records_with new records) ≡ (nat_lt 0 (many records) || name_eq new.owner owner)
  some_with new records =
      has_many (records_with new records)
      ∙ one_more (many (records_with new records)) (many records) (is_there records new) (name_eq new.owner owner) (count_with_is new records (λ o. name_eq o owner)) (some_there new records)

  many_back : (taken : List Taken) (left : List Record) → many (put_back taken left) ≡ many (records_of taken) + many left
  many_back taken left = count_back (λ o. name_eq o owner) taken left

  more_than : (k n m : ℕ) → n ≡ m + k → nat_lt k n ≡ nat_lt 0 m
  more_than k n zero e = le-ltb k n (omega (arith, e))
  more_than k n (suc m) e = lt-ltb k n (omega (arith, e)) ∙ sym (lt-ltb 0 (suc m) (omega arith))

  pub has_before : (added : AddedRecord) (records : List Record) → records_with added.said (records_before added records) ≡ records → (n : ℕ) → n ≡ many records
      → (b : Bool) → b ≡ (added.is_new && name_eq added.said.owner owner) → nat_lt (cond b 1 0) n ≡ has_record owner (records_before added records)
  has_before added records goes n is b e =
      let before : List Record = records_before added records in
      more_than (cond b 1 0) n (many before) (is ∙ many_before added records goes ∙ ap {B = ℕ} (λ t. many before + cond t 1 0) (sym e)) ∙ sym (has_many before)

  module _ (new : Record) (records : List Record) (n : ℕ) (is : n ≡ many records) where
    pub with_some : 0 < n → true ≡ has_record owner (records_with new records)
    with_some some = sym (some_with new records ∙ ap (λ b. b || name_eq new.owner owner) (lt-ltb 0 (many records) (omega (arith, is, some))))

    pub with_none : n ≤ 0 → name_eq new.owner owner ≡ has_record owner (records_with new records)
    with_none none = sym (some_with new records ∙ ap (λ b. b || name_eq new.owner owner) (le-ltb 0 (many records) (omega (arith, is, none))))

  module _ (taken : List Taken) (left : List Record) (n : ℕ) (is : n ≡ many left) where
    pub back_has : 0 < n → true ≡ has_record owner (put_back taken left)
    back_has some = sym (has_many (put_back taken left) ∙ lt-ltb 0 (many (put_back taken left)) (omega (arith, is, some, many_back taken left)))

    pub back_comes : n ≤ 0 → (m : ℕ) → m ≡ many (records_of taken) → nat_lt 0 m ≡ has_record owner (put_back taken left)
    back_comes none m e =
        let all : m ≡ many (put_back taken left) = omega (arith, is, none, e, many_back taken left) in
        ap (nat_lt 0) all ∙ sym (has_many (put_back taken left))

  pub left_without : (gaps : List ℕ) (full : List Record) → AreWithin gaps full → many full ≡ 0 → false ≡ has_record owner (rest_of gaps full)
  left_without gaps full within e =
      let left : List Record = rest_of gaps full in
      let all : many (put_back (at_gaps gaps full) left) ≡ many full = ap (λ (rs : List Record). many rs) (back_at gaps full within) in
      sym (has_many left ∙ le-ltb 0 (many left) (omega (arith, many_back (at_gaps gaps full) left, all, e)))

  pub left_has : (b : Bool) (left full : List Record) → of_owner owner left ≡ cond b [] (of_owner owner full) → 0 < many full → not b ≡ has_record owner left
  left_has true left full e some = sym (has_many left ∙ ap (λ (rs : List Record). nat_lt 0 (length rs)) e)
  left_has false left full e some = sym (has_many left ∙ ap (λ (rs : List Record). nat_lt 0 (length rs)) e ∙ lt-ltb 0 (many full) some)

-- ---- the records of an answer

shown_same : {X Y Z : Type 0} (f : Y → Z) (g : X → Y) (xs : List X) → map (λ x. f (g x)) xs ≡ map f (map g xs)
shown_same f g [] = refl
shown_same f g (x ∷ xs) = ap (λ zs. f (g x) ∷ zs) (shown_same f g xs)

shown_more : {X Y Z : Type 0} (f : Y → Z) (g : X → Y) (xs : List X) (y : Y) → map (λ x. f (g x)) xs ++ f y ∷ [] ≡ map f (map g xs ++ y ∷ [])
shown_more f g [] y = refl
shown_more f g (x ∷ xs) y = ap (λ zs. f (g x) ∷ zs) (shown_more f g xs y)

pub shown_none : (shown : Labels) (ttl : Option Ttl) (records : List Record) (last : Option (Bor Record)) → None ≡ option_map (λ r. r.now) last
    → map (λ r. shown_as shown (timed_as ttl r)) records ≡ map (shown_as shown) (with_last (map (timed_as ttl) records) last)
shown_none shown ttl records None e = shown_same (shown_as shown) (timed_as ttl) records
shown_none shown ttl records (Some new) e = absurd cc

pub shown_some : (shown : Labels) (ttl : Option Ttl) (records : List Record) (last : Option (Bor Record)) (x : Record) → Some x ≡ option_map (λ r. r.now) last
    → map (λ r. shown_as shown (timed_as ttl r)) records ++ shown_as shown x ∷ [] ≡ map (shown_as shown) (with_last (map (timed_as ttl) records) last)
shown_some shown ttl records None x e = absurd cc
shown_some shown ttl records (Some new) x e =
    let same : x ≡ new.now = cc in
    ap (λ (r : Record). map (λ r. shown_as shown (timed_as ttl r)) records ++ shown_as shown r ∷ []) same ∙ shown_more (shown_as shown) (timed_as ttl) records new.now
