-- The counts below names: what they are after a step of a walk, and after a change of the records.
use Rattle.std.proofs.Common.{◌≡◌, ℕ, zero, suc, ◌+◌, ◌-◌, ◌<◌, ◌≤◌, Bool, true, false, ◌||◌, ◌&&◌, not, cond, List, [], ◌∷◌, ◌++◌, map, filter, length, take, drop, Option, Some, None, refl, ap, sym, subst, ◌∙◌, inl, inr, arith, length-append}
use Rattle.std.specs.Prelude.{nat_eq, nat_le, unwrap_or, is_err, OnErr, OnOk, Result, Ok, Err}
use Rattle.std.specs.Map.{KeepsOthers}
use Rattle.std.specs.Cmp.Lexicographic.{pointwise}
use Rattle.std.proofs.lemmas.Bool.{false≢true, le-leb, lt-leb, or_cases}
use Rattle.std.proofs.lemmas.List.{take-append-drop}
use Rattle.std.proofs.lemmas.List.Elements.{filter-append}
use Rattle.std.proofs.lemmas.Slice.Eq.{bytes_eq-Decides}
use Rattle.dns_name.specs.Labels.{Labels, octets_of, parent_of, with_length}
use Rattle.dns_name.specs.Octets.{octets_of-child}
use Rattle.dns_name.specs.Order.{name_eq, name_eq_exact}
use Rattle.dns_name.specs.Below.{is_at_or_below}
use Rattle.dns_name.specs.BelowLaws.{below_itself}
use Rattle.dns_text.specs.declared.record.Record.{Record}
use Rattle.local_zone.specs.declared.taken.Taken.{Taken}
use Rattle.local_zone.specs.Change.{retimed_by}
use Rattle.local_zone.specs.CountsBelow.{is_below, is_below_from, count_under, count_where, counted, AreAboveZero, AreCountedBy}
use Rattle.local_zone.specs.Gaps.{records_of, put_back, at_gaps, rest_of, AreWithin}
use Rattle.local_zone.specs.Index.{under}
use Rattle.local_zone.specs.Tables.{is_of_set}
use Rattle.local_zone.proofs.ClosestLaws.{not_longer}
use Rattle.local_zone.proofs.GapLaws.{back_at}

pub on_err : {X E A : Type 0} (r : Result X E) → A → OnErr r A
on_err (Ok x) h = tt
on_err (Err e) h = h

pub is_err_of : {X E A : Type 0} (r : Result X E) → is_err r ≡ true → OnErr r A → A
is_err_of (Ok x) i h = absurd (false≢true i)
is_err_of (Err e) i h = h

pub is_ok_of : {X E A : Type 0} (r : Result X E) → is_err r ≡ false → OnOk r A → A
is_ok_of (Ok x) i h = h
is_ok_of (Err e) i h = absurd (false≢true (sym i))

pub either : {X E A B C : Type 0} (r : Result X E) → OnOk r A → OnErr r B → (A → C) → (B → C) → C
either (Ok x) a b f g = f a
either (Err e) a b f g = g b

pub on_ok : {X E A B : Type 0} (r : Result X E) → (A → B) → OnOk r A → OnOk r B
on_ok (Ok x) f h = f h
on_ok (Err e) f h = h

-- ---- a change under some octets

apart : (a b k : List ℕ) → pointwise nat_eq a b ≡ false → pointwise nat_eq a k ≡ true → pointwise nat_eq b k ≡ false
apart a b k e here = by (pointwise nat_eq b k) refl
  where
    by : (t : Bool) → pointwise nat_eq b k ≡ t → pointwise nat_eq b k ≡ false
    by true there = absurd (false≢true (sym e ∙ (bytes_eq-Decides a b).1 ((bytes_eq-Decides a k).0 here ∙ sym ((bytes_eq-Decides b k).0 there))))
    by false there = there

above_zero : (n : ℕ) → nat_eq n 0 ≡ false → 0 < n
above_zero zero e = absurd (false≢true (sym e))
above_zero (suc n) e = omega arith

module _ {K : Type 0} (octets : K → List ℕ) where
  pub others : (o : List ℕ) (es after : List (K × ℕ)) → KeepsOthers (λ x y. pointwise nat_eq (octets x) (octets y)) (λ k. pointwise nat_eq o (octets k)) es after
      → (other : List ℕ) → pointwise nat_eq o other ≡ false → under octets other after ≡ under octets other es
  unfolding KeepsOthers
  others o es after h other e = h (λ k. pointwise nat_eq other (octets k)) (λ x y is. ap (λ s. pointwise nat_eq s (octets y)) ((bytes_eq-Decides other (octets x)).0 is)) (λ k is. apart o other (octets k) e is)

  pub changed : (o : List ℕ) (es after : List (K × ℕ)) (v : Option ℕ) → under octets o after ≡ v
      → KeepsOthers (λ x y. pointwise nat_eq (octets x) (octets y)) (λ k. pointwise nat_eq o (octets k)) es after
      → (other : List ℕ) → under octets other after ≡ cond (pointwise nat_eq o other) v (under octets other es)
  changed o es after v here keeps other = by (pointwise nat_eq o other) refl
    where
      by : (b : Bool) → pointwise nat_eq o other ≡ b → under octets other after ≡ cond b v (under octets other es)
      by true e = ap (λ (s : List ℕ). under octets s after) (sym ((bytes_eq-Decides o other).0 e)) ∙ here
      by false e = others o es after keeps other e

  module _ (o : List ℕ) (es after : List (K × ℕ)) (w : ℕ) (is : (other : List ℕ) → under octets other after ≡ cond (pointwise nat_eq o other) (Some w) (under octets other es)) where
    pub raised : (m : ℕ) → w ≡ count_under octets o es + m → (other : List ℕ) → count_under octets other after ≡ count_under octets other es + cond (pointwise nat_eq o other) m 0
    raised m more other = by (pointwise nat_eq o other) refl (is other)
      where
        by : (b : Bool) → pointwise nat_eq o other ≡ b → under octets other after ≡ cond b (Some w) (under octets other es)
            → count_under octets other after ≡ count_under octets other es + cond b m 0
        by true e here = ap (λ v. unwrap_or v 0) here ∙ more ∙ ap (λ (s : List ℕ). count_under octets s es + m) ((bytes_eq-Decides o other).0 e)
        by false e here = omega (arith, ap (λ v. unwrap_or v 0) here)

    -- the same count is written
    pub same_count : w ≡ count_under octets o es → (other : List ℕ) → count_under octets other after ≡ count_under octets other es
    same_count same other = by (pointwise nat_eq o other) refl (is other)
      where
        by : (b : Bool) → pointwise nat_eq o other ≡ b → under octets other after ≡ cond b (Some w) (under octets other es)
            → count_under octets other after ≡ count_under octets other es
        by true e here = ap (λ v. unwrap_or v 0) here ∙ same ∙ ap (λ (s : List ℕ). count_under octets s es) ((bytes_eq-Decides o other).0 e)
        by false e here = ap (λ v. unwrap_or v 0) here

    pub written_above : 0 < w → AreAboveZero octets es → AreAboveZero octets after
    written_above some h spelled count at = by (pointwise nat_eq o spelled) (is spelled)
      where
        by : (b : Bool) → under octets spelled after ≡ cond b (Some w) (under octets spelled es) → 0 < count
        by true here = subst (λ n. 0 < n) (ap (λ v. unwrap_or v 0) (sym here ∙ at)) some
        by false here = h spelled count (sym here ∙ at)

    pub left_above : nat_eq w 0 ≡ false → AreAboveZero octets es → AreAboveZero octets after
    left_above e = written_above (above_zero w e)

  module _ (o : List ℕ) (es mid after : List (K × ℕ)) (kept : (other : List ℕ) → pointwise nat_eq o other ≡ false → under octets other mid ≡ under octets other es)
      (is : (other : List ℕ) → under octets other after ≡ cond (pointwise nat_eq o other) None (under octets other mid)) where
    pub lowered : (m : ℕ) → count_under octets o mid ≡ count_under octets o es - m → count_under octets o mid ≡ 0
        → (other : List ℕ) → count_under octets other after ≡ count_under octets other es - cond (pointwise nat_eq o other) m 0
    lowered m less none other = by (pointwise nat_eq o other) refl (is other)
      where
        by : (b : Bool) → pointwise nat_eq o other ≡ b → under octets other after ≡ cond b None (under octets other mid)
            → count_under octets other after ≡ count_under octets other es - cond b m 0
        by true e here = ap (λ v. unwrap_or v 0) here ∙ sym none ∙ less ∙ ap (λ (s : List ℕ). count_under octets s es - m) ((bytes_eq-Decides o other).0 e)
        by false e here = omega (arith, ap (λ v. unwrap_or v 0) (here ∙ kept other e))

    pub lowered_above : AreAboveZero octets es → AreAboveZero octets after
    lowered_above h spelled count at = by (pointwise nat_eq o spelled) refl (is spelled)
      where
        by : (b : Bool) → pointwise nat_eq o spelled ≡ b → under octets spelled after ≡ cond b None (under octets spelled mid) → 0 < count
        by true e here = absurd (none_some (sym here ∙ at))
          where
            none_some : None ≡ Some count → ⊥
            none_some x = absurd cc
        by false e here = h spelled count (sym (here ∙ kept spelled e) ∙ at)

  -- what is seen of the counts
  pub seen : (o : List ℕ) (es : List (K × ℕ)) → count_under (λ octets. octets) o (map (λ e. (octets e.0, e.1)) es) ≡ count_under octets o es
  seen o es = ap (λ v. unwrap_or v 0) (by es)
    where
      by : (es : List (K × ℕ)) → under (λ octets. octets) o (map (λ e. (octets e.0, e.1)) es) ≡ under octets o es
      by [] = refl
      by (e ∷ es) = ap (λ r. cond (pointwise nat_eq o (octets e.0)) (Some e.1) r) (by es)

-- ---- the names above

parent_is : (l : List ℕ) (n p : Labels) → parent_of (l ∷ n) ≡ Some p → n ≡ p
parent_is l n p e = ap (λ (v : Option Labels). unwrap_or v []) e

pub and_true : (b : Bool) → (b && true) ≡ b
and_true true = refl
and_true false = refl

-- every name above has so many octets
pub from_root : (n z : Labels) → is_below_from 0 n z ≡ is_below n z
from_root n z = ap (λ b. is_below n z && b) (le-leb 0 (length (octets_of z)) (omega arith)) ∙ and_true (is_below n z)

pub below_parent : (l : List ℕ) (n z : Labels) → is_below (l ∷ n) z ≡ is_at_or_below n z
below_parent l n z = by (name_eq (l ∷ n) z) refl (is_at_or_below n z) refl
  where
    by : (a : Bool) → name_eq (l ∷ n) z ≡ a → (b : Bool) → is_at_or_below n z ≡ b → ((a || b) && not a) ≡ b
    by true e true below = absurd (not_longer n z below (omega (arith, ap length (name_eq_exact (l ∷ n) z e))))
    by true e false below = refl
    by false e b below = and_true b

child_length : (l : List ℕ) (n : Labels) → length (octets_of (l ∷ n)) ≡ length (octets_of n) + (length l + 1)
child_length l n = omega (arith, ap length (octets_of-child l n), length-append (octets_of n) (with_length l))

-- a name above has no more octets
pub no_longer : (n z : Labels) → is_at_or_below n z ≡ true → length (octets_of z) ≤ length (octets_of n)
no_longer [] z e = omega (arith, ap (λ (x : Labels). length (octets_of x)) (name_eq_exact [] z e))
no_longer (l ∷ n) z e =
    elim (or_cases (name_eq (l ∷ n) z) (is_at_or_below n z) e) [
      | inl same ↦ omega (arith, ap (λ (x : Labels). length (octets_of x)) (name_eq_exact (l ∷ n) z same))
      | inr below ↦ omega (arith, no_longer n z below, child_length l n)
    ]

-- a name strictly above has fewer
pub shorter : (n z : Labels) → is_below n z ≡ true → length (octets_of z) < length (octets_of n)
shorter [] z e = by (name_eq [] z) e
  where
    by : (b : Bool) → (b && not b) ≡ true → length (octets_of z) < length (octets_of [])
    by true e = absurd cc
    by false e = absurd cc
shorter (l ∷ n) z e = omega (arith, no_longer n z (sym (below_parent l n z) ∙ e), child_length l n)

-- what lies above a name with too few octets has too few
pub beyond : (least : ℕ) (n p z : Labels) → parent_of n ≡ Some p → length (octets_of p) < least → is_below_from least n z ≡ false
beyond least [] p z e short = absurd cc
beyond least (l ∷ n) p z e short = ap (λ b. b && nat_le least (length (octets_of z))) (below_parent l n z) ∙ by (is_at_or_below n z) refl
  where
    few : length (octets_of n) < least
    few = omega (arith, short, ap (λ (x : Labels). length (octets_of x)) (parent_is l n p e))

    by : (b : Bool) → is_at_or_below n z ≡ b → (b && nat_le least (length (octets_of z))) ≡ false
    by true below = lt-leb least (length (octets_of z)) (omega (arith, few, no_longer n z below))
    by false below = refl

at_or_below : (least m : ℕ) (n z : Labels) → least ≤ length (octets_of n)
    → cond (is_at_or_below n z && nat_le least (length (octets_of z))) m 0 ≡ cond (name_eq n z) m 0 + cond (is_below_from least n z) m 0
at_or_below least m n z reach = by (name_eq n z) refl
  where
    here : (b c : Bool) → b ≡ true → c ≡ true → cond (b && c) m 0 ≡ m + cond ((b && false) && c) m 0
    here true true e f = omega arith
    here true false e f = absurd cc
    here false c e f = absurd cc

    above : (b c : Bool) → cond (b && c) m 0 ≡ 0 + cond ((b && true) && c) m 0
    above true c = omega arith
    above false c = omega arith

    by : (a : Bool) → name_eq n z ≡ a
        → cond (is_at_or_below n z && nat_le least (length (octets_of z))) m 0 ≡ cond a m 0 + cond ((is_at_or_below n z && not a) && nat_le least (length (octets_of z))) m 0
    by true e =
        let is : n ≡ z = name_eq_exact n z e in
        here (is_at_or_below n z) (nat_le least (length (octets_of z))) (subst (λ (x : Labels). is_at_or_below n x ≡ true) is (below_itself n))
        (le-leb least (length (octets_of z)) (omega (arith, reach, ap (λ (x : Labels). length (octets_of x)) is)))
    by false e = above (is_at_or_below n z) (nat_le least (length (octets_of z)))

pub step_above : (least m : ℕ) (n p z : Labels) → parent_of n ≡ Some p → least ≤ length (octets_of p)
    → cond (is_below_from least n z) m 0 ≡ cond (name_eq p z) m 0 + cond (is_below_from least p z) m 0
step_above least m [] p z e reach = absurd cc
step_above least m (l ∷ n) p z e reach =
    ap (λ b. cond (b && nat_le least (length (octets_of z))) m 0) (below_parent l n z ∙ ap (λ (x : Labels). is_at_or_below x z) (parent_is l n p e)) ∙ at_or_below least m p z reach

module _ {K : Type 0} (octets : K → List ℕ) (n p : Labels) (above : List ℕ) (parent : parent_of n ≡ Some p) (are : above ≡ octets_of p) where
  abbrev pub view_of : List (K × ℕ) → List (List ℕ × ℕ)
  view_of es = map (λ e. (octets e.0, e.1)) es

  module _ (start : List (List ℕ × ℕ)) (es mid : List (K × ℕ)) (is : view_of es ≡ start) where
    pub less_here : (m : ℕ) → ((other : List ℕ) → count_under octets other mid ≡ count_under octets other es - cond (pointwise nat_eq above other) m 0)
        → (z : Labels) → counted z (view_of mid) ≡ counted z start - cond (name_eq p z) m 0
    less_here m less z =
        seen octets (octets_of z) mid ∙ less (octets_of z) ∙ ap (λ n. n - cond (pointwise nat_eq above (octets_of z)) m 0) (sym (seen octets (octets_of z) es) ∙ ap (counted z) is)
        ∙ ap (λ (s : List ℕ). counted z start - cond (pointwise nat_eq s (octets_of z)) m 0) are

    pub more_here : (m : ℕ) → ((other : List ℕ) → count_under octets other mid ≡ count_under octets other es + cond (pointwise nat_eq above other) m 0)
        → (z : Labels) → counted z (view_of mid) ≡ counted z start + cond (name_eq p z) m 0
    more_here m more z =
        seen octets (octets_of z) mid ∙ more (octets_of z) ∙ ap (λ n. n + cond (pointwise nat_eq above (octets_of z)) m 0) (sym (seen octets (octets_of z) es) ∙ ap (counted z) is)
        ∙ ap (λ (s : List ℕ). counted z start + cond (pointwise nat_eq s (octets_of z)) m 0) are

    pub same_here : ((other : List ℕ) → count_under octets other mid ≡ count_under octets other es) → (z : Labels) → counted z (view_of mid) ≡ counted z start
    same_here same z = seen octets (octets_of z) mid ∙ same (octets_of z) ∙ sym (seen octets (octets_of z) es) ∙ ap (counted z) is

  module _ (least m : ℕ) (reach : least ≤ length above) where
    enough : least ≤ length (octets_of p)
    enough = omega (arith, reach, ap length are)

    pub less_above : (z : Labels) (a b c : ℕ) → b ≡ a - cond (name_eq p z) m 0 → c ≡ b - cond (is_below_from least p z) m 0 → c ≡ a - cond (is_below_from least n z) m 0
    less_above z a b c first rest = omega (arith, first, rest, step_above least m n p z parent enough)

    pub more_above : (z : Labels) (a b c : ℕ) → b ≡ a + cond (name_eq p z) m 0 → c ≡ b + cond (is_below_from least p z) m 0 → c ≡ a + cond (is_below_from least n z) m 0
    more_above z a b c first rest = omega (arith, first, rest, step_above least m n p z parent enough)

-- ---- how many records have an owner that passes

module _ (p : Labels → Bool) where
  pub count_both : (a b : List Record) → count_where p (a ++ b) ≡ count_where p a + count_where p b
  count_both a b = ap length (filter-append (λ r. p r.owner) a b) ∙ length-append (filter (λ r. p r.owner) a) (filter (λ r. p r.owner) b)

  pub count_one : (r : Record) (records : List Record) → count_where p (r ∷ records) ≡ cond (p r.owner) 1 0 + count_where p records
  count_one r records = by (p r.owner)
    where
      by : (b : Bool) → length (cond b (r ∷ filter (λ r. p r.owner) records) (filter (λ r. p r.owner) records)) ≡ cond b 1 0 + length (filter (λ r. p r.owner) records)
      by true = omega arith
      by false = omega arith

  pub count_push : (records : List Record) (r : Record) → count_where p (records ++ r ∷ []) ≡ count_where p records + cond (p r.owner) 1 0
  count_push records r = omega (arith, count_both records (r ∷ []), count_one r [])

  -- those taken and those left are all
  pub count_back : (taken : List Taken) (left : List Record) → count_where p (put_back taken left) ≡ count_where p (records_of taken) + count_where p left
  count_back [] left = omega arith
  count_back (t ∷ more) left =
      omega (
        arith,
        count_both (take t.gap left) (t.item ∷ put_back more (drop t.gap left)),
        count_one t.item (put_back more (drop t.gap left)),
        count_back more (drop t.gap left),
        count_one t.item (records_of more),
        count_both (take t.gap left) (drop t.gap left),
        ap (count_where p) (take-append-drop t.gap left),
      )

pub owner_kept : (new r : Record) → (retimed_by new r).owner ≡ r.owner
owner_kept new r = by (is_of_set r new)
  where
    by : (b : Bool) → (cond b (record r { ttl = new.ttl }) r).owner ≡ r.owner
    by true = refl
    by false = refl

pub count_retimed : (p : Labels → Bool) (new : Record) (records : List Record) → count_where p (map (retimed_by new) records) ≡ count_where p records
count_retimed p new [] = refl
count_retimed p new (r ∷ records) =
    count_one p (retimed_by new r) (map (retimed_by new) records) ∙ (λ i. cond (p (owner_kept new r i)) 1 0 + count_retimed p new records i) ∙ sym (count_one p r records)

-- ---- the counts of a list, by any test

module _ (counts : Labels → Labels → Bool) where
  pub counted_same : (records : List Record) (start after : List (List ℕ × ℕ)) → AreCountedBy counts records start → ((name : Labels) → counted name after ≡ counted name start) → AreCountedBy counts records after
  counted_same records start after h same name = same name ∙ h name

  pub counted_undone : (records : List Record) (new : Record) (start mid after : List (List ℕ × ℕ)) → AreCountedBy counts records start
      → ((name : Labels) → counted name mid ≡ counted name start + cond (counts name new.owner) 1 0) → ((name : Labels) → counted name after ≡ counted name mid - cond (counts name new.owner) 1 0)
      → AreCountedBy counts records after
  counted_undone records new start mid after h more less name = omega (arith, h name, more name, less name)

  pub counted_push : (records : List Record) (new : Record) (start after : List (List ℕ × ℕ)) → AreCountedBy counts records start
      → ((name : Labels) → counted name after ≡ counted name start + cond (counts name new.owner) 1 0) → AreCountedBy counts (records ++ new ∷ []) after
  counted_push records new start after h more name = omega (arith, h name, more name, count_push (counts name) records new)

  pub counted_pop : (front : List Record) (last : Record) (start after : List (List ℕ × ℕ)) → AreCountedBy counts (front ++ last ∷ []) start
      → ((name : Labels) → counted name after ≡ counted name start - cond (counts name last.owner) 1 0) → AreCountedBy counts front after
  counted_pop front last start after h less name = omega (arith, h name, less name, count_push (counts name) front last)

  pub counted_retimed : (records : List Record) (new : Record) (start : List (List ℕ × ℕ)) → AreCountedBy counts records start → AreCountedBy counts (map (retimed_by new) records) start
  counted_retimed records new start h name = h name ∙ sym (count_retimed (counts name) new records)

  pub counted_left : (before : List Record) (gaps : List ℕ) (taken : List Taken) (left : List Record) (start after : List (List ℕ × ℕ)) → AreWithin gaps before → taken ≡ at_gaps gaps before → left ≡ rest_of gaps before
      → AreCountedBy counts before start → ((name : Labels) → counted name after ≡ counted name start - count_where (counts name) (records_of taken)) → AreCountedBy counts left after
  counted_left before gaps taken left start after within taken_is left_is h less name =
      let same : put_back taken left ≡ before = (λ i. put_back (taken_is i) (left_is i)) ∙ back_at gaps before within in
      omega (arith, h name, less name, count_back (counts name) taken left, ap (count_where (counts name)) same)

  pub counted_back : (taken : List Taken) (left : List Record) (start after : List (List ℕ × ℕ)) → AreCountedBy counts left start
      → ((name : Labels) → counted name after ≡ counted name start + count_where (counts name) (records_of taken)) → AreCountedBy counts (put_back taken left) after
  counted_back taken left start after h more name = omega (arith, h name, more name, count_back (counts name) taken left)

  pub counted_gone : (before : List Record) (gaps : List ℕ) (taken : List Taken) (left : List Record) (start after : List (List ℕ × ℕ)) → AreWithin gaps before → taken ≡ at_gaps gaps before → left ≡ rest_of gaps before
      → AreCountedBy counts before start → ((name : Labels) → counted name after ≡ counted name start - count_where (counts name) left) → AreCountedBy counts (records_of taken) after
  counted_gone before gaps taken left start after within taken_is left_is h less name =
      let same : put_back taken left ≡ before = (λ i. put_back (taken_is i) (left_is i)) ∙ back_at gaps before within in
      omega (arith, h name, less name, count_back (counts name) taken left, ap (count_where (counts name)) same)
