-- The index of records by their owners: what a look-up in it tells of the list, and what it is after a change.
use Rattle.std.proofs.Common.{◌≡◌, ℕ, Bool, true, false, ◌||◌, ◌&&◌, ◌==◌, cond, List, [], ◌∷◌, ◌++◌, filter, length, length-append, arith, Option, Some, None, refl, ap, sym, subst, ◌∙◌}
use Rattle.std.specs.Prelude.{is_some, nat_eq}
use Rattle.std.specs.List.{list_any}
use Rattle.std.specs.Map.{set_value, KeepsOthers}
use Rattle.std.specs.Cmp.Lexicographic.{pointwise}
use Rattle.std.proofs.lemmas.Bool.{false≢true}
use Rattle.std.proofs.lemmas.Slice.Eq.{bytes_eq-Decides}
use Rattle.std.proofs.lemmas.List.{append-nil}
use Rattle.std.proofs.lemmas.List.Elements.{filter-append}
use Rattle.dns_name.specs.Labels.{Labels, octets_of}
use Rattle.dns_name.specs.Order.{name_eq, name_eq_exact, name_eq_itself}
use Rattle.dns_text.specs.declared.record.Record.{Record}
use Rattle.local_zone.specs.Show.{set_of}
use Rattle.local_zone.specs.Index.{of_kind, of_owner, items_in, under, AreOwned, HoldSame, IsGrouped, IsIndexed}
use Rattle.local_zone.proofs.HeldLaws.{held_empty, held_none, same_itself, same_left, same_right}

-- ---- tests of the records of an owner

module _ {X : Type 0} (p q : X → Bool) (only : (x : X) → p x ≡ true → q x ≡ true) where
  not_so : (x : X) → q x ≡ false → p x ≡ false
  not_so x e = by (p x) refl
    where
      by : (b : Bool) → p x ≡ b → p x ≡ false
      by true is = absurd (false≢true (sym e ∙ only x is))
      by false is = is

  -- a test that only records of the owner pass tells the same of them as of all
  pub any_of : (xs : List X) → list_any p (filter q xs) ≡ list_any p xs
  any_of [] = refl
  any_of (x ∷ xs) = by (q x) refl (any_of xs)
    where
      by : (b : Bool) → q x ≡ b → list_any p (filter q xs) ≡ list_any p xs → list_any p (cond b (x ∷ filter q xs) (filter q xs)) ≡ (p x || list_any p xs)
      by true e more = ap (λ r. p x || r) more
      by false e more = more ∙ sym (ap (λ r. r || list_any p xs) (not_so x e))

-- ---- a record goes last

pub filter_push : {X : Type 0} (q : X → Bool) (xs : List X) (x : X) → filter q (xs ++ x ∷ []) ≡ filter q xs ++ cond (q x) (x ∷ []) []
filter_push q xs x = filter-append q xs (x ∷ [])

-- the records of the owner, with one more of it last
pub own-push : (owner : Labels) (records : List Record) (new : Record) → name_eq new.owner owner ≡ true → of_owner owner (records ++ new ∷ []) ≡ of_owner owner records ++ new ∷ []
own-push owner records new e =
    filter_push (λ (r : Record). name_eq r.owner owner) records new ∙ ap (λ b. of_owner owner records ++ cond b (new ∷ []) []) e

-- those of another owner
pub others-push : (owner : Labels) (records : List Record) (new : Record) → name_eq new.owner owner ≡ false → of_owner owner (records ++ new ∷ []) ≡ of_owner owner records
others-push owner records new e =
    filter_push (λ (r : Record). name_eq r.owner owner) records new ∙ ap (λ b. of_owner owner records ++ cond b (new ∷ []) []) e ∙ append-nil (of_owner owner records)

module _ {K G : Type 0} (octets : K → List ℕ) (items : G → List Record) where
  -- ---- what is under a name

  -- no key is that of two names
  apart : (a b : Labels) (k : K) → name_eq a b ≡ false → pointwise nat_eq (octets_of a) (octets k) ≡ true → pointwise nat_eq (octets_of b) (octets k) ≡ false
  apart a b k e here = by (pointwise nat_eq (octets_of b) (octets k)) refl
    where
      by : (t : Bool) → pointwise nat_eq (octets_of b) (octets k) ≡ t → pointwise nat_eq (octets_of b) (octets k) ≡ false
      by true there =
          let same : octets_of a ≡ octets_of b = (bytes_eq-Decides _ _).0 here ∙ sym ((bytes_eq-Decides _ _).0 there) in
          absurd (false≢true (sym e ∙ (bytes_eq-Decides (octets_of a) (octets_of b)).1 same))
      by false there = there

  set_here : (name : List ℕ) (es : List (K × G)) (g w : G) → under octets name es ≡ Some g → under octets name (set_value (λ k. pointwise nat_eq name (octets k)) es w) ≡ Some w
  set_here name [] g w e = absurd cc
  set_here name (x ∷ es) g w e = by (pointwise nat_eq name (octets x.0)) refl e (set_here name es g w)
    where
      by : (b : Bool) → pointwise nat_eq name (octets x.0) ≡ b → cond b (Some x.1) (under octets name es) ≡ Some g → (under octets name es ≡ Some g → under octets name (set_value (λ k. pointwise nat_eq name (octets k)) es w) ≡ Some w)
          → under octets name (cond b ((x.0, w) ∷ es) (x ∷ set_value (λ k. pointwise nat_eq name (octets k)) es w)) ≡ Some w
      by true is e more = ap (λ t. cond t (Some w) (under octets name es)) is
      by false is e more = ap (λ t. cond t (Some x.1) (under octets name (set_value (λ k. pointwise nat_eq name (octets k)) es w))) is ∙ more e

  set_there : (a b : Labels) (es : List (K × G)) (w : G) → name_eq a b ≡ false → under octets (octets_of b) (set_value (λ k. pointwise nat_eq (octets_of a) (octets k)) es w) ≡ under octets (octets_of b) es
  set_there a b [] w e = refl
  set_there a b (x ∷ es) w e = by (pointwise nat_eq (octets_of a) (octets x.0)) refl (set_there a b es w e)
    where
      by : (t : Bool) → pointwise nat_eq (octets_of a) (octets x.0) ≡ t → under octets (octets_of b) (set_value (λ k. pointwise nat_eq (octets_of a) (octets k)) es w) ≡ under octets (octets_of b) es
          → under octets (octets_of b) (cond t ((x.0, w) ∷ es) (x ∷ set_value (λ k. pointwise nat_eq (octets_of a) (octets k)) es w)) ≡ cond (pointwise nat_eq (octets_of b) (octets x.0)) (Some x.1) (under octets (octets_of b) es)
      by true is more = let other = apart a b x.0 e is in ap (λ c. cond c (Some w) (under octets (octets_of b) es)) other ∙ sym (ap (λ c. cond c (Some x.1) (under octets (octets_of b) es)) other)
      by false is more = ap (λ r. cond (pointwise nat_eq (octets_of b) (octets x.0)) (Some x.1) r) more

  push_here : (a : Labels) (es : List (K × G)) (k : K) (g : G) → octets k ≡ octets_of a → under octets (octets_of a) es ≡ None → under octets (octets_of a) (es ++ (k, g) ∷ []) ≡ Some g
  push_here a [] k g e none = ap (λ t. cond t (Some g) None) (ap (pointwise nat_eq (octets_of a)) e ∙ name_eq_itself a)
  push_here a (x ∷ es) k g e none = by (pointwise nat_eq (octets_of a) (octets x.0)) none (push_here a es k g e)
    where
      by : (b : Bool) → cond b (Some x.1) (under octets (octets_of a) es) ≡ None → (under octets (octets_of a) es ≡ None → under octets (octets_of a) (es ++ (k, g) ∷ []) ≡ Some g)
          → cond b (Some x.1) (under octets (octets_of a) (es ++ (k, g) ∷ [])) ≡ Some g
      by true none more = absurd cc
      by false none more = more none

  push_there : (a b : Labels) (es : List (K × G)) (k : K) (g : G) → octets k ≡ octets_of a → name_eq a b ≡ false → under octets (octets_of b) (es ++ (k, g) ∷ []) ≡ under octets (octets_of b) es
  push_there a b [] k g e differ = ap (λ t. cond t (Some g) None) (apart a b k differ (ap (pointwise nat_eq (octets_of a)) e ∙ name_eq_itself a))
  push_there a b (x ∷ es) k g e differ = ap (λ r. cond (pointwise nat_eq (octets_of b) (octets x.0)) (Some x.1) r) (push_there a b es k g e differ)

  -- ---- the index after a record goes last

  pub index-set : (records : List Record) (es : List (K × G)) (new : Record) (g w : G) → IsIndexed octets items records es → under octets (octets_of new.owner) es ≡ Some g → ((all : List Record) → HoldSame (items g) all → HoldSame (items w) (all ++ new ∷ []))
      → IsIndexed octets items (records ++ new ∷ []) (set_value (λ k. pointwise nat_eq (octets_of new.owner) (octets k)) es w)
  index-set records es new g w h found is owner = by (name_eq new.owner owner) refl
    where
      by : (b : Bool) → name_eq new.owner owner ≡ b → HoldSame (items_in items (under octets (octets_of owner) (set_value (λ k. pointwise nat_eq (octets_of new.owner) (octets k)) es w))) (of_owner owner (records ++ new ∷ []))
      by true e =
          let same : new.owner ≡ owner = name_eq_exact new.owner owner e in
          let own : HoldSame (items g) (of_owner new.owner records) = same_left (sym (ap (items_in items) found)) (h new.owner) in
          let here = same_left (ap (items_in items) (set_here (octets_of new.owner) es g w found)) (same_right (is (of_owner new.owner records) own) (sym (own-push new.owner records new (name_eq_itself new.owner)))) in
          subst (λ o. HoldSame (items_in items (under octets (octets_of o) (set_value (λ k. pointwise nat_eq (octets_of new.owner) (octets k)) es w))) (of_owner o (records ++ new ∷ []))) same here
      by false e = same_left (ap (items_in items) (set_there new.owner owner es w e)) (same_right (h owner) (sym (others-push owner records new e)))

  pub index-push : (records : List Record) (es : List (K × G)) (new : Record) (k : K) (w : G) → IsIndexed octets items records es → under octets (octets_of new.owner) es ≡ None → octets k ≡ octets_of new.owner → items w ≡ new ∷ []
      → IsIndexed octets items (records ++ new ∷ []) (es ++ (k, w) ∷ [])
  index-push records es new k w h none key is owner = by (name_eq new.owner owner) refl
    where
      by : (b : Bool) → name_eq new.owner owner ≡ b → HoldSame (items_in items (under octets (octets_of owner) (es ++ (k, w) ∷ []))) (of_owner owner (records ++ new ∷ []))
      by true e =
          let same : new.owner ≡ owner = name_eq_exact new.owner owner e in
          let first : of_owner new.owner records ≡ [] = held_none (of_owner new.owner records) (same_left (sym (ap (items_in items) none)) (h new.owner)) in
          let own : of_owner new.owner (records ++ new ∷ []) ≡ new ∷ [] = own-push new.owner records new (name_eq_itself new.owner) ∙ ap (λ r. r ++ new ∷ []) first in
          let here = same_left (ap (items_in items) (push_here new.owner es k w key none) ∙ is) (same_right (same_itself (new ∷ [])) (sym own)) in
          subst (λ o. HoldSame (items_in items (under octets (octets_of o) (es ++ (k, w) ∷ []))) (of_owner o (records ++ new ∷ []))) same here
      by false e = same_left (ap (items_in items) (push_there new.owner owner es k w key e)) (same_right (h owner) (sym (others-push owner records new e)))

  -- ---- the index after the records of one owner are written anew

  pub index-write : (records after : List Record) (es : List (K × G)) (name : Labels) (g w : G) → IsIndexed octets items records es → under octets (octets_of name) es ≡ Some g → HoldSame (items w) (of_owner name after)
      → ((o : Labels) → name_eq name o ≡ false → of_owner o after ≡ of_owner o records) → IsIndexed octets items after (set_value (λ k. pointwise nat_eq (octets_of name) (octets k)) es w)
  index-write records after es name g w h found is others owner = by (name_eq name owner) refl
    where
      by : (b : Bool) → name_eq name owner ≡ b → HoldSame (items_in items (under octets (octets_of owner) (set_value (λ k. pointwise nat_eq (octets_of name) (octets k)) es w))) (of_owner owner after)
      by true e =
          let here = same_left (ap (items_in items) (set_here (octets_of name) es g w found)) is in
          subst (λ o. HoldSame (items_in items (under octets (octets_of o) (set_value (λ k. pointwise nat_eq (octets_of name) (octets k)) es w))) (of_owner o after)) (name_eq_exact name owner e) here
      by false e = same_left (ap (items_in items) (set_there name owner es w e)) (same_right (h owner) (sym (others owner e)))

  pub index-keep : (records : List Record) (es : List (K × G)) (name : Labels) (g w : G) → IsIndexed octets items records es → under octets (octets_of name) es ≡ Some g → items w ≡ items g
      → IsIndexed octets items records (set_value (λ k. pointwise nat_eq (octets_of name) (octets k)) es w)
  index-keep records es name g w h found is = index-write records records es name g w h found (same_left (is ∙ sym (ap (items_in items) found)) (h name)) (λ o e. refl)

  -- ---- the index after the last record of its owner goes

  pub index-front : (front : List Record) (last : Record) (es : List (K × G)) (g w : G) → IsIndexed octets items (front ++ last ∷ []) es → under octets (octets_of last.owner) es ≡ Some g
      → (HoldSame (items g) (of_owner last.owner front ++ last ∷ []) → HoldSame (items w) (of_owner last.owner front)) → IsIndexed octets items front (set_value (λ k. pointwise nat_eq (octets_of last.owner) (octets k)) es w)
  index-front front last es g w h found is =
      let own : HoldSame (items g) (of_owner last.owner front ++ last ∷ []) = same_right (same_left (sym (ap (items_in items) found)) (h last.owner)) (own-push last.owner front last (name_eq_itself last.owner)) in
      index-write (front ++ last ∷ []) front es last.owner g w h found (is own) (λ o differ. sym (others-push o front last differ))

  pub index-some : (front : List Record) (last : Record) (es : List (K × G)) → IsIndexed octets items (front ++ last ∷ []) es → under octets (octets_of last.owner) es ≡ None → ⊥
  index-some front last es h none =
      let own : HoldSame [] (of_owner last.owner (front ++ last ∷ [])) = same_left (sym (ap (items_in items) none)) (h last.owner) in
      let empty : [] ≡ of_owner last.owner front ++ last ∷ [] = sym (held_none (of_owner last.owner (front ++ last ∷ [])) own) ∙ own-push last.owner front last (name_eq_itself last.owner) in
      omega (arith, ap length empty, length-append (of_owner last.owner front) (last ∷ []))

  pub index-drop : (records : List Record) (es after : List (K × G)) (name : Labels) → IsIndexed octets items records es → items_in items (under octets (octets_of name) es) ≡ [] → under octets (octets_of name) after ≡ None
      → KeepsOthers (λ x y. pointwise nat_eq (octets x) (octets y)) (λ k. pointwise nat_eq (octets_of name) (octets k)) es after → IsIndexed octets items records after
  unfolding KeepsOthers
  index-drop records es after name h empty none others owner = by (name_eq name owner) refl
    where
      by : (b : Bool) → name_eq name owner ≡ b → HoldSame (items_in items (under octets (octets_of owner) after)) (of_owner owner records)
      by true e =
          let here : HoldSame (items_in items (under octets (octets_of name) after)) (of_owner name records) = same_left (ap (items_in items) none ∙ sym empty) (h name) in
          subst (λ o. HoldSame (items_in items (under octets (octets_of o) after)) (of_owner o records)) (name_eq_exact name owner e) here
      by false e =
          same_left (ap (items_in items) (others (λ k. pointwise nat_eq (octets_of owner) (octets k))
          (λ x y is. ap (λ s. pointwise nat_eq s (octets y)) ((bytes_eq-Decides (octets_of owner) (octets x)).0 is))
          (λ k is. apart name owner k e is)))
          (h owner)

  -- ---- no group but of an owner that has records

  own-some : (records : List Record) (new : Record) → of_owner new.owner (records ++ new ∷ []) ≡ [] → ⊥
  own-some records new none =
      let empty : [] ≡ of_owner new.owner records ++ new ∷ [] = sym none ∙ own-push new.owner records new (name_eq_itself new.owner) in
      omega (arith, ap length empty, length-append (of_owner new.owner records) (new ∷ []))

  -- an owner that has a group has records
  pub owned-some : (records : List Record) (es : List (K × G)) (owner : Labels) (g : G) → AreOwned octets records es → under octets (octets_of owner) es ≡ Some g → of_owner owner records ≡ [] → ⊥
  owned-some records es owner g h found none = false≢true (ap is_some (sym (h owner none) ∙ found))

  pub owned-write : (records after : List Record) (es : List (K × G)) (name : Labels) (w : G) → AreOwned octets records es → (of_owner name after ≡ [] → ⊥)
      → ((o : Labels) → name_eq name o ≡ false → of_owner o after ≡ of_owner o records) → AreOwned octets after (set_value (λ k. pointwise nat_eq (octets_of name) (octets k)) es w)
  owned-write records after es name w h some others owner none = by (name_eq name owner) refl
    where
      by : (b : Bool) → name_eq name owner ≡ b → under octets (octets_of owner) (set_value (λ k. pointwise nat_eq (octets_of name) (octets k)) es w) ≡ None
      by true e = absurd (some (subst (λ (o : Labels). of_owner o after ≡ []) (sym (name_eq_exact name owner e)) none))
      by false e = set_there name owner es w e ∙ h owner (sym (others owner e) ∙ none)

  pub grouped-set : (records : List Record) (es : List (K × G)) (new : Record) (g w : G) → IsGrouped octets items records es → under octets (octets_of new.owner) es ≡ Some g → ((all : List Record) → HoldSame (items g) all → HoldSame (items w) (all ++ new ∷ []))
      → IsGrouped octets items (records ++ new ∷ []) (set_value (λ k. pointwise nat_eq (octets_of new.owner) (octets k)) es w)
  grouped-set records es new g w h found is = (
    index-set records es new g w h.0 found is,
    owned-write records (records ++ new ∷ []) es new.owner w h.1 (own-some records new) (λ o e. others-push o records new e),
  )

  pub grouped-push : (records : List Record) (es : List (K × G)) (new : Record) (k : K) (w : G) → IsGrouped octets items records es → under octets (octets_of new.owner) es ≡ None → octets k ≡ octets_of new.owner → items w ≡ new ∷ []
      → IsGrouped octets items (records ++ new ∷ []) (es ++ (k, w) ∷ [])
  grouped-push records es new k w h none key is = (index-push records es new k w h.0 none key is, λ owner empty. by owner empty (name_eq new.owner owner) refl)
    where
      by : (owner : Labels) → of_owner owner (records ++ new ∷ []) ≡ [] → (b : Bool) → name_eq new.owner owner ≡ b → under octets (octets_of owner) (es ++ (k, w) ∷ []) ≡ None
      by owner empty true e = absurd (own-some records new (subst (λ (o : Labels). of_owner o (records ++ new ∷ []) ≡ []) (sym (name_eq_exact new.owner owner e)) empty))
      by owner empty false e = push_there new.owner owner es k w key e ∙ h.1 owner (sym (others-push owner records new e) ∙ empty)

  pub grouped-keep : (records : List Record) (es : List (K × G)) (name : Labels) (g w : G) → IsGrouped octets items records es → under octets (octets_of name) es ≡ Some g → items w ≡ items g
      → IsGrouped octets items records (set_value (λ k. pointwise nat_eq (octets_of name) (octets k)) es w)
  grouped-keep records es name g w h found is =
      (index-keep records es name g w h.0 found is, owned-write records records es name w h.1 (owned-some records es name g h.1 found) (λ o e. refl))

  -- the group of the last record's owner is not empty yet
  pub grouped-front : (front : List Record) (last : Record) (es : List (K × G)) (g w : G) → IsGrouped octets items (front ++ last ∷ []) es → under octets (octets_of last.owner) es ≡ Some g
      → (HoldSame (items g) (of_owner last.owner front ++ last ∷ []) → HoldSame (items w) (of_owner last.owner front)) → (items w ≡ [] → ⊥) → IsGrouped octets items front (set_value (λ k. pointwise nat_eq (octets_of last.owner) (octets k)) es w)
  grouped-front front last es g w h found is some =
      let index = index-front front last es g w h.0 found is in
      let own : HoldSame (items w) (of_owner last.owner front) = same_left (sym (ap (items_in items) (set_here (octets_of last.owner) es g w found))) (index last.owner) in
      (index, owned-write (front ++ last ∷ []) front es last.owner w h.1 (λ none. some (held_empty (items w) (same_right own none))) (λ o e. sym (others-push o front last e)))

  -- the group of the last record's owner goes
  pub grouped-drop : (front : List Record) (last : Record) (es mid after : List (K × G)) → IsGrouped octets items (front ++ last ∷ []) es → IsIndexed octets items front mid
      → ((o : Labels) → name_eq last.owner o ≡ false → under octets (octets_of o) mid ≡ under octets (octets_of o) es)
      → items_in items (under octets (octets_of last.owner) mid) ≡ [] → under octets (octets_of last.owner) after ≡ None
      → KeepsOthers (λ x y. pointwise nat_eq (octets x) (octets y)) (λ k. pointwise nat_eq (octets_of last.owner) (octets k)) mid after → IsGrouped octets items front after
  unfolding KeepsOthers
  grouped-drop front last es mid after h index kept empty gone others = (index-drop front mid after last.owner index empty gone others, λ owner none. by owner none (name_eq last.owner owner) refl)
    where
      by : (owner : Labels) → of_owner owner front ≡ [] → (b : Bool) → name_eq last.owner owner ≡ b → under octets (octets_of owner) after ≡ None
      by owner none true e = subst (λ (o : Labels). under octets (octets_of o) after ≡ None) (name_eq_exact last.owner owner e) gone
      by owner none false e =
          others (λ k. pointwise nat_eq (octets_of owner) (octets k)) (λ x y is. ap (λ s. pointwise nat_eq s (octets y)) ((bytes_eq-Decides (octets_of owner) (octets x)).0 is)) (λ k is. apart last.owner owner k e is)
          ∙ kept owner e ∙ h.1 owner (others-push owner front last e ∙ none)

  pub others-set : (name other : Labels) (es : List (K × G)) (w : G) → name_eq name other ≡ false → under octets (octets_of other) (set_value (λ k. pointwise nat_eq (octets_of name) (octets k)) es w) ≡ under octets (octets_of other) es
  others-set name other es w e = set_there name other es w e

  -- what a look-up in the index tells
  pub of-found : (records : List Record) (es : List (K × G)) (owner : Labels) (spelled : List ℕ) (found : Option G) → IsIndexed octets items records es → spelled ≡ octets_of owner → under octets spelled es ≡ found → HoldSame (items_in items found) (of_owner owner records)
  of-found records es owner spelled found h e is = same_left (ap (items_in items) (sym is) ∙ ap (λ (s : List ℕ). items_in items (under octets s es)) e) (h owner)

-- the records of an owner and type are those of the type among those of the owner
pub set-of-owner : (owner : Labels) (kind : ℕ) (records : List Record) → set_of owner kind records ≡ of_kind kind (of_owner owner records)
set-of-owner owner kind [] = refl
set-of-owner owner kind (r ∷ records) = by (name_eq r.owner owner) (set-of-owner owner kind records)
  where
    by : (b : Bool) → set_of owner kind records ≡ of_kind kind (of_owner owner records)
        → cond (b && r.kind == kind) (r ∷ set_of owner kind records) (set_of owner kind records) ≡ of_kind kind (cond b (r ∷ of_owner owner records) (of_owner owner records))
    by true more = ap (λ (l : List Record). cond (r.kind == kind) (r ∷ l) l) more
    by false more = more
