-- The records of owners that go from the index to a list of groups, and come back.
use Rattle.std.proofs.Common.{◌≡◌, ℕ, ◌⊎◌, inl, inr, Bool, true, false, cond, List, [], ◌∷◌, ◌++◌, Option, Some, None, refl, ap, sym, subst, ◌∙◌}
use Rattle.std.specs.Prelude.{nat_eq, IsOk, OnOk, Result, Ok, Err}
use Rattle.std.specs.List.{AllByRecursion}
use Rattle.std.specs.Map.{lookup_key, KeepsOthers}
use Rattle.std.specs.Cmp.Lexicographic.{pointwise}
use Rattle.std.proofs.lemmas.Bool.{false≢true}
use Rattle.std.proofs.lemmas.Map.Made.{lookup_key_passes}
use Rattle.std.proofs.lemmas.Slice.Eq.{bytes_eq-Decides}
use Rattle.dns_name.specs.Labels.{Labels, octets_of}
use Rattle.dns_name.specs.Order.{name_eq, name_eq_exact}
use Rattle.dns_text.specs.declared.record.Record.{Record}
use Rattle.local_zone.specs.declared.taken.Taken.{Taken}
use Rattle.local_zone.specs.Gaps.{records_of, put_back, at_gaps, rest_of, AreApart, AreWithin}
use Rattle.local_zone.specs.Index.{of_owner, items_in, under, AreOwned, HoldSame, IsIndexed, IsGrouped}
use Rattle.local_zone.proofs.GapLaws.{back_at, put_none, put_all}
use Rattle.local_zone.proofs.HeldLaws.{held_none, same_itself, same_left, same_right}

abbrev pub first_of : {G : Type 0} → Option G → Option G → Option G
first_of None other = other
first_of (Some g) other = Some g

first_none : {G : Type 0} (x : Option G) → first_of x None ≡ x
first_none None = refl
first_none (Some g) = refl

first_three : {G : Type 0} (x y z : Option G) → first_of (first_of x y) z ≡ first_of x (first_of y z)
first_three None y z = refl
first_three (Some g) y z = refl

same_octets : (a b : List ℕ) → pointwise nat_eq a b ≡ true → a ≡ b
same_octets a b h = (bytes_eq-Decides a b).0 h

-- Each owner has its records in one of two parts of a list, in order.
pub record AreParts (part rest all : List Record) : Type 0 where
  pub apart : (owner : Labels) → (of_owner owner part ≡ []) ⊎ (of_owner owner rest ≡ [])
  pub without : (owner : Labels) → of_owner owner part ≡ [] → of_owner owner all ≡ of_owner owner rest
  pub alone : (owner : Labels) → of_owner owner rest ≡ [] → of_owner owner all ≡ of_owner owner part

-- what was taken, and what stayed
pub parts_back : (taken : List Taken) (left : List Record) → AreApart taken left → AreParts (records_of taken) left (put_back taken left)
parts_back taken left apart = record { apart = apart; without = λ owner none. put_none owner taken left none; alone = λ owner none. put_all owner taken left none }

pub parts_cut : (before : List Record) (gaps : List ℕ) (taken : List Taken) (left : List Record) → AreWithin gaps before → AreApart (at_gaps gaps before) (rest_of gaps before) → taken ≡ at_gaps gaps before → left ≡ rest_of gaps before
    → AreParts (records_of taken) left before
parts_cut before gaps taken left within apart taken_is left_is =
    let same : put_back taken left ≡ before = (λ i. put_back (taken_is i) (left_is i)) ∙ back_at gaps before within in
    let parted : AreApart taken left = subst (λ (x : List Taken). AreApart x left) (sym taken_is) (subst (λ (y : List Record). AreApart (at_gaps gaps before) y) (sym left_is) apart) in
    subst (λ (x : List Record). AreParts (records_of taken) left x) same (parts_back taken left parted)

-- what stayed, and what was taken
pub parts_turned : (part rest all : List Record) → AreParts part rest all → AreParts rest part all
parts_turned part rest all are = record { apart = λ owner. elim (are.apart owner) [ inl none ↦ inr none | inr none ↦ inl none ]; without = are.alone; alone = are.without }

module _ {K G : Type 0} (octets : K → List ℕ) (items : G → List Record) where
  under_append : (name : List ℕ) (a b : List (K × G)) → under octets name (a ++ b) ≡ first_of (under octets name a) (under octets name b)
  under_append name [] b = refl
  under_append name (x ∷ a) b = by (pointwise nat_eq name (octets x.0)) (under_append name a b)
    where
      by : (t : Bool) → under octets name (a ++ b) ≡ first_of (under octets name a) (under octets name b)
          → cond t (Some x.1) (under octets name (a ++ b)) ≡ first_of (cond t (Some x.1) (under octets name a)) (under octets name b)
      by true more = refl
      by false more = more

  one_here : (name : List ℕ) (k : K) (g : G) → octets k ≡ name → under octets name ((k, g) ∷ []) ≡ Some g
  one_here name k g e = ap (λ t. cond t (Some g) None) (ap (pointwise nat_eq name) e ∙ (bytes_eq-Decides name name).1 refl)

  one_there : (name : List ℕ) (k : K) (g : G) → pointwise nat_eq name (octets k) ≡ false → under octets name ((k, g) ∷ []) ≡ None
  one_there name k g e = ap (λ t. cond t (Some g) None) e

  -- no key is that of two names
  apart_from : (a b : Labels) (k : List ℕ) → name_eq a b ≡ false → pointwise nat_eq (octets_of a) k ≡ true → pointwise nat_eq (octets_of b) k ≡ false
  apart_from a b k e here = by (pointwise nat_eq (octets_of b) k) refl
    where
      by : (t : Bool) → pointwise nat_eq (octets_of b) k ≡ t → pointwise nat_eq (octets_of b) k ≡ false
      by true there = absurd (false≢true (sym e ∙ (bytes_eq-Decides (octets_of a) (octets_of b)).1 (same_octets _ _ here ∙ sym (same_octets _ _ there))))
      by false there = there

  -- a change under one key leaves what is under others
  pub others_kept : (spelled name : List ℕ) (es after : List (K × G))
      → KeepsOthers (λ x y. pointwise nat_eq (octets x) (octets y)) (λ k. pointwise nat_eq spelled (octets k)) es after
      → ((k : K) → pointwise nat_eq spelled (octets k) ≡ true → pointwise nat_eq name (octets k) ≡ false) → under octets name after ≡ under octets name es
  unfolding KeepsOthers
  others_kept spelled name es after h far = h (λ k. pointwise nat_eq name (octets k)) (λ x y is. ap (λ s. pointwise nat_eq s (octets y)) (same_octets name (octets x) is)) far

  pub under_others : (owner other : Labels) (es after : List (K × G))
      → KeepsOthers (λ x y. pointwise nat_eq (octets x) (octets y)) (λ k. pointwise nat_eq (octets_of owner) (octets k)) es after → name_eq owner other ≡ false
      → under octets (octets_of other) after ≡ under octets (octets_of other) es
  under_others owner other es after h e = others_kept (octets_of owner) (octets_of other) es after h (λ k is. apart_from owner other (octets k) e is)

  -- ---- a group goes

  pub record IsMoved (owner : Labels) (groups es groups' es' : List (K × G)) : Type 0 where
    pub here : first_of (under octets (octets_of owner) groups') (under octets (octets_of owner) es') ≡ first_of (under octets (octets_of owner) groups) (under octets (octets_of owner) es)
    pub kept : (other : Labels) → name_eq owner other ≡ false → under octets (octets_of other) es' ≡ under octets (octets_of other) es
    pub others : (other : Labels) → name_eq owner other ≡ false → under octets (octets_of other) groups' ≡ under octets (octets_of other) groups

  same_moved : (owner : Labels) (groups es groups' es' : List (K × G)) → IsMoved owner groups es groups' es' → (other : Labels)
      → under octets (octets_of other) (groups' ++ es') ≡ under octets (octets_of other) (groups ++ es)
  same_moved owner groups es groups' es' m other = by (name_eq owner other) refl
    where
      by : (b : Bool) → name_eq owner other ≡ b → under octets (octets_of other) (groups' ++ es') ≡ under octets (octets_of other) (groups ++ es)
      by true e =
          let one : under octets (octets_of owner) (groups' ++ es') ≡ under octets (octets_of owner) (groups ++ es)
          = under_append (octets_of owner) groups' es' ∙ m.here ∙ sym (under_append (octets_of owner) groups es) in
          subst (λ (o : Labels). under octets (octets_of o) (groups' ++ es') ≡ under octets (octets_of o) (groups ++ es)) (name_eq_exact owner other e) one
      by false e = under_append (octets_of other) groups' es' ∙ (λ i. first_of (m.others other e i) (m.kept other e i)) ∙ sym (under_append (octets_of other) groups es)

  -- both together index the same records, and no group is empty
  pub grouped_moved : (owner : Labels) (groups es groups' es' : List (K × G)) → IsMoved owner groups es groups' es' → (records : List Record)
      → IsGrouped octets items records (groups ++ es) → IsGrouped octets items records (groups' ++ es')
  grouped_moved owner groups es groups' es' m records h = (
    λ other. same_left (ap (items_in items) (same_moved owner groups es groups' es' m other)) (h.0 other),
    λ other none. same_moved owner groups es groups' es' m other ∙ h.1 other none,
  )

  pub moved_some : (owner : Labels) (groups groups' es after : List (K × G)) (k : K) (g : G) → octets k ≡ octets_of owner → under octets (octets_of owner) groups ≡ None → under octets (octets_of owner) es ≡ Some g
      → under octets (octets_of owner) after ≡ None → KeepsOthers (λ x y. pointwise nat_eq (octets x) (octets y)) (λ k. pointwise nat_eq (octets_of owner) (octets k)) es after
      → under octets (octets k) groups' ≡ Some g → KeepsOthers (λ x y. pointwise nat_eq (octets x) (octets y)) (λ q. pointwise nat_eq (octets k) (octets q)) groups groups'
      → IsMoved owner groups es groups' after
  moved_some owner groups groups' es after k g key none found gone keeps put puts =
      let now : under octets (octets_of owner) groups' ≡ Some g = ap (λ (s : List ℕ). under octets s groups') (sym key) ∙ put in
      record {
        here = (λ i. first_of (now i) (gone i)) ∙ sym (λ i. first_of (none i) (found i));
        kept = λ other e. under_others owner other es after keeps e;
        others = λ other e. others_kept (octets k) (octets_of other) groups groups' puts (λ q is. apart_from owner other (octets q) e (ap (λ (s : List ℕ). pointwise nat_eq s (octets q)) (sym key) ∙ is));
      }

  -- a name that has a group in one has none in the other
  pub absent_here : (owner : Labels) (groups es : List (K × G)) (g : G) → under octets (octets_of owner) es ≡ Some g
      → (under octets (octets_of owner) groups ≡ None) ⊎ (under octets (octets_of owner) es ≡ None) → under octets (octets_of owner) groups ≡ None
  absent_here owner groups es g found (inl none) = none
  absent_here owner groups es g found (inr none) = let both : Some g ≡ None = sym found ∙ none in absurd cc

  pub apart_moved : (owner : Labels) (groups es groups' es' : List (K × G)) → IsMoved owner groups es groups' es' → under octets (octets_of owner) es' ≡ None
      → ((o : Labels) → (under octets (octets_of o) groups ≡ None) ⊎ (under octets (octets_of o) es ≡ None)) → (o : Labels) → (under octets (octets_of o) groups' ≡ None) ⊎ (under octets (octets_of o) es' ≡ None)
  apart_moved owner groups es groups' es' m gone apart o = by (name_eq owner o) refl
    where
      by : (b : Bool) → name_eq owner o ≡ b → (under octets (octets_of o) groups' ≡ None) ⊎ (under octets (octets_of o) es' ≡ None)
      by true e = inr (subst (λ (x : Labels). under octets (octets_of x) es' ≡ None) (name_eq_exact owner o e) gone)
      by false e = elim (apart o) [ inl none ↦ inl (m.others o e ∙ none) | inr none ↦ inr (m.kept o e ∙ none) ]

  -- what was not there is not there after
  pub still_none : (owner other : Labels) (es after : List (K × G)) → under octets (octets_of owner) after ≡ None
      → KeepsOthers (λ x y. pointwise nat_eq (octets x) (octets y)) (λ k. pointwise nat_eq (octets_of owner) (octets k)) es after → under octets (octets_of other) es ≡ None → under octets (octets_of other) after ≡ None
  still_none owner other es after gone keeps none = by (name_eq owner other) refl
    where
      by : (b : Bool) → name_eq owner other ≡ b → under octets (octets_of other) after ≡ None
      by true e = subst (λ (o : Labels). under octets (octets_of o) after ≡ None) (name_eq_exact owner other e) gone
      by false e = under_others owner other es after keeps e ∙ none

  -- ---- a group comes back

  same_put : (groups es after : List (K × G)) (k : K) (g : G) → under octets (octets k) after ≡ Some g
      → KeepsOthers (λ x y. pointwise nat_eq (octets x) (octets y)) (λ q. pointwise nat_eq (octets k) (octets q)) es after → (owner : Labels)
      → under octets (octets_of owner) (groups ++ after) ≡ under octets (octets_of owner) ((groups ++ (k, g) ∷ []) ++ es)
  same_put groups es after k g here keeps owner = same
    where
      rest : (b : Bool) → pointwise nat_eq (octets_of owner) (octets k) ≡ b → under octets (octets_of owner) after ≡ first_of (under octets (octets_of owner) ((k, g) ∷ [])) (under octets (octets_of owner) es)
      rest true is =
          let e : octets_of owner ≡ octets k = same_octets _ _ is in
          ap (λ (s : List ℕ). under octets s after) e ∙ here ∙ ap (λ (x : Option G). first_of x (under octets (octets_of owner) es)) (sym (one_here (octets_of owner) k g (sym e)))
      rest false is =
          others_kept (octets k) (octets_of owner) es after keeps (λ q at. ap (pointwise nat_eq (octets_of owner)) (sym (same_octets _ _ at)) ∙ is)
          ∙ ap (λ (x : Option G). first_of x (under octets (octets_of owner) es)) (sym (one_there (octets_of owner) k g is))

      same : under octets (octets_of owner) (groups ++ after) ≡ under octets (octets_of owner) ((groups ++ (k, g) ∷ []) ++ es)
      same =
          under_append (octets_of owner) groups after ∙ ap (first_of (under octets (octets_of owner) groups)) (rest (pointwise nat_eq (octets_of owner) (octets k)) refl)
          ∙ sym (first_three (under octets (octets_of owner) groups) (under octets (octets_of owner) ((k, g) ∷ [])) (under octets (octets_of owner) es))
          ∙ ap (λ (x : Option G). first_of x (under octets (octets_of owner) es)) (sym (under_append (octets_of owner) groups ((k, g) ∷ [])))
          ∙ sym (under_append (octets_of owner) (groups ++ (k, g) ∷ []) es)

  pub grouped_put : (groups es after : List (K × G)) (k : K) (g : G) → under octets (octets k) after ≡ Some g
      → KeepsOthers (λ x y. pointwise nat_eq (octets x) (octets y)) (λ q. pointwise nat_eq (octets k) (octets q)) es after → (records : List Record)
      → IsGrouped octets items records ((groups ++ (k, g) ∷ []) ++ es) → IsGrouped octets items records (groups ++ after)
  grouped_put groups es after k g here keeps records h =
      (λ owner. same_left (ap (items_in items) (same_put groups es after k g here keeps owner)) (h.0 owner), λ owner none. same_put groups es after k g here keeps owner ∙ h.1 owner none)

  -- ---- two indexes that share no owner

  first_either : (x y : Option G) → (x ≡ None) ⊎ (y ≡ None) → first_of x y ≡ first_of y x
  first_either x y (inl none) = ap (λ (v : Option G). first_of v y) none ∙ sym (first_none y) ∙ ap (first_of y) (sym none)
  first_either x y (inr none) = ap (first_of x) none ∙ first_none x ∙ ap (λ (v : Option G). first_of v x) (sym none)

  -- their order does not matter
  pub grouped_swapped : (a b : List (K × G)) → ((o : Labels) → (under octets (octets_of o) a ≡ None) ⊎ (under octets (octets_of o) b ≡ None)) → (records : List Record)
      → IsGrouped octets items records (a ++ b) → IsGrouped octets items records (b ++ a)
  grouped_swapped a b apart records h = (λ o. same_left (ap (items_in items) (same o)) (h.0 o), λ o none. same o ∙ h.1 o none)
    where
      same : (o : Labels) → under octets (octets_of o) (b ++ a) ≡ under octets (octets_of o) (a ++ b)
      same o =
          under_append (octets_of o) b a ∙ sym (first_either (under octets (octets_of o) a) (under octets (octets_of o) b) (apart o)) ∙ sym (under_append (octets_of o) a b)

  -- ---- the index of one part of a list, and that of the other

  -- an owner with a record in the part has no group there any more
  pub taken_out : (owner : Labels) (es : List (K × G)) (taken : List Taken) → AllByRecursion (λ t. under octets (octets_of t.item.owner) es ≡ None) taken
      → (of_owner owner (records_of taken) ≡ []) ⊎ (under octets (octets_of owner) es ≡ None)
  taken_out owner es [] h = inl refl
  taken_out owner es (t ∷ taken) h = by (name_eq t.item.owner owner) refl (taken_out owner es taken h.1)
    where
      by : (b : Bool) → name_eq t.item.owner owner ≡ b → (of_owner owner (records_of taken) ≡ []) ⊎ (under octets (octets_of owner) es ≡ None)
          → (cond b (t.item ∷ of_owner owner (records_of taken)) (of_owner owner (records_of taken)) ≡ []) ⊎ (under octets (octets_of owner) es ≡ None)
      by true e more = inr (subst (λ (o : Labels). under octets (octets_of o) es ≡ None) (name_eq_exact t.item.owner owner e) h.0)
      by false e more = more

  pub kept_out : (owner : Labels) (es : List (K × G)) (left : List Record) → AllByRecursion (λ r. under octets (octets_of r.owner) es ≡ None) left
      → (of_owner owner left ≡ []) ⊎ (under octets (octets_of owner) es ≡ None)
  kept_out owner es [] h = inl refl
  kept_out owner es (r ∷ left) h = by (name_eq r.owner owner) refl (kept_out owner es left h.1)
    where
      by : (b : Bool) → name_eq r.owner owner ≡ b → (of_owner owner left ≡ []) ⊎ (under octets (octets_of owner) es ≡ None)
          → (cond b (r ∷ of_owner owner left) (of_owner owner left) ≡ []) ⊎ (under octets (octets_of owner) es ≡ None)
      by true e more = inr (subst (λ (o : Labels). under octets (octets_of o) es ≡ None) (name_eq_exact r.owner owner e) h.0)
      by false e more = more

  module _ (part rest all : List Record) (groups es : List (K × G)) (are : AreParts part rest all) where
    first_groups : (owner : Labels) → under octets (octets_of owner) groups ≡ None → under octets (octets_of owner) (groups ++ es) ≡ under octets (octets_of owner) es
    first_groups owner none = under_append (octets_of owner) groups es ∙ ap (λ (x : Option G). first_of x (under octets (octets_of owner) es)) none

    module _ (h : IsGrouped octets items all (groups ++ es)) (only : (owner : Labels) → of_owner owner part ≡ [] → under octets (octets_of owner) groups ≡ None)
        (out : (owner : Labels) → (of_owner owner part ≡ []) ⊎ (under octets (octets_of owner) es ≡ None)) where
      split_rest : IsIndexed octets items rest es
      split_rest owner = by (out owner)
        where
          where_none : of_owner owner part ≡ [] → HoldSame (items_in items (under octets (octets_of owner) es)) (of_owner owner rest)
          where_none none = same_left (ap (items_in items) (sym (first_groups owner (only owner none)))) (same_right (h.0 owner) (are.without owner none))

          by : (of_owner owner part ≡ []) ⊎ (under octets (octets_of owner) es ≡ None) → HoldSame (items_in items (under octets (octets_of owner) es)) (of_owner owner rest)
          by (inl none) = where_none none
          by (inr gone) = elim (are.apart owner) [ inl none ↦ where_none none | inr alone ↦ same_left (ap (items_in items) gone) (same_right (same_itself []) (sym alone)) ]

      owned_rest : AreOwned octets rest es
      owned_rest owner alone = by (out owner)
        where
          by : (of_owner owner part ≡ []) ⊎ (under octets (octets_of owner) es ≡ None) → under octets (octets_of owner) es ≡ None
          by (inl none) = sym (first_groups owner (only owner none)) ∙ h.1 owner (are.without owner none ∙ alone)
          by (inr gone) = gone

      split_part : IsIndexed octets items part groups
      split_part owner = by (out owner)
        where
          where_none : of_owner owner part ≡ [] → HoldSame (items_in items (under octets (octets_of owner) groups)) (of_owner owner part)
          where_none none = same_left (ap (items_in items) (only owner none)) (same_right (same_itself []) (sym none))

          by : (of_owner owner part ≡ []) ⊎ (under octets (octets_of owner) es ≡ None) → HoldSame (items_in items (under octets (octets_of owner) groups)) (of_owner owner part)
          by (inl none) = where_none none
          by (inr gone) =
              elim (are.apart owner) [
                | inl none ↦ where_none none
                | inr alone ↦
                    same_left (ap (items_in items) (sym (under_append (octets_of owner) groups es ∙ ap (first_of (under octets (octets_of owner) groups)) gone ∙ first_none (under octets (octets_of owner) groups))))
                    (same_right (h.0 owner) (are.alone owner alone))
              ]

      -- the groups that went are those of the part
      pub grouped_parts : IsGrouped octets items part groups × IsGrouped octets items rest es
      grouped_parts = ((split_part, only), (split_rest, owned_rest))

    joined : IsGrouped octets items part groups → IsIndexed octets items rest es → IsIndexed octets items all (groups ++ es)
    joined t l owner =
        elim (are.apart owner) [
          | inl none ↦ same_left (ap (items_in items) (first_groups owner (t.1 owner none))) (same_right (l owner) (sym (are.without owner none)))
          | inr alone ↦ by alone (under octets (octets_of owner) groups) refl
        ]
      where
        by : of_owner owner rest ≡ [] → (x : Option G) → under octets (octets_of owner) groups ≡ x → HoldSame (items_in items (under octets (octets_of owner) (groups ++ es))) (of_owner owner all)
        by alone None is =
            let none : of_owner owner part ≡ [] = held_none (of_owner owner part) (same_left (sym (ap (items_in items) is)) (t.0 owner)) in
            same_left (ap (items_in items) (first_groups owner is)) (same_right (l owner) (alone ∙ sym none ∙ sym (are.alone owner alone)))
        by alone (Some g) is =
            same_left (ap (items_in items) (under_append (octets_of owner) groups es ∙ ap (λ (x : Option G). first_of x (under octets (octets_of owner) es)) is ∙ sym is)) (same_right (t.0 owner) (sym (are.alone owner alone)))

    owned_joined : AreOwned octets part groups → AreOwned octets rest es → AreOwned octets all (groups ++ es)
    owned_joined t l owner none =
        elim (are.apart owner) [
          | inl empty ↦ first_groups owner (t owner empty) ∙ l owner (sym (are.without owner empty) ∙ none)
          | inr alone ↦ first_groups owner (t owner (sym (are.alone owner alone) ∙ none)) ∙ l owner alone
        ]

    pub grouped_joined : IsGrouped octets items part groups → IsGrouped octets items rest es → IsGrouped octets items all (groups ++ es)
    grouped_joined t l = (joined t l.0, owned_joined t.1 l.1)

    -- no owner has groups in both
    pub share_none : IsGrouped octets items part groups → IsGrouped octets items rest es → (owner : Labels) → (under octets (octets_of owner) groups ≡ None) ⊎ (under octets (octets_of owner) es ≡ None)
    share_none t l owner = elim (are.apart owner) [ inl none ↦ inl (t.1 owner none) | inr none ↦ inr (l.1 owner none) ]

-- the index of what was taken, and that of what stayed, where the groups of the one or of the other went
module _ {K G : Type 0} (octets : K → List ℕ) (items : G → List Record) (before : List Record) (taken : List Taken) (left : List Record) (went es start : List (K × G))
    (are : AreParts (records_of taken) left before) (whole : IsGrouped octets items before start)
    (moves : (records : List Record) → IsGrouped octets items records start → IsGrouped octets items records (went ++ es)) where
  pub taken_parts : AllByRecursion (λ (t : Taken). under octets (octets_of t.item.owner) es ≡ None) taken → ((owner : Labels) → of_owner owner (records_of taken) ≡ [] → under octets (octets_of owner) went ≡ None)
      → IsGrouped octets items (records_of taken) went × IsGrouped octets items left es
  taken_parts gone only = grouped_parts octets items (records_of taken) left before went es are (moves before whole) only (λ owner. taken_out octets items owner es taken gone)

  pub kept_parts : AllByRecursion (λ (r : Record). under octets (octets_of r.owner) es ≡ None) left → ((owner : Labels) → of_owner owner left ≡ [] → under octets (octets_of owner) went ≡ None)
      → IsGrouped octets items left went × IsGrouped octets items (records_of taken) es
  kept_parts gone only =
      grouped_parts octets items left (records_of taken) before went es (parts_turned (records_of taken) left before are) (moves before whole) only (λ owner. kept_out octets items owner es left gone)

-- the owner of what is found under a key
pub key_found : {K G : Type 0} (octets : K → List ℕ) (name : List ℕ) (es : List (K × G)) (k : K) → lookup_key (λ k. pointwise nat_eq name (octets k)) es ≡ Some k → octets k ≡ name
key_found octets name es k e = sym (same_octets name (octets k) (lookup_key_passes (λ k. pointwise nat_eq name (octets k)) es k e))

pub is_ok_of : {X E A : Type 0} (r : Result X E) → IsOk r → OnOk r A → A
is_ok_of (Ok x) i h = h
is_ok_of (Err e) i h = absurd (false≢true i)
