-- The counts of the records that lie in zones below names: what they are after a change of the zones, and what they tell.
use Rattle.std.proofs.Common.{◌≡◌, ℕ, zero, suc, ◌+◌, ◌-◌, ◌<◌, ◌≤◌, Bool, true, false, ◌||◌, ◌&&◌, not, cond, nat_lt, List, [], ◌∷◌, ◌++◌, map, filter, length, insert, remove, slice_get, slice_set, take, Option, Some, None, refl, ap, sym, subst, ◌∙◌, inl, inr, arith, length-append}
use Rattle.std.specs.Prelude.{is_some, nat_le}
use Rattle.std.specs.Option.{option_map, option_or}
use Rattle.std.specs.List.{list_any, AllByRecursion, IsDistinct}
use Rattle.std.proofs.lemmas.Bool.{and_parts, cases_Bool, false≢true, le-leb, le-ltb, lt-leb, lt-ltb, ltb-false, ltb-true, or_cases, or_from, or_right}
use Rattle.dns_name.specs.Labels.{Labels, octets_of}
use Rattle.dns_name.specs.Order.{name_eq, name_eq_exact, name_eq_itself}
use Rattle.dns_name.specs.Below.{is_at_or_below}
use Rattle.dns_name.specs.BelowLaws.{below_itself, fact_from_below}
use Rattle.dns_text.specs.declared.record.Record.{Record}
use Rattle.named_list.specs.ClosestLaws.{closest_above, name_eq-swap}
use Rattle.named_list.specs.Named.{AreNamed}
use Rattle.named_list.specs.Turn.{name_in, other_of, puts_in, HasPlace, takes_out}
use Rattle.named_list.specs.declared.turn.Turn.{Turn}
use Rattle.named_list.specs.declared.turn.Turn.TheVariants.{Nothing, Other, Without, With}
use Rattle.local_zone.specs.declared.zone.Zone.{Zone}
use Rattle.local_zone.specs.Answer.{has_record, has_record_below}
use Rattle.local_zone.specs.Change.{has_zone, zones_without}
use Rattle.local_zone.specs.Closest.{closest, gives_way, lies_in, zone_named}
use Rattle.local_zone.specs.Count.{count_of, counts_for, counts_there, same_zone}
use Rattle.local_zone.specs.CountsBelow.{count_below, count_zoned, counted, is_below, is_below_from, is_zone_below, is_zoned, lies_below, octets_over, AreZoned}
use Rattle.local_zone.specs.Index.{of_owner}
use Rattle.local_zone.specs.Reason.{has_data_below}
use Rattle.local_zone.specs.Tables.{Tables}
use Rattle.local_zone.specs.ZoneType.{is_redirect}
use Rattle.local_zone.specs.Zoned.{zone_out, HasOneMore}
use Rattle.local_zone.proofs.ClosestLaws.{not_longer}
use Rattle.local_zone.proofs.CountLaws.{alike, any_some, below_counts, more_pass, own_counts, redirect_counts}
use Rattle.local_zone.proofs.CountsBelowLaws.{and_true, below_parent, count_one, from_root, no_longer, shorter}
use Rattle.local_zone.proofs.ZoneLaws.{closest_without}

-- ---- the zone of an owner, by the names of the zones alone

-- a name, or what else was found
abbrev pick : Bool → Labels → Option Labels → Option Labels
pick true n other = Some n
pick false n other = other

-- the longest name at or above an owner that is there
abbrev top : (Labels → Bool) → Labels → Option Labels
top has [] = pick (has []) [] None
top has (l ∷ o) = pick (has (l ∷ o)) (l ∷ o) (top has o)

-- whether the name that was found, if one was, lies strictly below a name
abbrev one_below : Labels → Option Labels → Bool
one_below n None = false
one_below n (Some w) = is_below w n

abbrev octets_in : Option Labels → ℕ
octets_in None = 0
octets_in (Some w) = length (octets_of w)

abbrev named : Option Zone → Option Labels
named found = option_map (λ (z : Zone). z.name) found

zone_is : (n : Labels) (found : Option Zone) → is_zone_below n found ≡ one_below n (named found)
zone_is n None = refl
zone_is n (Some z) = refl

over_is : (found : Option Zone) → octets_over found ≡ octets_in (named found)
over_is None = refl
over_is (Some z) = refl

found_is : (zones : List Zone) (n : Labels) → named (zone_named zones n) ≡ pick (has_zone zones n) n None
found_is [] n = refl
found_is (z ∷ zones) n = by (name_eq z.name n) refl (found_is zones n)
  where
    by : (b : Bool) → name_eq z.name n ≡ b → named (zone_named zones n) ≡ pick (has_zone zones n) n None → named (cond b (Some z) (zone_named zones n)) ≡ pick (b || has_zone zones n) n None
    by true same more = ap Some (name_eq_exact z.name n same)
    by false apart more = more

or_is : (found higher : Option Zone) (b : Bool) (n : Labels) (t : Option Labels) → named found ≡ pick b n None → named higher ≡ t → named (option_or found higher) ≡ pick b n t
or_is None higher true n t e h = absurd cc
or_is None higher false n t e h = h
or_is (Some z) higher true n t e h = e
or_is (Some z) higher false n t e h = absurd cc

closest_is : (zones : List Zone) (o : Labels) → named (closest zones o) ≡ top (has_zone zones) o
closest_is zones [] = found_is zones []
closest_is zones (l ∷ o) = or_is (zone_named zones (l ∷ o)) (closest zones o) (has_zone zones (l ∷ o)) (l ∷ o) (top (has_zone zones) o) (found_is zones (l ∷ o)) (closest_is zones o)

zoned_is : (zones : List Zone) (n o : Labels) → is_zoned zones n o ≡ one_below n (top (has_zone zones) o)
zoned_is zones n o = zone_is n (closest zones o) ∙ ap (one_below n) (closest_is zones o)

top_same : (has other : Labels → Bool) → ((n : Labels) → other n ≡ has n) → (o : Labels) → top other o ≡ top has o
top_same has other same [] = λ i. pick (same [] i) [] None
top_same has other same (l ∷ o) = λ i. pick (same (l ∷ o) i) (l ∷ o) (top_same has other same o i)

above_top : (has : Labels → Bool) (o w : Labels) → top has o ≡ Some w → is_at_or_below o w ≡ true
above_top has [] w e = by (has []) e
  where
    by : (b : Bool) → pick b [] None ≡ Some w → is_at_or_below [] w ≡ true
    by true e = let same : w ≡ [] = cc in subst (λ (x : Labels). is_at_or_below [] x ≡ true) (sym same) (below_itself [])
    by false e = absurd cc
above_top has (l ∷ o) w e = by (has (l ∷ o)) e (above_top has o w)
  where
    by : (b : Bool) → pick b (l ∷ o) (top has o) ≡ Some w → (top has o ≡ Some w → is_at_or_below o w ≡ true) → is_at_or_below (l ∷ o) w ≡ true
    by true e more = let same : w ≡ l ∷ o = cc in subst (λ (x : Labels). is_at_or_below (l ∷ o) x ≡ true) (sym same) (below_itself (l ∷ o))
    by false e more = or_right (name_eq (l ∷ o) w) (is_at_or_below o w) (more e)

-- ---- one name more

above_child : (l : List ℕ) (o z w : Labels) → z ≡ l ∷ o → is_at_or_below o w ≡ true → is_below w z ≡ false
above_child l o z w is at = by (is_at_or_below w z) refl
  where
    by : (b : Bool) → is_at_or_below w z ≡ b → (b && not (name_eq w z)) ≡ false
    by true below = let h = fact_from_below o w at in absurd (not_longer w z below (omega (arith, ap length is, ap length h.1, length-append h.0 w)))
    by false below = refl

never : (b : Bool) (n : Labels) (t : Option Labels) → pick (b && not b) n t ≡ t
never true n t = refl
never false n t = refl

module _ (has more : Labels → Bool) (z : Labels) (new : has z ≡ false) (names : (n : Labels) → more n ≡ (name_eq z n || has n)) where
  abbrev goes : Labels → Bool
  goes o = is_at_or_below o z && not (one_below z (top has o))

  -- what lies at or below the new name, and in no other one below it, is now covered by it
  top_more : (o : Labels) → top more o ≡ pick (goes o) z (top has o)
  top_more [] = ap (λ (b : Bool). pick b [] None) (names []) ∙ by (name_eq z []) refl
    where
      by : (b : Bool) → name_eq z [] ≡ b → pick (b || has []) [] None ≡ pick (is_at_or_below [] z && not (one_below z (pick (has []) [] None))) z (pick (has []) [] None)
      by true same =
          let is : z ≡ [] = name_eq_exact z [] same in
          let none : has [] ≡ false = ap has (sym is) ∙ new in
          let at : is_at_or_below [] z ≡ true = name_eq-swap [] z ∙ same in
          ap (λ (x : Labels). pick true x None) (sym is) ∙ sym (λ i. pick (at i && not (one_below z (pick (none i) [] None))) z (pick (none i) [] None))
      by false apart =
          let at : is_at_or_below [] z ≡ false = name_eq-swap [] z ∙ apart in
          sym (λ i. pick (at i && not (one_below z (pick (has []) [] None))) z (pick (has []) [] None))
  top_more (l ∷ o) = ap (λ (b : Bool). pick b (l ∷ o) (top more o)) (names (l ∷ o)) ∙ by (name_eq z (l ∷ o)) refl (has (l ∷ o)) refl (top_more o)
    where
      higher : z ≡ l ∷ o → (found : Option Labels) → top has o ≡ found → one_below z found ≡ false
      higher is None e = refl
      higher is (Some w) e = above_child l o z w is (above_top has o w e)

      by : (b : Bool) → name_eq z (l ∷ o) ≡ b → (h : Bool) → has (l ∷ o) ≡ h → top more o ≡ pick (is_at_or_below o z && not (one_below z (top has o))) z (top has o)
          → pick (b || h) (l ∷ o) (top more o) ≡ pick (is_at_or_below (l ∷ o) z && not (one_below z (pick h (l ∷ o) (top has o)))) z (pick h (l ∷ o) (top has o))
      by true same true there rest = absurd (false≢true (sym new ∙ ap has (name_eq_exact z (l ∷ o) same) ∙ there))
      by true same false there rest =
          let is : z ≡ l ∷ o = name_eq_exact z (l ∷ o) same in
          let at : is_at_or_below (l ∷ o) z ≡ true = subst (λ (x : Labels). is_at_or_below (l ∷ o) x ≡ true) (sym is) (below_itself (l ∷ o)) in
          let above : one_below z (top has o) ≡ false = higher is (top has o) refl in
          ap (λ (x : Labels). pick true x None) (sym is) ∙ sym (λ i. pick (at i && not (above i)) z (top has o))
      by false apart true there rest =
          let other : name_eq (l ∷ o) z ≡ false = name_eq-swap (l ∷ o) z ∙ apart in
          let same : is_below (l ∷ o) z ≡ is_at_or_below o z = below_parent l o z in
          sym ((λ i. pick ((other i || is_at_or_below o z) && not (same i)) z (pick true (l ∷ o) None)) ∙ never (is_at_or_below o z) z (pick true (l ∷ o) None))
      by false apart false there rest =
          let other : name_eq (l ∷ o) z ≡ false = name_eq-swap (l ∷ o) z ∙ apart in
          rest ∙ sym (λ i. pick ((other i || is_at_or_below o z) && not (one_below z (top has o))) z (top has o))

-- ---- names above one another

through : (z w n : Labels) → is_at_or_below z w ≡ true → is_below w n ≡ true → is_below z n ≡ true
through [] w n at under =
    let is : w ≡ [] = sym (name_eq_exact [] w at) in
    absurd (root (name_eq [] n) (ap (λ (x : Labels). is_below x n) (sym is) ∙ under))
  where
    root : (b : Bool) → (b && not b) ≡ true → ⊥
    root true e = false≢true e
    root false e = false≢true e
through (l ∷ z) w n at under =
    elim (or_cases (name_eq (l ∷ z) w) (is_at_or_below z w) at) [
      | inl same ↦ ap (λ (x : Labels). is_below x n) (name_eq_exact (l ∷ z) w same) ∙ under
      | inr further ↦ below_parent l z n ∙ (and_parts (is_at_or_below z n) (not (name_eq z n)) (through z w n further under)).0
    ]

-- of two names above a third, the one that doesn't lie strictly below the other has no more octets
chain : (z w n : Labels) → is_at_or_below z w ≡ true → is_at_or_below z n ≡ true → is_below w n ≡ false → length (octets_of w) ≤ length (octets_of n)
chain [] w n at there under =
    omega (arith, ap (λ (x : Labels). length (octets_of x)) (name_eq_exact [] w at), ap (λ (x : Labels). length (octets_of x)) (name_eq_exact [] n there))
chain (l ∷ z) w n at there under =
    elim (or_cases (name_eq (l ∷ z) n) (is_at_or_below z n) there) [
      | inl same ↦ omega (arith, no_longer (l ∷ z) w at, ap (λ (x : Labels). length (octets_of x)) (name_eq_exact (l ∷ z) n same))
      | inr further ↦ elim (or_cases (name_eq (l ∷ z) w) (is_at_or_below z w) at) [
        | inl is ↦ absurd (false≢true (sym under ∙ ap (λ (x : Labels). is_below x n) (sym (name_eq_exact (l ∷ z) w is)) ∙ below_parent l z n ∙ further))
        | inr more ↦ chain z w n more further under
      ]
    ]

-- a name lies below those above the one that covers it, and below those between
split : (y : Option Labels) (z n : Labels) → ((w : Labels) → y ≡ Some w → is_at_or_below z w ≡ true)
    → cond (is_below z n) 1 0 ≡ cond (one_below n y) 1 0 + cond (is_below_from (octets_in y) z n) 1 0
split None z n above = omega (arith, ap {B = ℕ} (λ b. cond b 1 0) (from_root z n))
split (Some w) z n above = by (is_below w n) refl (is_below z n) refl
  where
    by : (a : Bool) → is_below w n ≡ a → (b : Bool) → is_below z n ≡ b → cond b 1 0 ≡ cond a 1 0 + cond (b && nat_le (length (octets_of w)) (length (octets_of n))) 1 0
    by true under true lies = omega (arith, ap {B = ℕ} (λ c. cond c 1 0) (lt-leb (length (octets_of w)) (length (octets_of n)) (shorter w n under)))
    by true under false lies = absurd (false≢true (sym lies ∙ through z w n (above w refl) under))
    by false under true lies =
        let reach : length (octets_of w) ≤ length (octets_of n) = chain z w n (above w refl) (and_parts (is_at_or_below z n) (not (name_eq z n)) lies).0 under in
        omega (arith, ap {B = ℕ} (λ c. cond c 1 0) (le-leb (length (octets_of w)) (length (octets_of n)) reach))
    by false under false lies = omega arith

-- ---- how many records lie in zones below a name, and how many in the zone of the name

way : (n : Labels) (found : Option Zone) → gives_way n found ≡ not (is_zone_below n found)
way n None = refl
way n (Some z) = by (name_eq z.name n) (is_at_or_below z.name n)
  where
    by : (same below : Bool) → (same || not below) ≡ not (below && not same)
    by true true = refl
    by true false = refl
    by false true = refl
    by false false = refl

-- what isn't at or below a name lies in no zone below it
beyond_zone : (zones : List Zone) (n o : Labels) (found : Option Zone) → closest zones o ≡ found → is_at_or_below o n ≡ false → is_zone_below n found ≡ false
beyond_zone zones n o None is apart = refl
beyond_zone zones n o (Some z) is apart =
    elim (cases_Bool (is_below z.name n)) [
      | inl below ↦ absurd (false≢true (sym apart ∙ (and_parts (is_at_or_below o n) (not (name_eq o n)) (through o z.name n (closest_above (λ (z : Zone). z.name) zones o z is) below)).0))
      | inr other ↦ other
    ]

pub not_itself : (o n : Labels) → is_at_or_below o n ≡ false → name_eq o n ≡ false
not_itself o n apart =
    elim (cases_Bool (name_eq o n)) [
      | inl same ↦ absurd (false≢true (sym apart ∙ subst (λ (x : Labels). is_at_or_below o x ≡ true) (name_eq_exact o n same) (below_itself o)))
      | inr other ↦ other
    ]

halves : (b : Bool) → cond (not b) 1 0 + cond b 1 0 ≡ 1
halves true = omega arith
halves false = omega arith

one_within : (zones : List Zone) (n o : Labels) → cond (counts_there zones n o) 1 0 + cond (is_zoned zones n o) 1 0 ≡ cond (name_eq o n) 1 0 + cond (is_below o n) 1 0
one_within zones n o = by (is_at_or_below o n) refl
  where
    by : (b : Bool) → is_at_or_below o n ≡ b
        → cond (b && same_zone (closest zones n) (closest zones o)) 1 0 + cond (is_zoned zones n o) 1 0 ≡ cond (name_eq o n) 1 0 + cond (b && not (name_eq o n)) 1 0
    by true below =
        let same : same_zone (closest zones n) (closest zones o) ≡ not (is_zoned zones n o) = sym (alike zones n o below) ∙ way n (closest zones o) in
        omega (arith, ap {B = ℕ} (λ b. cond b 1 0) same, halves (is_zoned zones n o), halves (name_eq o n))
    by false apart =
        omega (arith, ap {B = ℕ} (λ b. cond b 1 0) (beyond_zone zones n o (closest zones o) refl apart), ap {B = ℕ} (λ b. cond b 1 0) (not_itself o n apart))

within : (zones : List Zone) (n : Labels) (records : List Record) → count_of zones n records + count_zoned zones n records ≡ length (of_owner n records) + count_below n records
within zones n [] = omega arith
within zones n (r ∷ records) =
    omega (
      arith,
      count_one (counts_there zones n) r records,
      count_one (is_zoned zones n) r records,
      count_one (λ o. name_eq o n) r records,
      count_one (lies_below n) r records,
      one_within zones n r.owner,
      within zones n records,
    )

own_within : (zones : List Zone) (n : Labels) (records : List Record) → length (of_owner n records) ≤ count_of zones n records
own_within zones n records = omega (arith, more_pass (counts_for zones n) (λ r. name_eq r.owner n) (λ r e. own_counts zones n r e) records)

-- the records of a name and below it that lie in its zone, from the counts
pub count_is : (zones : List Zone) (n : Labels) (records : List Record) (own below zoned : ℕ) → own ≡ length (of_owner n records) → below ≡ count_below n records → zoned ≡ count_zoned zones n records
    → own + (below - zoned) ≡ count_of zones n records
count_is zones n records own below zoned o b z = omega (arith, o, b, z, within zones n records, own_within zones n records)

-- ---- what the counts tell

-- a record of a name lies in the zone of the name
pub own_there : (t : Tables) (name : Labels) (zone : Zone) → closest t.zones name ≡ Some zone → has_record name t.records ≡ true → has_record_below name zone t ≡ true
own_there t name zone covers own =
    let some : 0 < length (of_owner name t.records) = ltb-true 0 (length (of_owner name t.records)) (sym (any_some (λ (r : Record). name_eq r.owner name) t.records) ∙ own) in
    below_counts t name zone covers ∙ lt-ltb 0 (count_of t.zones name t.records) (omega (arith, some, own_within t.zones name t.records))

lt_pair : (a b c d : ℕ) → a + b ≡ c + d → nat_lt b d ≡ nat_lt c a
lt_pair a b c d e =
    elim (cases_Bool (nat_lt b d)) [
      | inl less ↦ let h = ltb-true b d less in less ∙ sym (lt-ltb c a (omega (arith, e, h)))
      | inr more ↦ let h = ltb-false b d more in more ∙ sym (le-ltb c a (omega (arith, e, h)))
    ]

-- where a name has no record of its own, one below it lies in its zone just where fewer lie in other zones
pub others_there : (t : Tables) (name : Labels) (zone : Zone) → closest t.zones name ≡ Some zone → has_record name t.records ≡ false
    → nat_lt (count_zoned t.zones name t.records) (count_below name t.records) ≡ has_record_below name zone t
others_there t name zone covers none =
    let own : length (of_owner name t.records) ≤ 0 = ltb-false 0 (length (of_owner name t.records)) (sym (any_some (λ (r : Record). name_eq r.owner name) t.records) ∙ none) in
    lt_pair (count_of t.zones name t.records) (count_zoned t.zones name t.records) 0 (count_below name t.records) (omega (arith, within t.zones name t.records, own))
    ∙ sym (below_counts t name zone covers)

pub data_there : (t : Tables) (new : Zone) → (is_redirect new.kind && nat_lt (count_zoned t.zones new.name t.records) (count_below new.name t.records)) ≡ has_data_below new t
data_there t new =
    ap (λ b. is_redirect new.kind && b)
    (lt_pair (count_of t.zones new.name t.records) (count_zoned t.zones new.name t.records) (length (of_owner new.name t.records)) (count_below new.name t.records) (within t.zones new.name t.records))
    ∙ sym (redirect_counts t new)

-- ---- one zone more, or less

and_false : (b : Bool) → (b && false) ≡ false
and_false true = refl
and_false false = refl

same_names : (a b : Option Zone) → same_zone a b ≡ true → named b ≡ named a
same_names None None e = refl
same_names None (Some b) e = absurd (false≢true e)
same_names (Some a) None e = absurd (false≢true e)
same_names (Some a) (Some b) e = ap Some (name_eq_exact b.name a.name e)

module _ (zones more : List Zone) (z : Labels) (one : HasOneMore zones z more) where
  abbrev from : ℕ
  from = octets_over (closest zones z)

  now_is : (n o : Labels) → is_zoned more n o ≡ one_below n (pick (counts_there zones z o) z (top (has_zone zones) o))
  now_is n o =
      zoned_is more n o ∙ ap (one_below n) (top_more (has_zone zones) (has_zone more) z one.new one.names o)
      ∙ ap (λ b. one_below n (pick b z (top (has_zone zones) o))) (by (is_at_or_below o z) refl)
    where
      by : (b : Bool) → is_at_or_below o z ≡ b → (b && not (one_below z (top (has_zone zones) o))) ≡ (b && same_zone (closest zones z) (closest zones o))
      by true below = ap not (sym (zoned_is zones z o)) ∙ sym (way z (closest zones o)) ∙ alike zones z o below
      by false apart = refl

  moved : (n o : Labels) → cond (is_zoned more n o) 1 0 ≡ cond (is_zoned zones n o) 1 0 + cond (is_below_from from z n && counts_there zones z o) 1 0
  moved n o = by (counts_there zones z o) refl (now_is n o)
    where
      by : (b : Bool) → counts_there zones z o ≡ b → is_zoned more n o ≡ one_below n (pick b z (top (has_zone zones) o))
          → cond (is_zoned more n o) 1 0 ≡ cond (is_zoned zones n o) 1 0 + cond (is_below_from from z n && b) 1 0
      by false s is =
          omega (arith, ap {B = ℕ} (λ b. cond b 1 0) is, ap {B = ℕ} (λ b. cond b 1 0) (zoned_is zones n o), ap {B = ℕ} (λ b. cond b 1 0) (and_false (is_below_from from z n)))
      by true s is =
          let both = and_parts (is_at_or_below o z) (same_zone (closest zones z) (closest zones o)) s in
          let tops : top (has_zone zones) o ≡ top (has_zone zones) z = sym (closest_is zones o) ∙ same_names (closest zones z) (closest zones o) both.1 ∙ closest_is zones z in
          let before : is_zoned zones n o ≡ one_below n (top (has_zone zones) z) = zoned_is zones n o ∙ ap (one_below n) tops in
          let least : octets_in (top (has_zone zones) z) ≡ from = ap octets_in (sym (closest_is zones z)) ∙ sym (over_is (closest zones z)) in
          omega (
            arith,
            ap {B = ℕ} (λ b. cond b 1 0) is,
            split (top (has_zone zones) z) z n (λ w e. above_top (has_zone zones) z w e),
            ap {B = ℕ} (λ b. cond b 1 0) before,
            ap {B = ℕ} (λ m. cond (is_below_from m z n) 1 0) least,
            ap {B = ℕ} (λ b. cond b 1 0) (and_true (is_below_from from z n)),
          )

  zoned_more : (n : Labels) (records : List Record) → count_zoned more n records ≡ count_zoned zones n records + cond (is_below_from from z n) (count_of zones z records) 0
  zoned_more n [] = by (is_below_from from z n)
    where
      by : (b : Bool) → 0 ≡ 0 + cond b 0 0
      by true = omega arith
      by false = omega arith
  zoned_more n (r ∷ records) = by (is_below_from from z n) (moved n r.owner) (zoned_more n records)
    where
      by : (b : Bool) → cond (is_zoned more n r.owner) 1 0 ≡ cond (is_zoned zones n r.owner) 1 0 + cond (b && counts_there zones z r.owner) 1 0
          → count_zoned more n records ≡ count_zoned zones n records + cond b (count_of zones z records) 0
          → count_zoned more n (r ∷ records) ≡ count_zoned zones n (r ∷ records) + cond b (count_of zones z (r ∷ records)) 0
      by true here rest = omega (arith, here, rest, count_one (is_zoned more n) r records, count_one (is_zoned zones n) r records, count_one (counts_there zones z) r records)
      by false here rest = omega (arith, here, rest, count_one (is_zoned more n) r records, count_one (is_zoned zones n) r records)

  not_below : is_below_from from z z ≡ false
  not_below = ap (λ b. (is_at_or_below z z && not b) && nat_le from (length (octets_of z))) (name_eq_itself z) ∙ ap (λ b. b && nat_le from (length (octets_of z))) (and_false (is_at_or_below z z))

  -- as many records lie in the zone with it as would without it
  same_count : (records : List Record) → count_of more z records ≡ count_of zones z records
  same_count records =
      omega (arith, within more z records, within zones z records, zoned_more z records, ap {B = ℕ} (λ b. cond b (count_of zones z records) 0) not_below)

  -- what counts for a name without the zone, and with it
  pub count_more : (n : Labels) (records : List Record) → count_of zones n records ≡ count_of more n records + cond (is_below_from from z n) (count_of zones z records) 0
  count_more n records = omega (arith, within zones n records, within more n records, zoned_more n records)

  -- the same, by the records that lie in the zone
  pub count_fewer : (n : Labels) (records : List Record) → count_of zones n records ≡ count_of more n records + cond (is_below_from from z n) (count_of more z records) 0
  count_fewer n records = count_more n records ∙ ap (λ c. count_of more n records + cond (is_below_from from z n) c 0) (sym (same_count records))

  module _ (records : List Record) (start after : List (List ℕ × ℕ)) (least count : ℕ) (least_is : least ≡ from) where
    amount : count ≡ count_of zones z records → (n : Labels) → cond (is_below_from least z n) count 0 ≡ cond (is_below_from from z n) (count_of zones z records) 0
    amount count_is n = λ i. cond (is_below_from (least_is i) z n) (count_is i) 0

    pub zoned_in : count ≡ count_of zones z records → AreZoned zones records start → ((n : Labels) → counted n after ≡ counted n start + cond (is_below_from least z n) count 0)
        → AreZoned more records after
    zoned_in count_is h added n = omega (arith, h n, added n, amount count_is n, zoned_more n records)

    pub zoned_out : count ≡ count_of more z records → AreZoned more records start → ((n : Labels) → counted n after ≡ counted n start - cond (is_below_from least z n) count 0)
        → AreZoned zones records after
    zoned_out count_is h taken n = omega (arith, h n, taken n, amount (count_is ∙ same_count records) n, zoned_more n records)

swap : (a b c : Bool) → (a || (b || c)) ≡ (b || (a || c))
swap true true c = refl
swap true false c = refl
swap false b c = refl

has_last : (zones : List Zone) (new : Zone) (n : Labels) → has_zone (zones ++ new ∷ []) n ≡ (name_eq new.name n || has_zone zones n)
has_last [] new n = refl
has_last (y ∷ zones) new n = ap (λ b. name_eq y.name n || b) (has_last zones new n) ∙ swap (name_eq y.name n) (name_eq new.name n) (has_zone zones n)

pub one_more_last : (zones : List Zone) (new : Zone) → has_zone zones new.name ≡ false → HasOneMore zones new.name (zones ++ new ∷ [])
one_more_last zones new none = record { new = none; names = has_last zones new }

has_insert : (zones : List Zone) (place : ℕ) (new : Zone) (n : Labels) → has_zone (insert zones place new) n ≡ (name_eq new.name n || has_zone zones n)
has_insert [] zero new n = refl
has_insert [] (suc place) new n = refl
has_insert (y ∷ zones) zero new n = refl
has_insert (y ∷ zones) (suc place) new n = ap (λ b. name_eq y.name n || b) (has_insert zones place new n) ∙ swap (name_eq y.name n) (name_eq new.name n) (has_zone zones n)

apart_in : (new : Zone) (zones : List Zone) (place : ℕ) (x : Labels) → AllByRecursion (λ n. name_eq x n ≡ false) (map (λ z. z.name) (insert zones place new)) → name_eq x new.name ≡ false
apart_in new [] zero x h = h.0
apart_in new [] (suc place) x h = h.0
apart_in new (y ∷ zones) zero x h = h.0
apart_in new (y ∷ zones) (suc place) x h = apart_in new zones place x h.1

none_named : (x : Labels) (zones : List Zone) → AllByRecursion (λ n. name_eq x n ≡ false) (map (λ z. z.name) zones) → has_zone zones x ≡ false
none_named x [] h = refl
none_named x (y ∷ zones) h = or_from (name_eq y.name x) (has_zone zones x) (name_eq-swap y.name x ∙ h.0) (none_named x zones h.1)

new_in : (zones : List Zone) (place : ℕ) (new : Zone) → IsDistinct name_eq (map (λ z. z.name) (insert zones place new)) → has_zone zones new.name ≡ false
unfolding IsDistinct
new_in [] place new h = refl
new_in (y ∷ zones) zero new h = none_named new.name (y ∷ zones) h.0
new_in (y ∷ zones) (suc place) new h = or_from (name_eq y.name new.name) (has_zone zones new.name) (apart_in new zones place y.name h.0) (new_in zones place new h.1)

pub one_more_in : (zones : List Zone) (place : ℕ) (new : Zone) → IsDistinct name_eq (map (λ z. z.name) (insert zones place new)) → HasOneMore zones new.name (insert zones place new)
one_more_in zones place new h = record { new = new_in zones place new h; names = has_insert zones place new }

-- ---- the steps of the zones

pub no_name : {X A : Type 0} (x : X) → None ≡ Some x → A
no_name x e = absurd (false≢true (ap is_some e))

pub puts_with : (turn : Turn Zone) → puts_in turn ≡ true → (name : Labels) × (name_in (λ (z : Zone). z.name) turn ≡ Some name)
puts_with Nothing e = absurd cc
puts_with (Other place zone) e = absurd cc
puts_with (Without place) e = absurd cc
puts_with (With place zone) e = (zone.name, refl)

pub one_more_over : (turn : Turn Zone) (zones : List Zone) (name : Labels) → name_in (λ (z : Zone). z.name) turn ≡ Some name → AreNamed (λ (z : Zone). z.name) (other_of turn zones) → HasOneMore zones name (other_of turn zones)
one_more_over Nothing zones name e h = absurd cc
one_more_over (Other place zone) zones name e h = absurd cc
one_more_over (Without place) zones name e h = absurd cc
one_more_over (With place zone) zones name e h =
    let same : zone.name ≡ name = cc in
    subst (λ (n : Labels). HasOneMore zones n (insert zones place zone)) same (one_more_in zones place zone h)

-- the zone that a step takes out
pub record TakesOut (turn : Turn Zone) (zones : List Zone) : Type 0 where
  pub place : ℕ
  pub zone : Zone
  pub is : turn ≡ Without place
  pub at : slice_get zones place ≡ Some zone

some_at : {X : Type 0} (xs : List X) (i : ℕ) → i < length xs → (x : X) × (slice_get xs i ≡ Some x)
some_at [] i inside = absurd (omega arith)
some_at (x ∷ xs) zero inside = (x, refl)
some_at (x ∷ xs) (suc i) inside = some_at xs i (omega arith)

pub takes_without : (turn : Turn Zone) (zones : List Zone) → takes_out turn ≡ true → HasPlace (λ (z : Zone). z.name) turn zones → TakesOut turn zones
takes_without Nothing zones e fits = absurd cc
takes_without (Other place zone) zones e fits = absurd cc
takes_without (Without place) zones e fits = let found = some_at zones place fits in record { place = place; zone = found.0; is = refl; at = found.1 }
takes_without (With place zone) zones e fits = absurd cc

-- a step that neither puts a zone in nor takes one out keeps the names
pub same_over : (turn : Turn Zone) (zones : List Zone) → HasPlace (λ (z : Zone). z.name) turn zones → puts_in turn ≡ false → takes_out turn ≡ false → map (λ z. z.name) (other_of turn zones) ≡ map (λ z. z.name) zones
same_over Nothing zones fits puts takes = refl
same_over (Other place zone) zones fits puts takes = fits.1
same_over (Without place) zones fits puts takes = absurd cc
same_over (With place zone) zones fits puts takes = absurd cc

-- ---- the same zones to the records

zoned_same : (zones after : List Zone) → ((n : Labels) → has_zone after n ≡ has_zone zones n) → (name : Labels) (records : List Record) → count_zoned zones name records ≡ count_zoned after name records
zoned_same zones after same name [] = refl
zoned_same zones after same name (r ∷ records) =
    let here : is_zoned zones name r.owner ≡ is_zoned after name r.owner
    = zoned_is zones name r.owner ∙ ap (one_below name) (sym (top_same (has_zone zones) (has_zone after) same r.owner)) ∙ sym (zoned_is after name r.owner) in
    omega (arith, count_one (is_zoned zones name) r records, count_one (is_zoned after name) r records, ap {B = ℕ} (λ b. cond b 1 0) here, zoned_same zones after same name records)

has_by_names : (zones : List Zone) (n : Labels) → has_zone zones n ≡ list_any (λ x. name_eq x n) (map (λ z. z.name) zones)
has_by_names [] n = refl
has_by_names (z ∷ zones) n = ap (λ b. name_eq z.name n || b) (has_by_names zones n)

-- a list of the same names
pub zoned_named : (zones after : List Zone) (records : List Record) (start : List (List ℕ × ℕ)) → map (λ z. z.name) after ≡ map (λ z. z.name) zones → AreZoned zones records start → AreZoned after records start
zoned_named zones after records start names h name =
    h name ∙ zoned_same zones after (λ n. has_by_names after n ∙ ap (λ (ns : List Labels). list_any (λ x. name_eq x n) ns) names ∙ sym (has_by_names zones n)) name records

pub count_named : (zones after : List Zone) (n : Labels) (records : List Record) → map (λ z. z.name) after ≡ map (λ z. z.name) zones → count_of zones n records ≡ count_of after n records
count_named zones after n records names =
    let same = zoned_same zones after (λ o. has_by_names after o ∙ ap (λ (ns : List Labels). list_any (λ x. name_eq x o) ns) names ∙ sym (has_by_names zones o)) n records in
    omega (arith, within zones n records, within after n records, same)

insert_back : (zones : List Zone) (i : ℕ) (z : Zone) → slice_get zones i ≡ Some z → insert (remove zones i) i z ≡ zones
insert_back [] i z at = absurd cc
insert_back (x ∷ zones) zero z at = let is : x ≡ z = cc in ap (λ (y : Zone). y ∷ zones) (sym is)
insert_back (x ∷ zones) (suc i) z at = ap (λ (ys : List Zone). x ∷ ys) (insert_back zones i z at)

-- a list without the zone at a place has one zone less
pub one_more_at : (zones : List Zone) (i : ℕ) (z : Zone) → slice_get zones i ≡ Some z → AreNamed (λ (y : Zone). y.name) zones → HasOneMore (remove zones i) z.name zones
one_more_at zones i z at h =
    let back = insert_back zones i z at in
    subst (λ (zs : List Zone). HasOneMore (remove zones i) z.name zs) back
    (one_more_in (remove zones i) i z (subst (λ (zs : List Zone). IsDistinct name_eq (map (λ (y : Zone). y.name) zs)) (sym back) h))

-- the zone that a step takes out, if one is found
pub one_more_out : (turn : Turn Zone) (zones : List Zone) (z : Zone) → Some z ≡ zone_out turn zones → AreNamed (λ (y : Zone). y.name) zones → HasOneMore (other_of turn zones) z.name zones
one_more_out Nothing zones z e h = absurd cc
one_more_out (Other place zone) zones z e h = absurd cc
one_more_out (Without place) zones z e h = one_more_at zones place z (sym e) h
one_more_out (With place zone) zones z e h = absurd cc

-- a step that has no zone to take out, and none to put in
pub count_still : (turn : Turn Zone) (zones : List Zone) (n : Labels) (records : List Record) → HasPlace (λ (z : Zone). z.name) turn zones → None ≡ name_in (λ (z : Zone). z.name) turn → None ≡ zone_out turn zones
    → count_of zones n records ≡ count_of (other_of turn zones) n records
count_still Nothing zones n records fits new out = refl
count_still (Other place zone) zones n records fits new out = count_named zones (slice_set zones place zone) n records fits.1
count_still (Without place) zones n records fits new out = let found = some_at zones place fits in let both : None ≡ Some found.0 = out ∙ found.1 in absurd cc
count_still (With place zone) zones n records fits new out = absurd cc

-- without a zone in which none of the records lies
pub zoned_without : (zones : List Zone) (gone : Labels) (records : List Record) (start : List (List ℕ × ℕ)) → AreZoned zones (filter (λ r. not (lies_in zones gone r.owner)) records) start
    → AreZoned (zones_without gone zones) (filter (λ r. not (lies_in zones gone r.owner)) records) start
zoned_without zones gone records start h name = h name ∙ by records
  where
    left : List Record → List Record
    left rs = filter (λ r. not (lies_in zones gone r.owner)) rs

    by : (rs : List Record) → count_zoned zones name (left rs) ≡ count_zoned (zones_without gone zones) name (left rs)
    by [] = refl
    by (r ∷ rs) = at (lies_in zones gone r.owner) refl (by rs)
      where
        at : (b : Bool) → lies_in zones gone r.owner ≡ b → count_zoned zones name (left rs) ≡ count_zoned (zones_without gone zones) name (left rs)
            → count_zoned zones name (cond (not b) (r ∷ left rs) (left rs)) ≡ count_zoned (zones_without gone zones) name (cond (not b) (r ∷ left rs) (left rs))
        at true lies rest = rest
        at false lies rest =
            let here : is_zoned (zones_without gone zones) name r.owner ≡ is_zoned zones name r.owner = ap (is_zone_below name) (closest_without zones gone r.owner lies) in
            omega (arith, count_one (is_zoned zones name) r (left rs), count_one (is_zoned (zones_without gone zones) name) r (left rs), ap {B = ℕ} (λ b. cond b 1 0) here, rest)

-- ---- the last record

last_at : (records : List Record) (i : ℕ) (r : Record) → slice_get records i ≡ Some r → suc i ≡ length records → records ≡ take i records ++ r ∷ []
last_at [] i r at long = absurd cc
last_at (x ∷ []) zero r at long = let same : x ≡ r = cc in ap (λ (y : Record). y ∷ []) same
last_at (x ∷ (y ∷ records)) zero r at long = absurd (omega arith)
last_at (x ∷ records) (suc i) r at long = ap (λ (rs : List Record). x ∷ rs) (last_at records i r at (omega arith))

pub last_is : (records : List Record) (r : Record) → slice_get records (length records - 1) ≡ Some r → records ≡ take (length records - 1) records ++ r ∷ []
last_is [] r at = absurd cc
last_is (x ∷ records) r at = last_at (x ∷ records) (length (x ∷ records) - 1) r at (omega arith)

pub none_last : (records : List Record) → slice_get records (length records - 1) ≡ None → take (length records - 1) records ≡ records
none_last [] at = refl
none_last (x ∷ records) at =
    let found = some_at (x ∷ records) (length (x ∷ records) - 1) (omega arith) in
    let both : Some found.0 ≡ None = sym found.1 ∙ at in absurd cc
