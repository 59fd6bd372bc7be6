-- What the number of records at or below a name tells.
use Rattle.std.proofs.Common.{◌≡◌, ℕ, zero, suc, ◌+◌, Bool, true, false, ◌&&◌, ◌||◌, not, cond, nat_lt, List, [], ◌∷◌, ◌++◌, length, filter, Option, Some, None, refl, ap, sym, subst, ◌∙◌, inl, inr, arith, length-append}
use Rattle.std.specs.List.{list_any}
use Rattle.std.proofs.lemmas.Bool.{cases_Bool, false≢true, lt-ltb, le-ltb}
use Rattle.dns_name.specs.Labels.{Labels}
use Rattle.dns_name.specs.Order.{name_eq, name_eq_exact, name_eq_itself}
use Rattle.dns_name.specs.Below.{is_at_or_below}
use Rattle.dns_name.specs.BelowLaws.{below_itself, fact_from_below}
use Rattle.dns_text.specs.declared.record.Record.{Record}
use Rattle.local_zone.specs.declared.zone.Zone.{Zone}
use Rattle.local_zone.specs.Answer.{has_record_below}
use Rattle.local_zone.specs.Change.{zones_with}
use Rattle.local_zone.specs.Closest.{zone_named, closest, is_named, lies_in, gives_way}
use Rattle.local_zone.specs.Count.{same_zone, counts_for, count_of}
use Rattle.local_zone.specs.Index.{of_owner}
use Rattle.local_zone.specs.Reason.{has_data_below}
use Rattle.local_zone.specs.Tables.{Tables}
use Rattle.local_zone.specs.ZoneType.{is_redirect}
use Rattle.named_list.specs.ClosestLaws.{name_of_find, closest_above}
use Rattle.local_zone.proofs.ClosestLaws.{not_longer}
use Rattle.local_zone.proofs.ZoneLaws.{lies_with, lies_below}

-- ---- one zone

-- a name that is below another and above it
same_below : (a b : Labels) → is_at_or_below a b ≡ true → is_at_or_below b a ≡ true → a ≡ b
same_below a b ab ba = by (fact_from_below a b ab)
  where
    by : (h : (front : Labels) × (a ≡ front ++ b)) → a ≡ b
    by ([], e) = e
    by (l ∷ front, e) = absurd (not_longer b a ba (omega (arith, ap length e, length-append front b)))

itself : (zones : List Zone) (n : Labels) (found : Option Zone) → closest zones n ≡ found → gives_way n found ≡ same_zone found found
itself zones n None is = refl
itself zones n (Some y) is =
    elim (cases_Bool (name_eq y.name n)) [
      | inl named ↦ ap (λ b. b || not (is_at_or_below y.name n)) named ∙ sym (name_eq_itself y.name)
      | inr other ↦ elim (cases_Bool (is_at_or_below y.name n)) [
        | inl below ↦ absurd (false≢true (sym other ∙ ap (λ (x : Labels). name_eq x n) (same_below y.name n below (closest_above (λ (z : Zone). z.name) zones n y is)) ∙ name_eq_itself n))
        | inr apart ↦ (λ i. other i || not (apart i)) ∙ sym (name_eq_itself y.name)
      ]
    ]

-- a zone strictly below the name
strictly : (zones : List Zone) (n : Labels) (l : List ℕ) (o : Labels) (z : Zone) → z.name ≡ l ∷ o → is_at_or_below (l ∷ o) n ≡ true → name_eq (l ∷ o) n ≡ false → (found : Option Zone) → closest zones n ≡ found →
    gives_way n (Some z) ≡ same_zone found (Some z)
strictly zones n l o z named below differs found is =
    let gives : gives_way n (Some z) ≡ false = (λ i. name_eq (named i) n || not (is_at_or_below (named i) n)) ∙ (λ i. differs i || not (below i)) in
    gives ∙ by found is
  where
    by : (found : Option Zone) → closest zones n ≡ found → false ≡ same_zone found (Some z)
    by None is = refl
    by (Some y) is =
        elim (cases_Bool (name_eq z.name y.name)) [
          | inl same ↦
              let above : is_at_or_below n (l ∷ o) ≡ true = ap (is_at_or_below n) (sym named ∙ name_eq_exact z.name y.name same) ∙ closest_above (λ (z : Zone). z.name) zones n y is in
              absurd (false≢true (sym differs ∙ ap (λ (x : Labels). name_eq x n) (same_below (l ∷ o) n below above) ∙ name_eq_itself n))
          | inr apart ↦ sym apart
        ]

-- what lies at or below a name lies in its zone just where that zone gives way
pub alike : (zones : List Zone) (n owner : Labels) → is_at_or_below owner n ≡ true → gives_way n (closest zones owner) ≡ same_zone (closest zones n) (closest zones owner)
alike zones n [] below =
    let are : n ≡ [] = sym (name_eq_exact [] n below) in
    subst (λ (o : Labels). gives_way n (closest zones o) ≡ same_zone (closest zones n) (closest zones o)) are (itself zones n (closest zones n) refl)
alike zones n (l ∷ o) below =
    elim (cases_Bool (name_eq (l ∷ o) n)) [
      | inl same ↦
          let are : n ≡ l ∷ o = sym (name_eq_exact (l ∷ o) n same) in
          subst (λ (x : Labels). gives_way n (closest zones x) ≡ same_zone (closest zones n) (closest zones x)) are (itself zones n (closest zones n) refl)
      | inr differs ↦
          let under : is_at_or_below o n ≡ true = ap (λ b. b || is_at_or_below o n) (sym differs) ∙ below in
          by (zone_named zones (l ∷ o)) refl differs (alike zones n o under)
    ]
  where
    by : (found : Option Zone) → zone_named zones (l ∷ o) ≡ found → name_eq (l ∷ o) n ≡ false → gives_way n (closest zones o) ≡ same_zone (closest zones n) (closest zones o)
        → gives_way n (closest zones (l ∷ o)) ≡ same_zone (closest zones n) (closest zones (l ∷ o))
    by None is differs more = rw is more
    by (Some z) is differs more = rw is (strictly zones n l o z (name_of_find (λ (z : Zone). z.name) zones (l ∷ o) z is) below differs (closest zones n) refl)

-- ---- how many

pub any_some : {X : Type 0} (p : X → Bool) (xs : List X) → list_any p xs ≡ nat_lt 0 (length (filter p xs))
any_some p [] = refl
any_some p (x ∷ xs) = by (p x) (any_some p xs)
  where
    by : (b : Bool) → list_any p xs ≡ nat_lt 0 (length (filter p xs)) → (b || list_any p xs) ≡ nat_lt 0 (length (cond b (x ∷ filter p xs) (filter p xs)))
    by true more = sym (lt-ltb 0 (length (x ∷ filter p xs)) (omega arith))
    by false more = more

any_same : {X : Type 0} (p q : X → Bool) → ((x : X) → p x ≡ q x) → (xs : List X) → list_any p xs ≡ list_any q xs
any_same p q h [] = refl
any_same p q h (x ∷ xs) = λ i. h x i || any_same p q h xs i

-- some pass the first test and not the second, which only those pass that pass the first, just where more pass the first
pub more_pass : {X : Type 0} (p q : X → Bool) → ((x : X) → q x ≡ true → p x ≡ true) → (xs : List X) →
    length (filter p xs) ≡ length (filter q xs) + length (filter (λ x. p x && not (q x)) xs)
more_pass p q only [] = refl
more_pass p q only (x ∷ xs) = by (p x) (q x) (only x) (more_pass p q only xs)
  where
    by : (a b : Bool) → (b ≡ true → a ≡ true) → length (filter p xs) ≡ length (filter q xs) + length (filter (λ x. p x && not (q x)) xs)
        → length (cond a (x ∷ filter p xs) (filter p xs)) ≡ length (cond b (x ∷ filter q xs) (filter q xs)) + length (cond (a && not b) (x ∷ filter (λ x. p x && not (q x)) xs) (filter (λ x. p x && not (q x)) xs))
    by true true h more = omega (arith, more)
    by true false h more = omega (arith, more)
    by false true h more = absurd (false≢true (h refl))
    by false false h more = more

some_more : (a b c : ℕ) → a ≡ b + c → nat_lt 0 c ≡ nat_lt b a
some_more a b zero e = sym (le-ltb b a (omega (arith, e)))
some_more a b (suc c) e = lt-ltb 0 (suc c) (omega arith) ∙ sym (lt-ltb b a (omega (arith, e)))

-- ---- the two questions

named_same : (zone : Zone) (found : Option Zone) → is_named zone.name found ≡ same_zone (Some zone) found
named_same zone None = refl
named_same zone (Some other) = refl

pub below_counts : (t : Tables) (name : Labels) (zone : Zone) → closest t.zones name ≡ Some zone → has_record_below name zone t ≡ nat_lt 0 (count_of t.zones name t.records)
below_counts t name zone is =
    any_same (λ (r : Record). is_at_or_below r.owner name && lies_in t.zones zone.name r.owner) (counts_for t.zones name)
    (λ r. ap (λ b. is_at_or_below r.owner name && b) (named_same zone (closest t.zones r.owner) ∙ ap (λ (x : Option Zone). same_zone x (closest t.zones r.owner)) (sym is))) t.records
    ∙ any_some (counts_for t.zones name) t.records

same_itself : (found : Option Zone) → same_zone found found ≡ true
same_itself None = refl
same_itself (Some z) = name_eq_itself z.name

pub own_counts : (zones : List Zone) (name : Labels) (r : Record) → name_eq r.owner name ≡ true → counts_for zones name r ≡ true
own_counts zones name r e =
    let are : name ≡ r.owner = sym (name_eq_exact r.owner name e) in
    subst (λ (n : Labels). counts_for zones n r ≡ true) (sym are) (λ i. (below_itself r.owner ∙ refl) i && same_itself (closest zones r.owner) i)

test_is : (new : Zone) (zones : List Zone) (r : Record) → (lies_in (zones_with new zones) new.name r.owner && not (name_eq r.owner new.name)) ≡ (counts_for zones new.name r && not (name_eq r.owner new.name))
test_is new zones r =
    ap (λ b. b && not (name_eq r.owner new.name)) (elim (cases_Bool (is_at_or_below r.owner new.name)) [
      | inl below ↦ lies_with new zones r.owner below ∙ alike zones new.name r.owner below ∙ ap (λ b. b && same_zone (closest zones new.name) (closest zones r.owner)) (sym below)
      | inr apart ↦ lies_below (zones_with new zones) new.name r.owner apart ∙ ap (λ b. b && same_zone (closest zones new.name) (closest zones r.owner)) (sym apart)
    ])

pub redirect_counts : (t : Tables) (new : Zone) → has_data_below new t ≡ (is_redirect new.kind && nat_lt (length (of_owner new.name t.records)) (count_of t.zones new.name t.records))
redirect_counts t new =
    let p : Record → Bool = counts_for t.zones new.name in
    let q : Record → Bool = λ r. name_eq r.owner new.name in
    ap (λ b. is_redirect new.kind && b)
    (any_same (λ (r : Record). lies_in (zones_with new t.zones) new.name r.owner && not (name_eq r.owner new.name)) (λ r. p r && not (q r)) (λ r. test_is new t.zones r) t.records
    ∙ any_some (λ r. p r && not (q r)) t.records
    ∙ some_more (length (filter p t.records)) (length (filter q t.records)) (length (filter (λ r. p r && not (q r)) t.records)) (more_pass p q (λ r e. own_counts t.zones new.name r e) t.records))
