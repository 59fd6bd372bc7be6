-- A record goes to the one set at the place that the map has.
use Rattle.std.proofs.Common.{◌≡◌, ℕ, zero, suc, ◌+◌, ◌<◌, true, false, ◌||◌, List, [], ◌∷◌, ◌++◌, map, length, get_or, set, cond, min, None, Some, refl, sym, ap, ◌∙◌, subst, inl, inr, eq-eqb, arith, length-append}
use Rattle.std.specs.BTreeMap.{BTreeMap, get, Updates}
use Rattle.std.specs.Cmp.{Equal-is}
use Rattle.std.specs.Cmp.Derive.{both_true}
use Rattle.std.specs.Ordering.{nat_cmp, is_eq, ordering_then}
use Rattle.std.proofs.lemmas.Bool.{cases_Bool, cases_lt, false≢true, or_parts}
use Rattle.std.proofs.lemmas.Map.Lookups.{CmpEqualImpliesEq, exact_unsigned, exact_pairs}
use Rattle.std.proofs.lemmas.List.{length-map, get_or-map, get_or_append_left, get_or_push}
use Rattle.dns_name.specs.Labels.{Labels}
use Rattle.dns_name.specs.Order.{name_cmp, name_cmp_exact, name_eq, name_eq_itself}
use Rattle.dns_name.specs.ResultLaws.{some_same}
use Rattle.dns_text.specs.Equal.{data_eq}
use Rattle.ranked.specs.Rank.{level_of}
use Rattle.ranked.specs.Set.{with_datum}
use Rattle.harvest.specs.Counted.{Ranked}
use Rattle.harvest.specs.Indexed.{place_cmp, place_key, IsIndex}
use Rattle.harvest.specs.Sets.{Key, Set, key_of, same_key, is_of_set, joined, begun, has_set}
use Rattle.harvest.proofs.SetLaws.{same_key_exact}

-- ---- keys

place_exact : CmpEqualImpliesEq place_cmp
place_exact = exact_pairs name_cmp (λ (x y : ℕ × ℕ). ordering_then (nat_cmp x.0 y.0) (nat_cmp x.1 y.1)) name_cmp_exact (exact_pairs nat_cmp nat_cmp exact_unsigned exact_unsigned)

same_place : (a b : Key) → place_key a ≡ place_key b → same_key a b ≡ true
same_place a b e =
    let level : level_of a.rank ≡ level_of b.rank = ap (λ (p : Labels × (ℕ × ℕ)). p.1.1) e in
    let kind : a.kind ≡ b.kind = ap (λ (p : Labels × (ℕ × ℕ)). p.1.0) e in
    let owner : a.owner ≡ b.owner = ap (λ (p : Labels × (ℕ × ℕ)). p.0) e in
    both_true (eq-eqb (level_of a.rank) (level_of b.rank) level) (both_true (eq-eqb a.kind b.kind kind) (subst (λ (n : Labels). name_eq a.owner n ≡ true) owner (name_eq_itself a.owner)))

place_same : (r : Ranked) (s : Set) → is_of_set r s ≡ true → place_key s.key ≡ place_key (key_of r)
place_same r s e = ap place_key (same_key_exact s.key (key_of r) e)

-- ---- a record is of one set at most

other_stays : (r : Ranked) (s : Set) → is_of_set r s ≡ false → joined r s ≡ s
other_stays r s e = cc

none_joined : (r : Ranked) (sets : List Set) → ((i : ℕ) (d : Set) → i < length sets → is_of_set r (get_or sets i d) ≡ false) → (map (joined r) sets ≡ sets) × (has_set sets r ≡ false)
none_joined r [] h = (refl, refl)
none_joined r (s ∷ sets) h =
    let here : is_of_set r s ≡ false = h 0 s (omega arith) in
    let rest = none_joined r sets (λ i d less. h (suc i) d (omega arith)) in
    let stays = other_stays r s here in
    (ap (λ (t : Set). t ∷ map (joined r) sets) stays ∙ ap (λ (ts : List Set). s ∷ ts) rest.0, ap (λ b. b || has_set sets r) here ∙ rest.1)

abbrev OneAt : Ranked → List Set → ℕ → Type 0
OneAt r sets j = (i : ℕ) (d : Set) → i < length sets → is_of_set r (get_or sets i d) ≡ true → i ≡ j

one_joined : (r : Ranked) (sets : List Set) (j : ℕ) (d : Set) → j < length sets → is_of_set r (get_or sets j d) ≡ true → OneAt r sets j → (set sets j (joined r (get_or sets j d)) ≡ map (joined r) sets) × (has_set sets r ≡ true)
one_joined r [] j d less is one = absurd (omega arith)
one_joined r (s ∷ sets) zero d less is one =
    let rest = none_joined r sets (λ i e within. elim (cases_Bool (is_of_set r (get_or sets i e))) [
      | inl hit ↦ let same : suc i ≡ 0 = one (suc i) e (omega arith) hit in absurd (omega arith)
      | inr miss ↦ miss
    ]) in
    (ap (λ (ts : List Set). joined r s ∷ ts) (sym rest.0), ap (λ b. b || has_set sets r) is)
one_joined r (s ∷ sets) (suc j) d less is one =
    let here : is_of_set r s ≡ false = elim (cases_Bool (is_of_set r s)) [
      | inl hit ↦ let same : 0 ≡ suc j = one 0 s (omega arith) hit in absurd (omega arith)
      | inr miss ↦ miss
    ] in
    let more : OneAt r sets j = λ i e within hit. (let same : suc i ≡ suc j = one (suc i) e (omega arith) hit in omega arith) in
    let rest = one_joined r sets j d (omega arith) is more in
    (ap (λ (ts : List Set). s ∷ ts) rest.0 ∙ ap (λ (t : Set). t ∷ map (joined r) sets) (sym (other_stays r s here)), ap (λ b. b || has_set sets r) here ∙ rest.1)

-- ---- by the map

module _ (places : BTreeMap (Labels × (ℕ × ℕ)) ℕ) (sets : List Set) (h : IsIndex places sets) (r : Ranked) where
  pub none_there : get place_cmp places (place_key (key_of r)) ≡ None → (map (joined r) sets ≡ sets) × (has_set sets r ≡ false)
  none_there absent = none_joined r sets (λ i d within. elim (cases_Bool (is_of_set r (get_or sets i d))) [
    | inl hit ↦
        let there : get place_cmp places (place_key (key_of r)) ≡ Some i = ap (λ (k : Labels × (ℕ × ℕ)). get place_cmp places k) (sym (place_same r (get_or sets i d) hit)) ∙ h.at i d within in
        absurd cc
    | inr miss ↦ miss
  ])

  pub one_there : (j : ℕ) (d : Set) → get place_cmp places (place_key (key_of r)) ≡ Some j → (set sets j (joined r (get_or sets j d)) ≡ map (joined r) sets) × (has_set sets r ≡ true) × (is_of_set r (get_or sets j d) ≡ true)
  one_there j d there =
      let own : is_of_set r (get_or sets j d) ≡ true = same_place (get_or sets j d).key (key_of r) (h.only (place_key (key_of r)) j d there) in
      let both = one_joined r sets j d (h.within (place_key (key_of r)) j there) own (λ i e within hit.
      (let at : get place_cmp places (place_key (key_of r)) ≡ Some i = ap (λ (k : Labels × (ℕ × ℕ)). get place_cmp places k) (sym (place_same r (get_or sets i e) hit)) ∙ h.at i e within in
      some_same (sym at ∙ there))) in
      (both.0, both.1, own)

joined_key : (r : Ranked) (s : Set) → (joined r s).key ≡ s.key
joined_key r s = elim (cases_Bool (is_of_set r s)) [
  | inl hit ↦ ap (λ b. (cond b (record { key = s.key; ttl = min s.ttl r.said.ttl; data_in = with_datum data_eq s.data_in r.said.body }) s).key) hit
  | inr miss ↦ ap (λ (t : Set). t.key) (other_stays r s miss)
]

pub has_stays : (r : Ranked) (sets : List Set) → has_set (map (joined r) sets) r ≡ has_set sets r
has_stays r [] = refl
has_stays r (s ∷ sets) = ap (λ (k : Key). same_key k (key_of r) || has_set (map (joined r) sets) r) (joined_key r s) ∙ ap (λ b. is_of_set r s || b) (has_stays r sets)

pub index_joined : (places : BTreeMap (Labels × (ℕ × ℕ)) ℕ) (sets : List Set) (r : Ranked) → IsIndex places sets → IsIndex places (map (joined r) sets)
index_joined places sets r h =
    let as_many : length (map (joined r) sets) ≡ length sets = length-map sets (joined r) in
    let key_stays : (i : ℕ) (d : Set) → i < length sets → (get_or (map (joined r) sets) i d).key ≡ (get_or sets i d).key = λ i d less.
    ap (λ (s : Set). s.key) (get_or-map (joined r) sets i d d less) ∙ joined_key r (get_or sets i d) in
    record {
      at = λ i d less.
          (let within : i < length sets = omega (arith, as_many) in
          ap (λ (k : Key). get place_cmp places (place_key k)) (key_stays i d within) ∙ h.at i d within);
      within = λ key i there. (let less : i < length sets = h.within key i there in omega (arith, as_many));
      only = λ key i d there. ap place_key (key_stays i d (h.within key i there)) ∙ h.only key i d there;
    }

none_has : (r : Ranked) (sets : List Set) → has_set sets r ≡ false → (i : ℕ) (d : Set) → i < length sets → is_of_set r (get_or sets i d) ≡ false
none_has r [] e i d less = absurd (omega arith)
none_has r (s ∷ sets) e zero d less = (or_parts (is_of_set r s) (has_set sets r) e).0
none_has r (s ∷ sets) e (suc i) d less = none_has r sets (or_parts (is_of_set r s) (has_set sets r) e).1 i d (omega arith)

module _ (places after : BTreeMap (Labels × (ℕ × ℕ)) ℕ) (sets : List Set) (r : Ranked) (h : IsIndex places sets) (none : has_set sets r ≡ false) (updates : Updates place_cmp places after (place_key (key_of r)) (Some (length sets))) where
  abbrev mine : Labels × (ℕ × ℕ)
  mine = place_key (key_of r)

  abbrev all : List Set
  all = sets ++ begun r ∷ []

  as_many : length all ≡ length sets + 1
  as_many = length-append sets (begun r ∷ [])

  apart : (i : ℕ) (d : Set) → i < length sets → is_eq (place_cmp mine (place_key (get_or sets i d).key)) ≡ false
  apart i d less = elim (cases_Bool (is_eq (place_cmp mine (place_key (get_or sets i d).key)))) [
    | inl hit ↦
        let same : mine ≡ place_key (get_or sets i d).key = place_exact mine (place_key (get_or sets i d).key) ((Equal-is _).0 hit) in
        absurd (false≢true (sym (none_has r sets none i d less) ∙ same_place (get_or sets i d).key (key_of r) (sym same)))
    | inr miss ↦ miss
  ]

  index_added : IsIndex after all
  index_added = record {
    at = λ i d less. elim (cases_lt i (length sets)) [
      | inl front ↦
          let key = place_key (get_or sets i d).key in
          ap (λ (s : Set). get place_cmp after (place_key s.key)) (get_or_append_left sets (begun r ∷ []) d i front) ∙ updates.0 key
          ∙ ap (λ b. cond b (Some (length sets)) (get place_cmp places key)) (apart i d front) ∙ h.at i d front
      | inr back ↦
          let last : length sets ≡ i = omega (arith, as_many) in
          ap (λ (s : Set). get place_cmp after (place_key s.key)) (get_or_push sets (begun r) d i last) ∙ updates.1 ∙ ap Some last
    ];
    within = λ key i there. elim (cases_Bool (is_eq (place_cmp mine key))) [
      | inl hit ↦
          let last : length sets ≡ i = some_same (sym (ap (λ b. cond b (Some (length sets)) (get place_cmp places key)) hit) ∙ sym (updates.0 key) ∙ there) in
          omega (arith, as_many)
      | inr miss ↦
          let before : i < length sets = h.within key i (sym (ap (λ b. cond b (Some (length sets)) (get place_cmp places key)) miss) ∙ sym (updates.0 key) ∙ there) in
          omega (arith, as_many)
    ];
    only = λ key i d there. elim (cases_Bool (is_eq (place_cmp mine key))) [
      | inl hit ↦
          let last : length sets ≡ i = some_same (sym (ap (λ b. cond b (Some (length sets)) (get place_cmp places key)) hit) ∙ sym (updates.0 key) ∙ there) in
          ap (λ (s : Set). place_key s.key) (get_or_push sets (begun r) d i last) ∙ place_exact mine key ((Equal-is _).0 hit)
      | inr miss ↦
          let had : get place_cmp places key ≡ Some i = sym (ap (λ b. cond b (Some (length sets)) (get place_cmp places key)) miss) ∙ sym (updates.0 key) ∙ there in
          ap (λ (s : Set). place_key s.key) (get_or_append_left sets (begun r ∷ []) d i (h.within key i had)) ∙ h.only key i d had
    ];
  }

-- the same, where the key, the place and the sets are known by others
pub index_begun : (places after : BTreeMap (Labels × (ℕ × ℕ)) ℕ) (sets all : List Set) (r : Ranked) (key : Labels × (ℕ × ℕ)) (n : ℕ) → IsIndex places sets → has_set sets r ≡ false → key ≡ place_key (key_of r) → n ≡ length sets
    → all ≡ sets ++ begun r ∷ [] → Updates place_cmp places after key (Some n) → IsIndex after all
index_begun places after sets all r key n h none own last e updates =
    subst (λ (ss : List Set). IsIndex after ss) (sym e)
    (index_added places after sets r h none (subst (λ (m : ℕ). Updates place_cmp places after (place_key (key_of r)) (Some m)) last (subst (λ (k : Labels × (ℕ × ℕ)). Updates place_cmp places after k (Some n)) own updates)))
