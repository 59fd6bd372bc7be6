-- The sets of records, and those with one record more.
use Rattle.std.proofs.Common.{◌≡◌, ℕ, true, false, ◌||◌, List, [], ◌∷◌, ◌++◌, map, cond, min, refl, sym, ap, ◌∙◌, subst, inl, inr, eq-eqb}
use Rattle.std.specs.List.{list_any, fold}
use Rattle.std.specs.Cmp.Derive.{both_true}
use Rattle.std.proofs.lemmas.Bool.{cases_Bool, and_parts, or_parts, or_left, false≢true, eqb-true}
use Rattle.std.proofs.lemmas.Grind.{fold-append}
use Rattle.std.proofs.lemmas.List.{append-nil, map_push}
use Rattle.std.proofs.lemmas.List.Elements.{filter-append}
use Rattle.std.proofs.lemmas.List.Folds.{list_any-append}
use Rattle.std.proofs.Math.Bool.{or_assoc, or-false}
use Rattle.dns_name.specs.Labels.{Labels}
use Rattle.dns_name.specs.Order.{name_eq_exact, name_eq_itself}
use Rattle.dns_text.specs.Equal.{data_eq}
use Rattle.dns_text.specs.declared.record.Data.{Data}
use Rattle.ranked.specs.EqualLaws.{level_exact}
use Rattle.ranked.specs.Rank.{level_of}
use Rattle.ranked.specs.Set.{each_once, with_datum, is_among}
use Rattle.ranked.specs.declared.find.TheConstants.{LONGEST_TTL}
use Rattle.ranked.specs.declared.rank.Rank.{Rank}
use Rattle.harvest.specs.Counted.{Ranked}
use Rattle.harvest.specs.Sets.{Key, Set, key_of, same_key, own, least_ttl, set_among, sets_of, joined, begun, has_set}

-- ---- keys that are equal are one

pub same_key_exact : (a b : Key) → same_key a b ≡ true → a ≡ b
same_key_exact a b e =
    let level = and_parts _ _ e in
    let rest = and_parts _ _ level.1 in
    let with_rank : Rank → Key = λ rank. record a { rank = rank } in
    let with_kind : ℕ → Key = λ kind. record { owner = a.owner; kind = kind; rank = b.rank } in
    let with_owner : Labels → Key = λ owner. record b { owner = owner } in
    ap with_rank (level_exact a.rank b.rank (eqb-true _ _ level.0)) ∙ ap with_kind (eqb-true _ _ rest.0) ∙ ap with_owner (name_eq_exact a.owner b.owner rest.1)

same_key_itself : (a : Key) → same_key a a ≡ true
same_key_itself a = both_true (eq-eqb (level_of a.rank) (level_of a.rank) refl) (both_true (eq-eqb a.kind a.kind refl) (name_eq_itself a.owner))

same_key-other : (a b : Key) → same_key a b ≡ false → same_key b a ≡ false
same_key-other a b apart =
    elim (cases_Bool (same_key b a)) [
      | inl same ↦ let P : Key → Type 0 = λ k. same_key k b ≡ true in absurd (false≢true (sym apart ∙ subst P (same_key_exact b a same) (same_key_itself b)))
      | inr other ↦ other
    ]

-- ---- a key is among those that are kept where it is among all

among_with : (ks : List Key) (x q : Key) → list_any (λ k. same_key k q) (with_datum same_key ks x) ≡ (list_any (λ k. same_key k q) ks || same_key x q)
among_with ks x q =
    let pushed : list_any (λ k. same_key k q) (ks ++ x ∷ []) ≡ (list_any (λ k. same_key k q) ks || same_key x q) =
    list_any-append (λ k. same_key k q) ks (x ∷ []) ∙ ap (λ b. list_any (λ k. same_key k q) ks || b) (or-false (same_key x q)) in
    let known : list_any (λ k. same_key k x) ks ≡ true → list_any (λ k. same_key k q) ks ≡ (list_any (λ k. same_key k q) ks || same_key x q) = λ e.
    elim (cases_Bool (same_key x q)) [
      | inl equal ↦
          let there : list_any (λ k. same_key k q) ks ≡ true = ap (λ (y : Key). list_any (λ k. same_key k y) ks) (sym (same_key_exact x q equal)) ∙ e in
          there ∙ sym (or_left (list_any (λ k. same_key k q) ks) (same_key x q) there)
      | inr apart ↦ sym (ap (λ b. list_any (λ k. same_key k q) ks || b) apart ∙ or-false (list_any (λ k. same_key k q) ks))
    ] in
    elim (list_any (λ k. same_key k x) ks) as (λ b. (b ≡ true → list_any (λ k. same_key k q) ks ≡ (list_any (λ k. same_key k q) ks || same_key x q)) → list_any (λ k. same_key k q) (cond b ks (ks ++ x ∷ [])) ≡ (list_any (λ k. same_key k q) ks || same_key x q)) [ true ↦ λ k. k refl | false ↦ λ _. pushed ] known

among_fold : (ks xs : List Key) (q : Key) → list_any (λ k. same_key k q) (fold (with_datum same_key) ks xs) ≡ (list_any (λ k. same_key k q) ks || list_any (λ k. same_key k q) xs)
among_fold ks [] q = sym (or-false (list_any (λ k. same_key k q) ks))
among_fold ks (x ∷ xs) q =
    among_fold (with_datum same_key ks x) xs q ∙ ap (λ b. b || list_any (λ k. same_key k q) xs) (among_with ks x q) ∙ or_assoc (list_any (λ k. same_key k q) ks) (same_key x q) (list_any (λ k. same_key k q) xs)

none_own : (xs : List Ranked) (key : Key) → list_any (λ k. same_key k key) (map key_of xs) ≡ false → own key xs ≡ []
none_own [] key e = refl
none_own (x ∷ xs) key e =
    let parts = or_parts (same_key (key_of x) key) (list_any (λ k. same_key k key) (map key_of xs)) e in
    ap (λ b. cond b (x ∷ own key xs) (own key xs)) (same_key-other (key_of x) key parts.0) ∙ none_own xs key parts.1

-- ---- one record more

-- a set from the records that are its own
abbrev set_with : Key → List Ranked → Set
set_with key mine = record { key = key; ttl = least_ttl mine; data_in = each_once data_eq (map (λ r. r.said.body) mine) }

abbrev more_with : Key → List Ranked → Ranked → Set
more_with key mine r = record { key = key; ttl = min (least_ttl mine) r.said.ttl; data_in = with_datum data_eq (each_once data_eq (map (λ r. r.said.body) mine)) r.said.body }

more_own : (key : Key) (mine : List Ranked) (r : Ranked) → set_with key (mine ++ r ∷ []) ≡ more_with key mine r
more_own key mine r =
    let bodies : List Ranked → List Data = λ rs. map (λ (r : Ranked). r.said.body) rs in
    let ttl : least_ttl (mine ++ r ∷ []) ≡ min (least_ttl mine) r.said.ttl = fold-append (λ least r. min least r.said.ttl) LONGEST_TTL mine (r ∷ []) in
    let once : each_once data_eq (bodies (mine ++ r ∷ [])) ≡ with_datum data_eq (each_once data_eq (bodies mine)) r.said.body =
    ap (λ (ds : List Data). each_once data_eq ds) (map_push (λ (r : Ranked). r.said.body) mine r) ∙ fold-append (with_datum data_eq) [] (bodies mine) (r.said.body ∷ []) in
    let with_ttl : ℕ → Set = λ t. record { key = key; ttl = t; data_in = each_once data_eq (bodies (mine ++ r ∷ [])) } in
    let with_data : List Data → Set = λ ds. record { key = key; ttl = min (least_ttl mine) r.said.ttl; data_in = ds } in
    ap with_ttl ttl ∙ ap with_data once

set_more : (xs : List Ranked) (r : Ranked) (key : Key) → set_among (xs ++ r ∷ []) key ≡ joined r (set_among xs key)
set_more xs r key =
    ap (set_with key) (filter-append (λ r. same_key key (key_of r)) xs (r ∷ []))
    ∙ elim (same_key key (key_of r)) as (λ b. set_with key (own key xs ++ cond b (r ∷ []) []) ≡ cond b (more_with key (own key xs) r) (set_with key (own key xs))) [
      | true ↦ more_own key (own key xs) r
      | false ↦ ap (set_with key) (append-nil (own key xs))
    ]

sets_more : (xs : List Ranked) (r : Ranked) (keys : List Key) → map (set_among (xs ++ r ∷ [])) keys ≡ map (joined r) (map (set_among xs) keys)
sets_more xs r [] = refl
sets_more xs r (key ∷ keys) =
    let one = set_more xs r key in
    let more = sets_more xs r keys in
    cc

-- whether a record has a set is whether its key is one of theirs
has_among : (xs : List Ranked) (r : Ranked) (keys : List Key) → has_set (map (set_among xs) keys) r ≡ is_among same_key keys (key_of r)
has_among xs r [] = refl
has_among xs r (key ∷ keys) = ap (λ b. same_key key (key_of r) || b) (has_among xs r keys)

keys_more : (xs : List Ranked) (r : Ranked) → each_once same_key (map key_of (xs ++ r ∷ [])) ≡ with_datum same_key (each_once same_key (map key_of xs)) (key_of r)
keys_more xs r = ap (λ (ks : List Key). each_once same_key ks) (map_push key_of xs r) ∙ fold-append (with_datum same_key) [] (map key_of xs) (key_of r ∷ [])

begun_set : (xs : List Ranked) (r : Ranked) → is_among same_key (each_once same_key (map key_of xs)) (key_of r) ≡ false → set_among (xs ++ r ∷ []) (key_of r) ≡ begun r
begun_set xs r e =
    let none : own (key_of r) xs ≡ [] = none_own xs (key_of r) (sym (among_fold [] (map key_of xs) (key_of r)) ∙ e) in
    set_more xs r (key_of r) ∙ ap (λ (mine : List Ranked). joined r (set_with (key_of r) mine)) none
    ∙ ap (λ b. cond b (begun r) (set_with (key_of r) [])) (same_key_itself (key_of r))

-- the sets with one record more that is of one of them
pub sets_join : (xs : List Ranked) (r : Ranked) → has_set (sets_of xs) r ≡ true → sets_of (xs ++ r ∷ []) ≡ map (joined r) (sets_of xs)
sets_join xs r has =
    let keys : List Key = each_once same_key (map key_of xs) in
    let among = sym (has_among xs r keys) ∙ has in
    ap (λ (ks : List Key). map (set_among (xs ++ r ∷ [])) ks) (keys_more xs r ∙ ap (λ b. cond b keys (keys ++ key_of r ∷ [])) among)
    ∙ sets_more xs r keys

-- and with one that begins a set
pub sets_begin : (xs : List Ranked) (r : Ranked) → has_set (sets_of xs) r ≡ false → sets_of (xs ++ r ∷ []) ≡ map (joined r) (sets_of xs) ++ begun r ∷ []
sets_begin xs r has =
    let keys : List Key = each_once same_key (map key_of xs) in
    let among = sym (has_among xs r keys) ∙ has in
    ap (λ (ks : List Key). map (set_among (xs ++ r ∷ [])) ks) (keys_more xs r ∙ ap (λ b. cond b keys (keys ++ key_of r ∷ [])) among)
    ∙ map_push (set_among (xs ++ r ∷ [])) keys (key_of r)
    ∙ ap (λ (ss : List Set). ss ++ set_among (xs ++ r ∷ []) (key_of r) ∷ []) (sets_more xs r keys)
    ∙ ap (λ (s : Set). map (joined r) (map (set_among xs) keys) ++ s ∷ []) (begun_set xs r among)
