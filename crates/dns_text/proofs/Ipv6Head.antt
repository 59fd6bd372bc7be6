-- The groups of an IPv6 address up to `::`, one after another.
use Rattle.std.proofs.Common.{◌≡◌, ℕ, Bool, true, false, List, [], ◌∷◌, ◌++◌, Option, Some, None, refl, sym, ap, subst, ◌∙◌, inl, inr, eqb-true}
use Rattle.std.specs.Prelude.{◌==◌, ◌&&◌, option_map, if◌then◌else◌}
use Rattle.std.specs.List.{slice_split, list_all}
use Rattle.std.proofs.lemmas.Bool.{cases_Bool, and_parts, not-true}
use Rattle.dns_text.specs.Word.{cut_at, with_first}
use Rattle.dns_name.specs.Options.{◌>>=◌}
use Rattle.dns_text.specs.Ipv6.{group_in, with_word, octets_after, is_colon, groups_in, cut_at_gap, by_gap, head_after, behind_colon, behind_gap, address_of, around_gap, ipv6_in}
use Rattle.dns_text.proofs.Ipv6Laws.{split_end, split_colon, no_colon}

-- ---- what a cut at a colon says of `::`

abbrev pub onto_parts : List ℕ → Option (List ℕ × List ℕ) → Option (List ℕ × List ℕ)
onto_parts word None = None
onto_parts word (Some parts) = Some (word ++ 58 ∷ parts.0, parts.1)

abbrev pub gap_behind : List ℕ → List ℕ → Option (List ℕ × List ℕ)
gap_behind word [] = None
gap_behind word (c ∷ after) = if c == 58 then Some (word, after) else onto_parts word (cut_at_gap (c ∷ after))

onto_more : (c : ℕ) (word : List ℕ) (o : Option (List ℕ × List ℕ)) → option_map (with_first c) (onto_parts word o) ≡ onto_parts (c ∷ word) o
onto_more c word None = refl
onto_more c word (Some parts) = refl

gap_more : (c : ℕ) (word after : List ℕ) → option_map (with_first c) (gap_behind word after) ≡ gap_behind (c ∷ word) after
gap_more c word [] = refl
gap_more c word (d ∷ after) = elim (cases_Bool (d == 58)) [
  | inl colon ↦ rw colon refl
  | inr other ↦ rw other (onto_more c word (cut_at_gap (d ∷ after)))
]

onto_colon : (o : Option (List ℕ × List ℕ)) → option_map (with_first 58) o ≡ onto_parts [] o
onto_colon None = refl
onto_colon (Some parts) = refl

gap_first : (after : List ℕ) → cut_at_gap (58 ∷ after) ≡ gap_behind [] after
gap_first [] = refl
gap_first (d ∷ after) = elim (cases_Bool (d == 58)) [
  | inl colon ↦ rw colon refl
  | inr other ↦ rw other (onto_colon (cut_at_gap (d ∷ after)))
]

gap_step : (c d : ℕ) (text : List ℕ) → is_colon c ≡ false → cut_at_gap (c ∷ d ∷ text) ≡ option_map (with_first c) (cut_at_gap (d ∷ text))
gap_step c d text e = rw e refl

pub gap_word : (word after : List ℕ) → list_all no_colon word ≡ true → cut_at_gap (word ++ 58 ∷ after) ≡ gap_behind word after
gap_word [] after e = gap_first after
gap_word (c ∷ []) after e =
    let parts = and_parts _ _ e in
    gap_step c 58 after (not-true _ parts.0) ∙ ap (option_map (with_first c)) (gap_first after) ∙ gap_more c [] after
gap_word (c ∷ d ∷ word) after e =
    let parts = and_parts _ _ e in
    gap_step c d (word ++ 58 ∷ after) (not-true _ parts.0) ∙ ap (option_map (with_first c)) (gap_word (d ∷ word) after parts.1) ∙ gap_more c (d ∷ word) after

pub no_gap_in : (word : List ℕ) → list_all no_colon word ≡ true → cut_at_gap word ≡ None
no_gap_in [] e = refl
no_gap_in (c ∷ []) e = refl
no_gap_in (c ∷ d ∷ word) e =
    let parts = and_parts _ _ e in
    gap_step c d word (not-true _ parts.0) ∙ ap (option_map (with_first c)) (no_gap_in (d ∷ word) parts.1)

-- ---- what is on both sides of a colon

record Cut (text word after : List ℕ) : Type 0 where
  pub is : text ≡ word ++ 58 ∷ after
  pub plain : list_all no_colon word ≡ true

abbrev CutAs : List ℕ → Option (List ℕ × List ℕ) → Type 0
CutAs text None = list_all no_colon text ≡ true
CutAs text (Some parts) = Cut text parts.0 parts.1

cut_more : (c : ℕ) (text : List ℕ) (o : Option (List ℕ × List ℕ)) → is_colon c ≡ false → CutAs text o → CutAs (c ∷ text) (option_map (with_first c) o)
cut_more c text None other h = rw (other, h) refl
cut_more c text (Some parts) other h = record { is = ap (λ (x : List ℕ). c ∷ x) h.is; plain = rw (other, h.plain) refl }

cut_as : (text : List ℕ) → CutAs text (cut_at 58 text)
cut_as [] = refl
cut_as (c ∷ text) = elim (cases_Bool (c == 58)) [
  | inl colon ↦ let same : c ≡ 58 = eqb-true c 58 colon in rw colon (record { is = ap (λ (x : ℕ). x ∷ text) same; plain = refl })
  | inr other ↦ rw other (cut_more c text (cut_at 58 text) other (cut_as text))
]

-- ---- one group more

then_then : {A B C : Type 0} (m : Option A) (f : A → Option B) (g : B → Option C) → ((m >>= f) >>= g) ≡ (m >>= λ x. f x >>= g)
then_then None f g = refl
then_then (Some x) f g = refl

-- the groups end with the text
abbrev pub ended : List ℕ → Option (List ℕ × Option (List ℕ))
ended octets = Some (octets, None)

-- the groups end at `::`
abbrev pub cut_off : List ℕ → List ℕ → Option (List ℕ × Option (List ℕ))
cut_off back octets = Some (octets, Some back)

-- what is after the colon after a group
abbrev pub head_next : List ℕ → Option (List ℕ) → List ℕ → Option (List ℕ × Option (List ℕ))
head_next after None octets = head_after octets after
head_next after (Some back) octets = cut_off back octets

by_more : (before word after : List ℕ) (o : Option (List ℕ × List ℕ)) → list_all no_colon word ≡ true → by_gap before (word ++ 58 ∷ after) (onto_parts word o) ≡ (with_word before word >>= λ octets. by_gap octets after o)
unfolding octets_after
by_more before word after None plain =
    ap (λ (ws : List (List ℕ)). octets_after before ws >>= ended) (split_colon word after plain) ∙ then_then (with_word before word) (λ octets. octets_after octets (slice_split is_colon after)) ended
by_more before word after (Some parts) plain =
    ap (λ (ws : List (List ℕ)). octets_after before ws >>= cut_off parts.1) (split_colon word parts.0 plain) ∙ then_then (with_word before word) (λ octets. octets_after octets (slice_split is_colon parts.0)) (cut_off parts.1)

by_here : (before text word after : List ℕ) → list_all no_colon word ≡ true → by_gap before text (Some (word, after)) ≡ (with_word before word >>= cut_off after)
unfolding octets_after
by_here before text word after plain =
    ap (λ (ws : List (List ℕ)). octets_after before ws >>= cut_off after) (split_end word plain) ∙ then_then (with_word before word) (λ octets. octets_after octets []) (cut_off after)

head_cut : (before word after : List ℕ) → list_all no_colon word ≡ true → by_gap before (word ++ 58 ∷ after) (gap_behind word after) ≡ (with_word before word >>= head_next after (behind_colon after))
head_cut before word [] plain = by_more before word [] None plain
head_cut before word (c ∷ after) plain =
    let text : List ℕ = word ++ 58 ∷ c ∷ after in
    let F : Bool → Type 0 = λ b. by_gap before text (if b then Some (word, after) else onto_parts word (cut_at_gap (c ∷ after))) ≡ (with_word before word >>= head_next (c ∷ after) (if b then Some after else None)) in
    elim (cases_Bool (c == 58)) [
      | inl colon ↦ subst F (sym colon) (by_here before text word after plain)
      | inr other ↦ subst F (sym other) (by_more before word (c ∷ after) (cut_at_gap (c ∷ after)) plain)
    ]

head_step : (before text word after : List ℕ) → Some (word, after) ≡ cut_at 58 text → head_after before text ≡ (with_word before word >>= head_next after (behind_colon after))
head_step before text word after e =
    let cut : Cut text word after = subst (CutAs text) (sym e) (cut_as text) in
    ap (head_after before) cut.is ∙ ap (by_gap before (word ++ 58 ∷ after)) (gap_word word after cut.plain) ∙ head_cut before word after cut.plain

head_last : (before text : List ℕ) → None ≡ cut_at 58 text → head_after before text ≡ (with_word before text >>= ended)
unfolding octets_after
head_last before text e =
    let plain : list_all no_colon text ≡ true = subst (CutAs text) (sym e) (cut_as text) in
    ap (by_gap before text) (no_gap_in text plain) ∙ ap (λ (ws : List (List ℕ)). octets_after before ws >>= ended) (split_end text plain)
    ∙ then_then (with_word before text) (λ octets. octets_after octets []) ended

-- ---- the loop: what is left gives what the whole gives

pub stops : (before text word after : List ℕ) (given : Option (List ℕ × Option (List ℕ))) → Some (word, after) ≡ cut_at 58 text → head_after before text ≡ given → None ≡ with_word before word → None ≡ given
stops before text word after given cut is bad =
    ap (λ (o : Option (List ℕ)). o >>= head_next after (behind_colon after)) bad ∙ sym (head_step before text word after cut) ∙ is

pub gap_found : (before text word after back octets : List ℕ) (given : Option (List ℕ × Option (List ℕ))) → Some (word, after) ≡ cut_at 58 text → head_after before text ≡ given → Some octets ≡ with_word before word → Some back ≡ behind_colon after → Some (octets, Some back) ≡ given
gap_found before text word after back octets given cut is good gap =
    ap (λ (o : Option (List ℕ)). head_next after o octets) gap ∙ ap (λ (o : Option (List ℕ)). o >>= head_next after (behind_colon after)) good ∙ sym (head_step before text word after cut) ∙ is

pub goes_on : (before text word after octets : List ℕ) (given : Option (List ℕ × Option (List ℕ))) → Some (word, after) ≡ cut_at 58 text → head_after before text ≡ given → Some octets ≡ with_word before word → None ≡ behind_colon after → head_after octets after ≡ given
goes_on before text word after octets given cut is good none =
    ap (λ (o : Option (List ℕ)). head_next after o octets) none ∙ ap (λ (o : Option (List ℕ)). o >>= head_next after (behind_colon after)) good ∙ sym (head_step before text word after cut) ∙ is

pub stops_last : (before text : List ℕ) (given : Option (List ℕ × Option (List ℕ))) → None ≡ cut_at 58 text → head_after before text ≡ given → None ≡ with_word before text → None ≡ given
stops_last before text given cut is bad = ap (λ (o : Option (List ℕ)). o >>= ended) bad ∙ sym (head_last before text cut) ∙ is

pub ends_last : (before text octets : List ℕ) (given : Option (List ℕ × Option (List ℕ))) → None ≡ cut_at 58 text → head_after before text ≡ given → Some octets ≡ with_word before text → Some (octets, None) ≡ given
ends_last before text octets given cut is good = ap (λ (o : Option (List ℕ)). o >>= ended) good ∙ sym (head_last before text cut) ∙ is

-- ---- a whole address

abbrev address_of_parts : List ℕ × Option (List ℕ) → Option (List ℕ)
address_of_parts r = address_of r.0 r.1

pub front_gap : (text back : List ℕ) → Some back ≡ behind_gap text → ipv6_in text ≡ address_of [] (Some back)
unfolding ipv6_in groups_in
front_gap [] back e = cc
front_gap (a ∷ []) back e = cc
front_gap (a ∷ b ∷ text) back e = elim (cases_Bool (a == 58 && b == 58)) [
  | inl gap ↦
      let here : Some back ≡ Some text = e ∙ rw gap refl in
      let same : back ≡ text = cc in
      rw gap (ap (λ (x : List ℕ). address_of [] (Some x)) (sym same))
  | inr other ↦ let none : Some back ≡ None = e ∙ rw other refl in cc
]

by_front : (a : ℕ) (text : List ℕ) (o : Option (List ℕ × List ℕ)) → around_gap (a ∷ text) (option_map (with_first a) o) ≡ (by_gap [] (a ∷ text) (option_map (with_first a) o) >>= address_of_parts)
unfolding groups_in
by_front a text None = sym (then_then (octets_after [] (slice_split is_colon (a ∷ text))) ended address_of_parts)
by_front a text (Some parts) = sym (then_then (octets_after [] (slice_split is_colon (a ∷ parts.0))) (cut_off parts.1) address_of_parts)

by_head : (text : List ℕ) → None ≡ behind_gap text → ipv6_in text ≡ (head_after [] text >>= address_of_parts)
unfolding ipv6_in groups_in group_in octets_after
by_head [] e = refl
by_head (a ∷ []) e = by_front a [] None
by_head (a ∷ b ∷ text) e = elim (cases_Bool (a == 58 && b == 58)) [
  | inl gap ↦ let none : None ≡ Some text = e ∙ rw gap refl in cc
  | inr other ↦ rw other (by_front a (b ∷ text) (cut_at_gap (b ∷ text)))
]

pub no_head : (text : List ℕ) → None ≡ behind_gap text → None ≡ head_after [] text → None ≡ ipv6_in text
no_head text none e = ap (λ (o : Option (List ℕ × Option (List ℕ))). o >>= address_of_parts) e ∙ sym (by_head text none)

pub head_and : (text head : List ℕ) (back : Option (List ℕ)) → None ≡ behind_gap text → Some (head, back) ≡ head_after [] text → address_of head back ≡ ipv6_in text
head_and text head back none e = ap (λ (o : Option (List ℕ × Option (List ℕ))). o >>= address_of_parts) e ∙ sym (by_head text none)
