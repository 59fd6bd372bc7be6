-- An IPv6 address is read from a text exactly where the text stands for it.
use Rattle.std.proofs.Common.{◌≡◌, ℕ, zero, suc, ◌+◌, ◌-◌, ◌*◌, ◌/◌, ◌%◌, ◌<◌, ◌≤◌, true, false, List, [], ◌∷◌, ◌++◌, length, replicate, Option, Some, None, refl, sym, ap, subst, ◌∙◌, inl, inr, arith, append_assoc, length-append, lt-ltb, le-ltb, eq-eqb, eqb-true}
use Rattle.std.specs.Prelude.{IfSome, ◌==◌, ◌&&◌, option_map}
use Rattle.std.specs.Char.{digit_value}
use Rattle.std.specs.List.{slice_split, onto_first, list_all, join_with_byte}
use Rattle.std.specs.Net.Addr.{octets_of}
use Rattle.std.specs.Str.Parse.{AllDigits}
use Rattle.std.proofs.lemmas.Bool.{cases_Bool, cases_lt, and_parts}
use Rattle.std.proofs.lemmas.List.{append-nil}
use Rattle.dns_name.specs.Text.{EachPair}
use Rattle.dns_text.specs.Word.{with_first}
use Rattle.dns_text.specs.Ipv6.{IsGroupText, AreGroups, IsEightGroups, IsGapped, IsIpv6Text, ReadsIpv6, hex_in, four_in, group_in, with_group, with_word, octets_after, is_colon, groups_in, cut_at_gap, with_zeros, whole_address, around_gap, ipv6_in}
use Rattle.dns_text.proofs.OptionLaws.{stepped, some_list, some_number}
use Rattle.dns_text.proofs.Ipv6Laws.{no_colon, split_end, split_colon}
use Rattle.dns_text.proofs.Ipv6Head.{onto_parts, gap_behind, gap_word, no_gap_in}

-- ---- one group

record IsHex (c n : ℕ) : Type 0 where
  pub digit : digit_value c < 16
  pub value : n ≡ digit_value c

hex_found : (c n : ℕ) → hex_in c ≡ Some n → IsHex c n
hex_found c n e = elim (cases_lt (digit_value c) 16) [
  | inl digit ↦ let here : Some (digit_value c) ≡ Some n = sym (rw (lt-ltb (digit_value c) 16 digit) refl) ∙ e in record { digit = digit; value = cc }
  | inr other ↦ let none : None ≡ Some n = sym (rw (le-ltb (digit_value c) 16 other) refl) ∙ e in absurd cc
]

hex_read : (c : ℕ) → digit_value c < 16 → hex_in c ≡ Some (digit_value c)
hex_read c digit = rw (lt-ltb (digit_value c) 16 digit) refl

record AreFour (a b c d n : ℕ) : Type 0 where
  pub first : digit_value a < 16
  pub second : digit_value b < 16
  pub third : digit_value c < 16
  pub fourth : digit_value d < 16
  pub value : n ≡ ((digit_value a * 16 + digit_value b) * 16 + digit_value c) * 16 + digit_value d

four_found : (a b c d n : ℕ) → four_in a b c d ≡ Some n → AreFour a b c d n
four_found a b c d n e =
    let p = stepped (hex_in a) _ n e in
    let q = stepped (hex_in b) _ n p.second in
    let r = stepped (hex_in c) _ n q.second in
    let s = stepped (hex_in d) _ n r.second in
    let ha = hex_found a p.from p.first in
    let hb = hex_found b q.from q.first in
    let hc = hex_found c r.from r.first in
    let hd = hex_found d s.from s.first in
    let value : ((p.from * 16 + q.from) * 16 + r.from) * 16 + s.from ≡ n = cc (s.second) in
    record { first = ha.digit; second = hb.digit; third = hc.digit; fourth = hd.digit; value = omega (arith, value, ha.value, hb.value, hc.value, hd.value) }

four_read : (a b c d : ℕ) → digit_value a < 16 → digit_value b < 16 → digit_value c < 16 → digit_value d < 16 → four_in a b c d ≡ Some (((digit_value a * 16 + digit_value b) * 16 + digit_value c) * 16 + digit_value d)
four_read a b c d ha hb hc hd = rw (hex_read a ha) (rw (hex_read b hb) (rw (hex_read c hc) (rw (hex_read d hd) refl)))

pub group_found : (word : List ℕ) (group : ℕ) → group_in word ≡ Some group → IsGroupText word group
unfolding group_in
group_found [] group e = absurd cc
group_found (d ∷ []) group e =
    let h = four_found 48 48 48 d group e in
    record { numeral = (omega arith, (h.fourth, tt)); few = omega arith; value = omega (arith, h.value) }
group_found (c ∷ d ∷ []) group e =
    let h = four_found 48 48 c d group e in
    record { numeral = (omega arith, (h.third, (h.fourth, tt))); few = omega arith; value = omega (arith, h.value) }
group_found (b ∷ c ∷ d ∷ []) group e =
    let h = four_found 48 b c d group e in
    record { numeral = (omega arith, (h.second, (h.third, (h.fourth, tt)))); few = omega arith; value = omega (arith, h.value) }
group_found (a ∷ b ∷ c ∷ d ∷ []) group e =
    let h = four_found a b c d group e in
    record { numeral = (omega arith, (h.first, (h.second, (h.third, (h.fourth, tt))))); few = omega arith; value = omega (arith, h.value) }
group_found (a ∷ b ∷ c ∷ d ∷ e ∷ word) group none = absurd cc

pub group_read : (word : List ℕ) (group : ℕ) → IsGroupText word group → group_in word ≡ Some group
unfolding group_in
group_read [] group h = absurd (omega (arith, h.numeral.0))
group_read (d ∷ []) group h = four_read 48 48 48 d (omega arith) (omega arith) (omega arith) h.numeral.1.0 ∙ some_number _ _ (omega (arith, h.value))
group_read (c ∷ d ∷ []) group h = four_read 48 48 c d (omega arith) (omega arith) h.numeral.1.0 h.numeral.1.1.0 ∙ some_number _ _ (omega (arith, h.value))
group_read (b ∷ c ∷ d ∷ []) group h = four_read 48 b c d (omega arith) h.numeral.1.0 h.numeral.1.1.0 h.numeral.1.1.1.0 ∙ some_number _ _ (omega (arith, h.value))
group_read (a ∷ b ∷ c ∷ d ∷ []) group h = four_read a b c d h.numeral.1.0 h.numeral.1.1.0 h.numeral.1.1.1.0 h.numeral.1.1.1.1.0 ∙ some_number _ _ (omega (arith, h.value))
group_read (a ∷ b ∷ c ∷ d ∷ e ∷ word) group h = absurd (omega (arith, h.few))

-- ---- groups with colons between them

join-onto_first : (c : ℕ) (words : List (List ℕ)) → 0 < length words → join_with_byte 58 (onto_first c words) ≡ c ∷ join_with_byte 58 words
join-onto_first c [] some = absurd (omega arith)
join-onto_first c (word ∷ []) some = refl
join-onto_first c (word ∷ next ∷ words) some = refl

onto_first-some : (c : ℕ) (words : List (List ℕ)) → 0 < length (onto_first c words)
onto_first-some c [] = omega arith
onto_first-some c (word ∷ words) = omega arith

split_some : (text : List ℕ) → 0 < length (slice_split is_colon text)
split_some [] = omega arith
split_some (c ∷ text) = elim (cases_Bool (c == 58)) [
  | inl colon ↦ rw colon (omega arith)
  | inr other ↦ rw other (onto_first-some c (slice_split is_colon text))
]

join_behind : (words : List (List ℕ)) → 0 < length words → join_with_byte 58 ([] ∷ words) ≡ 58 ∷ join_with_byte 58 words
join_behind [] some = absurd (omega arith)
join_behind (word ∷ words) some = refl

join-split : (text : List ℕ) → join_with_byte 58 (slice_split is_colon text) ≡ text
join-split [] = refl
join-split (c ∷ text) = elim (cases_Bool (c == 58)) [
  | inl colon ↦
      let same : c ≡ 58 = eqb-true c 58 colon in
      rw colon (join_behind (slice_split is_colon text) (split_some text) ∙ ap (λ (x : List ℕ). 58 ∷ x) (join-split text) ∙ ap (λ (x : ℕ). x ∷ text) (sym same))
  | inr other ↦ rw other (join-onto_first c (slice_split is_colon text) (split_some text) ∙ ap (λ (x : List ℕ). c ∷ x) (join-split text))
]

digit_no_colon : (c : ℕ) → digit_value c < 16 → is_colon c ≡ false
digit_no_colon c digit = elim (cases_Bool (c == 58)) [
  | inl colon ↦ let same : c ≡ 58 = eqb-true c 58 colon in let high : digit_value 58 < 16 = subst (λ x. digit_value x < 16) same digit in absurd (omega (arith, high))
  | inr other ↦ other
]

digits_no_colon : (word : List ℕ) → AllDigits 16 word → list_all no_colon word ≡ true
digits_no_colon [] h = refl
digits_no_colon (c ∷ word) h = rw (digit_no_colon c h.0) (digits_no_colon word h.1)

group_plain : (word : List ℕ) (group : ℕ) → IsGroupText word group → list_all no_colon word ≡ true
group_plain word group h = digits_no_colon word h.numeral.1

record Groups (before : List ℕ) (words : List (List ℕ)) (octets : List ℕ) : Type 0 where
  pub groups : List ℕ
  pub each : EachPair IsGroupText words groups
  pub value : octets ≡ before ++ octets_of groups

with_group_found : (before : List ℕ) (group : ℕ) (octets : List ℕ) → with_group before group ≡ Some octets → octets ≡ before ++ (group / 256) ∷ (group % 256) ∷ []
with_group_found before group octets e = elim (cases_lt 14 (length before)) [
  | inl full ↦ let none : None ≡ Some octets = sym (rw (lt-ltb 14 (length before) full) refl) ∙ e in absurd cc
  | inr room ↦ let here : Some (before ++ (group / 256) ∷ (group % 256) ∷ []) ≡ Some octets = sym (rw (le-ltb 14 (length before) room) refl) ∙ e in cc
]

groups_found : (before : List ℕ) (words : List (List ℕ)) (octets : List ℕ) → octets_after before words ≡ Some octets → Groups before words octets
unfolding octets_after
groups_found before [] octets e = let same : before ≡ octets = cc in record { groups = []; each = tt; value = sym same ∙ sym (append-nil before) }
groups_found before (word ∷ words) octets e =
    let p = stepped (with_word before word) _ octets e in
    let q = stepped (group_in word) _ p.from p.first in
    let two : List ℕ = (q.from / 256) ∷ (q.from % 256) ∷ [] in
    let next : p.from ≡ before ++ two = with_group_found before q.from p.from q.second in
    let more = groups_found p.from words octets p.second in
    record {
      groups = q.from ∷ more.groups;
      each = (group_found word q.from q.first, more.each);
      value = more.value ∙ ap (λ (x : List ℕ). x ++ octets_of more.groups) next ∙ append_assoc before two (octets_of more.groups);
    }

groups_read : (before : List ℕ) (words : List (List ℕ)) (groups : List ℕ) → EachPair IsGroupText words groups → length before + (length groups + length groups) ≤ 16 → octets_after before words ≡ Some (before ++ octets_of groups)
unfolding octets_after
groups_read before [] [] h room = some_list _ _ (sym (append-nil before))
groups_read before [] (group ∷ groups) h room = absurd h
groups_read before (word ∷ words) [] h room = absurd h
groups_read before (word ∷ words) (group ∷ groups) h room =
    let two : List ℕ = (group / 256) ∷ (group % 256) ∷ [] in
    rw (group_read word group h.0) (rw (le-ltb 14 (length before) (omega arith))
    (groups_read (before ++ two) words groups h.1 (omega (arith, length-append before two)) ∙ some_list _ _ (append_assoc before two (octets_of groups))))

split_texts : (text : List ℕ) (texts : List (List ℕ)) (group : ℕ) (groups : List ℕ) → EachPair IsGroupText (text ∷ texts) (group ∷ groups) → slice_split is_colon (join_with_byte 58 (text ∷ texts)) ≡ text ∷ texts
split_texts text [] group groups h = split_end text (group_plain text group h.0)
split_texts text (next ∷ texts) group [] h = absurd h.1
split_texts text (next ∷ texts) group (other ∷ groups) h =
    split_colon text (join_with_byte 58 (next ∷ texts)) (group_plain text group h.0) ∙ ap (λ (x : List (List ℕ)). text ∷ x) (split_texts next texts other groups h.1)

-- the groups of some octets
record OfGroups (text octets : List ℕ) : Type 0 where
  pub groups : List ℕ
  pub written : AreGroups text groups
  pub value : octets ≡ octets_of groups

all_found : (text octets : List ℕ) → groups_in text ≡ Some octets → OfGroups text octets
unfolding groups_in
all_found [] octets e = let same : [] ≡ octets = cc in record { groups = []; written = record { texts = []; joined = refl; each = tt }; value = sym same }
all_found (c ∷ text) octets e =
    let found = groups_found [] (slice_split is_colon (c ∷ text)) octets e in
    record { groups = found.groups; written = record { texts = slice_split is_colon (c ∷ text); joined = sym (join-split (c ∷ text)); each = found.each }; value = found.value }

some_read : (text : List ℕ) (texts : List (List ℕ)) (group : ℕ) (groups : List ℕ) (whole : List ℕ) → whole ≡ join_with_byte 58 (text ∷ texts) → 0 < length whole → EachPair IsGroupText (text ∷ texts) (group ∷ groups) → length groups < 8 → groups_in whole ≡ Some (octets_of (group ∷ groups))
unfolding groups_in
some_read text texts group groups [] e some h few = absurd (omega arith)
some_read text texts group groups (c ∷ whole) e some h few =
    ap (λ (x : List ℕ). octets_after [] (slice_split is_colon x)) e ∙ ap (octets_after []) (split_texts text texts group groups h) ∙ groups_read [] (text ∷ texts) (group ∷ groups) h (omega arith)

join_some : (text : List ℕ) (texts : List (List ℕ)) → 0 < length text → 0 < length (join_with_byte 58 (text ∷ texts))
join_some text [] some = some
join_some text (next ∷ texts) some = omega (arith, length-append text (58 ∷ join_with_byte 58 (next ∷ texts)))

written_read : (texts : List (List ℕ)) (groups : List ℕ) → EachPair IsGroupText texts groups → length groups ≤ 8 → groups_in (join_with_byte 58 texts) ≡ Some (octets_of groups)
unfolding groups_in
written_read [] [] h few = refl
written_read [] (group ∷ groups) h few = absurd h
written_read (text ∷ texts) [] h few = absurd h
written_read (text ∷ texts) (group ∷ groups) h few = some_read text texts group groups (join_with_byte 58 (text ∷ texts)) refl (join_some text texts h.0.numeral.0) h (omega arith)

all_read : (text groups : List ℕ) → AreGroups text groups → length groups ≤ 8 → groups_in text ≡ Some (octets_of groups)
all_read text groups h few = ap groups_in h.joined ∙ written_read h.texts groups h.each few

-- ---- the gap

with_first_found : (a : ℕ) (o : Option (List ℕ × List ℕ)) (front back : List ℕ) → option_map (with_first a) o ≡ Some (front, back) → (rest : List ℕ) × (o ≡ Some (rest, back)) × (front ≡ a ∷ rest)
with_first_found a None front back e = absurd cc
with_first_found a (Some parts) front back e =
    let same : (a ∷ parts.0, parts.1) ≡ (front, back) = cc in
    let first : a ∷ parts.0 ≡ front = ap (λ (p : List ℕ × List ℕ). p.0) same in
    let second : parts.1 ≡ back = ap (λ (p : List ℕ × List ℕ). p.1) same in
    let whole : Some (parts.0, parts.1) ≡ Some (parts.0, back) = ap (λ (x : List ℕ). let o : Option (List ℕ × List ℕ) = Some (parts.0, x) in o) second in
    (parts.0, whole, sym first)

gap_parts : (text front back : List ℕ) → cut_at_gap text ≡ Some (front, back) → text ≡ front ++ 58 ∷ 58 ∷ back
gap_parts [] front back e = absurd cc
gap_parts (a ∷ []) front back e = absurd cc
gap_parts (a ∷ b ∷ text) front back e = elim (cases_Bool (a == 58 && b == 58)) [
  | inl gap ↦
      let here : Some ([], text) ≡ Some (front, back) = sym (rw gap refl) ∙ e in
      let same : ([], text) ≡ (front, back) = cc in
      let none : [] ≡ front = ap (λ (p : List ℕ × List ℕ). p.0) same in
      let rest : text ≡ back = ap (λ (p : List ℕ × List ℕ). p.1) same in
      let both = and_parts _ _ gap in
      let first : a ≡ 58 = eqb-true a 58 both.0 in
      let second : b ≡ 58 = eqb-true b 58 both.1 in
      cc
  | inr other ↦
      let here : option_map (with_first a) (cut_at_gap (b ∷ text)) ≡ Some (front, back) = sym (rw other refl) ∙ e in
      let found = with_first_found a (cut_at_gap (b ∷ text)) front back here in
      ap (λ (x : List ℕ). a ∷ x) (gap_parts (b ∷ text) found.0 back found.1) ∙ ap (λ (x : List ℕ). x ++ 58 ∷ 58 ∷ back) (sym found.2)
]

-- what begins with no colon
record Begins (text : List ℕ) : Type 0 where
  pub first : ℕ
  pub rest : List ℕ
  pub is : text ≡ first ∷ rest
  pub other : is_colon first ≡ false

begins : (text : List ℕ) (group : ℕ) → IsGroupText text group → Begins text
begins [] group h = absurd (omega (arith, h.numeral.0))
begins (c ∷ text) group h = record { first = c; rest = text; is = refl; other = digit_no_colon c h.numeral.1.0 }

begins-more : (text more : List ℕ) → Begins text → Begins (text ++ more)
begins-more text more h = record { first = h.first; rest = h.rest ++ more; is = ap (λ (x : List ℕ). x ++ more) h.is; other = h.other }

join_begins : (text : List ℕ) (texts : List (List ℕ)) → Begins text → Begins (join_with_byte 58 (text ∷ texts))
join_begins text [] h = h
join_begins text (next ∷ texts) h = begins-more text (58 ∷ join_with_byte 58 (next ∷ texts)) h

gap_behind-other : (word text : List ℕ) → Begins text → gap_behind word text ≡ onto_parts word (cut_at_gap text)
gap_behind-other word text h =
    let here : gap_behind word (h.first ∷ h.rest) ≡ onto_parts word (cut_at_gap (h.first ∷ h.rest)) = rw h.other refl in
    subst (λ (x : List ℕ). gap_behind word x ≡ onto_parts word (cut_at_gap x)) (sym h.is) here

no_gap_joined : (texts : List (List ℕ)) (groups : List ℕ) → EachPair IsGroupText texts groups → cut_at_gap (join_with_byte 58 texts) ≡ None
no_gap_joined [] groups h = refl
no_gap_joined (text ∷ texts) [] h = absurd h
no_gap_joined (text ∷ []) (group ∷ groups) h = no_gap_in text (group_plain text group h.0)
no_gap_joined (text ∷ next ∷ texts) (group ∷ []) h = absurd h.1
no_gap_joined (text ∷ next ∷ texts) (group ∷ other ∷ groups) h =
    let rest : List ℕ = join_with_byte 58 (next ∷ texts) in
    gap_word text rest (group_plain text group h.0) ∙ gap_behind-other text rest (join_begins next texts (begins next other h.1.0))
    ∙ ap (onto_parts text) (no_gap_joined (next ∷ texts) (other ∷ groups) h.1)

gap_joined : (texts : List (List ℕ)) (groups back : List ℕ) → EachPair IsGroupText texts groups → cut_at_gap (join_with_byte 58 texts ++ 58 ∷ 58 ∷ back) ≡ Some (join_with_byte 58 texts, back)
gap_joined [] groups back h = refl
gap_joined (text ∷ texts) [] back h = absurd h
gap_joined (text ∷ []) (group ∷ groups) back h = gap_word text (58 ∷ back) (group_plain text group h.0)
gap_joined (text ∷ next ∷ texts) (group ∷ []) back h = absurd h.1
gap_joined (text ∷ next ∷ texts) (group ∷ other ∷ groups) back h =
    let joined : List ℕ = join_with_byte 58 (next ∷ texts) in
    let rest : List ℕ = joined ++ 58 ∷ 58 ∷ back in
    ap cut_at_gap (append_assoc text (58 ∷ joined) (58 ∷ 58 ∷ back)) ∙ gap_word text rest (group_plain text group h.0)
    ∙ gap_behind-other text rest (begins-more joined (58 ∷ 58 ∷ back) (join_begins next texts (begins next other h.1.0)))
    ∙ ap (onto_parts text) (gap_joined (next ∷ texts) (other ∷ groups) back h.1)

-- ---- a whole address

length-octets_of : (groups : List ℕ) → length (octets_of groups) ≡ length groups + length groups
length-octets_of [] = refl
length-octets_of (group ∷ groups) = omega (arith, length-octets_of groups)

octets_of-append : (xs ys : List ℕ) → octets_of (xs ++ ys) ≡ octets_of xs ++ octets_of ys
octets_of-append [] ys = refl
octets_of-append (x ∷ xs) ys = ap (λ (o : List ℕ). (x / 256) ∷ (x % 256) ∷ o) (octets_of-append xs ys)

octets_of-zeros : (n m : ℕ) → m ≡ n + n → octets_of (replicate n 0) ≡ replicate m 0
octets_of-zeros zero zero e = refl
octets_of-zeros zero (suc m) e = absurd (omega arith)
octets_of-zeros (suc n) zero e = absurd (omega arith)
octets_of-zeros (suc n) (suc zero) e = absurd (omega arith)
octets_of-zeros (suc n) (suc (suc m)) e = ap (λ (o : List ℕ). 0 ∷ 0 ∷ o) (octets_of-zeros n m (omega arith))

-- the octets of groups with zeros between them
around : (before after : List ℕ) (n m : ℕ) → m ≡ n + n → octets_of (before ++ replicate n 0 ++ after) ≡ octets_of before ++ replicate m 0 ++ octets_of after
around before after n m e =
    octets_of-append (before ++ replicate n 0) after
    ∙ ap (λ (x : List ℕ). x ++ octets_of after) (octets_of-append before (replicate n 0) ∙ ap (λ (x : List ℕ). octets_of before ++ x) (octets_of-zeros n m e))

whole_found : (head octets : List ℕ) → whole_address head ≡ Some octets → (length head ≡ 16) × (octets ≡ head)
whole_found head octets e = elim (cases_Bool (length head == 16)) [
  | inl long ↦ let here : Some head ≡ Some octets = sym (rw long refl) ∙ e in let same : head ≡ octets = cc in (eqb-true (length head) 16 long, sym same)
  | inr other ↦ let none : None ≡ Some octets = sym (rw other refl) ∙ e in absurd cc
]

zeros_found : (head tail octets : List ℕ) → with_zeros head tail ≡ Some octets → (length head + length tail ≤ 14) × (octets ≡ head ++ replicate (16 - (length head + length tail)) 0 ++ tail)
zeros_found head tail octets e = elim (cases_lt 14 (length head + length tail)) [
  | inl many ↦ let none : None ≡ Some octets = sym (rw (lt-ltb 14 (length head + length tail) many) refl) ∙ e in absurd cc
  | inr few ↦
      let here : Some (head ++ replicate (16 - (length head + length tail)) 0 ++ tail) ≡ Some octets = sym (rw (le-ltb 14 (length head + length tail) few) refl) ∙ e in
      let same : head ++ replicate (16 - (length head + length tail)) 0 ++ tail ≡ octets = cc in
      (few, sym same)
]

found_around : (text octets : List ℕ) (o : Option (List ℕ × List ℕ)) → cut_at_gap text ≡ o → around_gap text o ≡ Some octets → IsIpv6Text text octets
found_around text octets None cut e =
    let p = stepped (groups_in text) _ octets e in
    let all = all_found text p.from p.first in
    let long = whole_found p.from octets p.second in
    inl (record { groups = all.groups; written = all.written; eight = omega (arith, long.0, ap length all.value, length-octets_of all.groups); value = long.1 ∙ all.value })
found_around text octets (Some parts) cut e =
    let p = stepped (groups_in parts.0) _ octets e in
    let q = stepped (groups_in parts.1) _ octets p.second in
    let before = all_found parts.0 p.from p.first in
    let after = all_found parts.1 q.from q.first in
    let few = zeros_found p.from q.from octets q.second in
    let many_before : length p.from ≡ length before.groups + length before.groups = ap length before.value ∙ length-octets_of before.groups in
    let many_after : length q.from ≡ length after.groups + length after.groups = ap length after.value ∙ length-octets_of after.groups in
    let zeros : ℕ = 16 - (length p.from + length q.from) in
    let joined : p.from ++ replicate zeros 0 ++ q.from ≡ octets_of before.groups ++ replicate zeros 0 ++ octets_of after.groups =
    ap (λ (x : List ℕ). x ++ replicate zeros 0 ++ q.from) before.value ∙ ap (λ (x : List ℕ). octets_of before.groups ++ replicate zeros 0 ++ x) after.value in
    inr (record {
      front = parts.0;
      back = parts.1;
      before = before.groups;
      after = after.groups;
      parts = gap_parts text parts.0 parts.1 cut;
      written_before = before.written;
      written_after = after.written;
      fewer = omega (arith, few.0, many_before, many_after);
      value = few.1 ∙ joined ∙ sym (around before.groups after.groups (8 - (length before.groups + length after.groups)) zeros (omega (arith, few.0, many_before, many_after)));
    })

read_eight : (text octets : List ℕ) → IsEightGroups text octets → ipv6_in text ≡ Some octets
unfolding ipv6_in
read_eight text octets h =
    let none : cut_at_gap text ≡ None = ap cut_at_gap h.written.joined ∙ no_gap_joined h.written.texts h.groups h.written.each in
    let eight = h.eight in
    let read : groups_in text ≡ Some (octets_of h.groups) = all_read text h.groups h.written (omega arith) in
    let long : length (octets_of h.groups) ≡ 16 = omega (arith, length-octets_of h.groups) in
    rw none (rw read (rw (eq-eqb (length (octets_of h.groups)) 16 long) (some_list _ _ (sym h.value))))

read_gapped : (text octets : List ℕ) → IsGapped text octets → ipv6_in text ≡ Some octets
unfolding ipv6_in
read_gapped text octets h =
    let joined = h.written_before.joined in
    let cut : cut_at_gap text ≡ Some (h.front, h.back) =
    ap cut_at_gap (h.parts ∙ ap (λ (x : List ℕ). x ++ 58 ∷ 58 ∷ h.back) joined) ∙ gap_joined h.written_before.texts h.before h.back h.written_before.each
    ∙ ap (λ (x : List ℕ). let o : Option (List ℕ × List ℕ) = Some (x, h.back) in o) (sym joined) in
    let fewer = h.fewer in
    let first : groups_in h.front ≡ Some (octets_of h.before) = all_read h.front h.before h.written_before (omega arith) in
    let second : groups_in h.back ≡ Some (octets_of h.after) = all_read h.back h.after h.written_after (omega arith) in
    let head : List ℕ = octets_of h.before in
    let tail : List ℕ = octets_of h.after in
    let few : length head + length tail ≤ 14 = omega (arith, length-octets_of h.before, length-octets_of h.after) in
    let zeros : 16 - (length head + length tail) ≡ (8 - (length h.before + length h.after)) + (8 - (length h.before + length h.after)) = omega (arith, length-octets_of h.before, length-octets_of h.after) in
    rw cut (rw first (rw second (rw (le-ltb 14 (length head + length tail) few) (some_list _ _ (sym (h.value ∙ around h.before h.after (8 - (length h.before + length h.after)) _ zeros))))))

pub ipv6_found : (text octets : List ℕ) → ipv6_in text ≡ Some octets → IsIpv6Text text octets
unfolding ipv6_in
ipv6_found text octets e = found_around text octets (cut_at_gap text) refl e

pub ipv6_read : (text octets : List ℕ) → IsIpv6Text text octets → ipv6_in text ≡ Some octets
ipv6_read text octets h = elim h [ inl eight ↦ read_eight text octets eight | inr gapped ↦ read_gapped text octets gapped ]

-- ---- what the reader says

pub some_stands : (text : List ℕ) (found : Option (List ℕ)) → found ≡ ipv6_in text → IfSome found (IsIpv6Text text)
some_stands text None e = tt
some_stands text (Some octets) e = ipv6_found text octets (sym e)

pub all_read_is : (text : List ℕ) (found : Option (List ℕ)) → found ≡ ipv6_in text → (octets : List ℕ) → IsIpv6Text text octets → found ≡ Some octets
all_read_is text found e octets h = e ∙ ipv6_read text octets h

pub reads_ipv6 : ReadsIpv6
reads_ipv6 text octets = (ipv6_found text octets, ipv6_read text octets)
