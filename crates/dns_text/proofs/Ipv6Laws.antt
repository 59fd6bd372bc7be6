-- IPv6 addresses that are written are read back.
use Rattle.std.proofs.Common.{zero, suc, map, le-ltb, lt-ltb, le-leb, eq-eqb, length-drop, ◌≡◌, ℕ, ◌+◌, ◌*◌, ◌/◌, ◌%◌, ◌<◌, ◌≤◌, Bool, true, false, List, [], ◌∷◌, ◌++◌, length, get_or, drop, Option, Some, None, refl, sym, ap, ◌∙◌, arith, append_assoc, length-append, inl, inr, flat_map}
use Rattle.std.specs.Prelude.{◌==◌, not, slice_index, option_map, MatchOption}
use Rattle.std.specs.Borrow.{Bor}
use Rattle.std.specs.Char.{digit_value, digit_char}
use Rattle.std.specs.Net.Text.{hex, leading_zero_digits, groups_text}
use Rattle.std.specs.Net.Addr.{segments_of, octets_of}
use Rattle.std.specs.List.{slice_split, onto_first, list_all, AllByRecursion}
use Rattle.std.proofs.lemmas.Bool.{cases_Bool, cases_lt, lt-leb, and_parts, not-true, agree_below_at}
use Rattle.std.proofs.lemmas.Bool.Decides.{nat_tests}
use Rattle.std.proofs.lemmas.List.{append-nil}
use Rattle.std.specs.Cmp.Derive.{both_true}
use Rattle.dns_text.specs.Word.{cut_at, with_first}
use Rattle.dns_text.specs.declared.word.Within.TheVariants.{Plain}
use Rattle.dns_text.specs.Ipv6.{hex_in, four_in, group_in, octets_after, is_colon, groups_in, cut_at_gap, whole_address, ipv6_in, ipv6_text}
use Rattle.dns_text.proofs.WordLaws.{scanned, IsWord, is_plain, plain_scanned, joined_scanned}

-- the pieces between colons, by the first colon
abbrev pub pieces : List ℕ → Option (List ℕ × List ℕ) → List (List ℕ)
pieces text None = text ∷ []
pieces text (Some parts) = parts.0 ∷ slice_split is_colon parts.1

first_more : (c : ℕ) (text : List ℕ) (o : Option (List ℕ × List ℕ)) → onto_first c (pieces text o) ≡ pieces (c ∷ text) (option_map (with_first c) o)
first_more c text None = refl
first_more c text (Some parts) = refl

split_by_cut : (text : List ℕ) → slice_split is_colon text ≡ pieces text (cut_at 58 text)
split_by_cut [] = refl
split_by_cut (c ∷ text) = elim (cases_Bool (c == 58)) [
  | inl colon ↦ rw colon refl
  | inr other ↦ rw other (ap (onto_first c) (split_by_cut text) ∙ first_more c text (cut_at 58 text))
]

pub split_cut : (text : List ℕ) (o : Option (List ℕ × List ℕ)) → cut_at 58 text ≡ o → slice_split is_colon text ≡ pieces text o
split_cut text o e = split_by_cut text ∙ ap (pieces text) e

pub cut_colon : (text : List ℕ) (o : Option (Bor (List ℕ) × Bor (List ℕ))) → option_map (λ r. (r.0.now, r.1.now)) o ≡ cut_at 58 text → MatchOption o (slice_split is_colon text ≡ text ∷ []) (λ r. slice_split is_colon text ≡ r.0.now ∷ slice_split is_colon r.1.now)
cut_colon text None e = split_cut text None (sym e)
cut_colon text (Some r) e = split_cut text (Some (r.0.now, r.1.now)) (sym e)

pub text_by_first : (octets : List ℕ) → 2 ≤ length octets → ipv6_text octets ≡ hex (slice_index octets 0 * 256 + slice_index octets 1) ++ flat_map (λ t. 58 ∷ hex t) (segments_of (drop 2 octets))
text_by_first [] h = absurd (omega arith)
text_by_first (a ∷ []) h = absurd (omega arith)
text_by_first (a ∷ b ∷ octets) h = refl

-- ---- groups

digit_value-digit_char : (d : ℕ) → d < 16 → digit_value (digit_char d) ≡ d
digit_value-digit_char d h = grind (arith, nat_tests)

hex_read : (d : ℕ) → d < 16 → hex_in (digit_char d) ≡ Some d
hex_read d h = rw (digit_value-digit_char d h) (rw (lt-ltb d 16 h) refl)

four_read : (a b c d : ℕ) → a < 16 → b < 16 → c < 16 → d < 16 → four_in (digit_char a) (digit_char b) (digit_char c) (digit_char d) ≡ Some (((a * 16 + b) * 16 + c) * 16 + d)
four_read a b c d ha hb hc hd = rw (hex_read a ha) (rw (hex_read b hb) (rw (hex_read c hc) (rw (hex_read d hd) refl)))

some_number : (m n : ℕ) → m ≡ n → Some m ≡ Some n
some_number m n e = ap (λ (k : ℕ). let o : Option ℕ = Some k in o) e

pub group_in-hex : (n : ℕ) → n < 65536 → group_in (hex n) ≡ Some n
unfolding hex group_in
group_in-hex n fits =
    let a : n / 4096 < 16 = omega arith in
    let b : n / 256 % 16 < 16 = omega arith in
    let c : n / 16 % 16 < 16 = omega arith in
    let d : n % 16 < 16 = omega arith in
    let z : 0 < 16 = omega arith in
    elim (cases_lt n 4096) [
      | inr four ↦ rw (le-leb 4096 n four) (four_read (n / 4096) (n / 256 % 16) (n / 16 % 16) (n % 16) a b c d ∙ some_number _ n (omega arith))
      | inl h₃ ↦ elim (cases_lt n 256) [
        | inr three ↦ rw (lt-leb 4096 n h₃, le-leb 256 n three) (four_read 0 (n / 256 % 16) (n / 16 % 16) (n % 16) z b c d ∙ some_number _ n (omega arith))
        | inl h₂ ↦ elim (cases_lt n 16) [
          | inr two ↦ rw (lt-leb 4096 n h₃, lt-leb 256 n h₂, le-leb 16 n two) (four_read 0 0 (n / 16 % 16) (n % 16) z z c d ∙ some_number _ n (omega arith))
          | inl h₁ ↦ rw (lt-leb 4096 n h₃, lt-leb 256 n h₂, lt-leb 16 n h₁) (four_read 0 0 0 (n % 16) z z z d ∙ some_number _ n (omega arith))
        ]
      ]
    ]

all-drop : (p : ℕ → Bool) (k : ℕ) (xs : List ℕ) → list_all p xs ≡ true → list_all p (drop k xs) ≡ true
all-drop p zero xs e = e
all-drop p (suc k) [] e = e
all-drop p (suc k) (x ∷ xs) e = all-drop p k xs (and_parts _ _ e).1

-- what holds of the sixteen digits holds of a group's text
pub hex_all : (p : ℕ → Bool) → ((d : ℕ) → d < 16 → p (digit_char d) ≡ true) → (n : ℕ) → n < 65536 → list_all p (hex n) ≡ true
unfolding hex
hex_all p digits n fits = all-drop p (leading_zero_digits n) _
    (both_true (digits (n / 4096) (omega arith)) (both_true (digits (n / 256 % 16) (omega arith)) (both_true (digits (n / 16 % 16) (omega arith)) (both_true (digits (n % 16) (omega arith)) refl))))

abbrev pub no_colon : ℕ → Bool
no_colon c = not (is_colon c)

no_colon_digit : (d : ℕ) → d < 16 → no_colon (digit_char d) ≡ true
no_colon_digit d h = agree_below_at (λ n. no_colon (digit_char n)) (λ _. true) 16 d refl h

plain_digit : (d : ℕ) → d < 16 → is_plain (digit_char d) ≡ true
plain_digit d h = agree_below_at (λ n. is_plain (digit_char n)) (λ _. true) 16 d refl h

hex_no_colon : (n : ℕ) → n < 65536 → list_all no_colon (hex n) ≡ true
hex_no_colon n h = hex_all no_colon no_colon_digit n h

few_zeros : (n : ℕ) → leading_zero_digits n ≤ 3
few_zeros n = grind (arith, nat_tests)

hex_some : (n : ℕ) → 0 < length (hex n)
unfolding hex
hex_some n = omega (arith, few_zeros n, length-drop (leading_zero_digits n) (digit_char (n / 4096) ∷ digit_char (n / 256 % 16) ∷ digit_char (n / 16 % 16) ∷ digit_char (n % 16) ∷ []))

-- ---- no gap is in groups

skip_other : (c : ℕ) (text : List ℕ) → is_colon c ≡ false → cut_at_gap text ≡ None → cut_at_gap (c ∷ text) ≡ None
skip_other c [] e none = refl
skip_other c (d ∷ text) e none = rw e (rw none refl)

skip_others : (word text : List ℕ) → list_all no_colon word ≡ true → cut_at_gap text ≡ None → cut_at_gap (word ++ text) ≡ None
skip_others [] text e none = none
skip_others (c ∷ word) text e none = let parts = and_parts _ _ e in skip_other c (word ++ text) (not-true _ parts.0) (skip_others word text parts.1 none)

skip_colon : (word text : List ℕ) → 0 < length word → list_all no_colon word ≡ true → cut_at_gap (word ++ text) ≡ None → cut_at_gap (58 ∷ (word ++ text)) ≡ None
skip_colon [] text some e none = absurd (omega arith)
skip_colon (c ∷ word) text some e none = let parts = and_parts _ _ e in let other : is_colon c ≡ false = not-true _ parts.0 in rw other (rw none refl)

abbrev pub AllGroups : List ℕ → Type 0
AllGroups segments = AllByRecursion (λ s. s < 65536) segments

abbrev pub more_text : List ℕ → List ℕ
more_text segments = flat_map (λ t. 58 ∷ hex t) segments

no_gap : (segments : List ℕ) → AllGroups segments → cut_at_gap (more_text segments) ≡ None
no_gap [] h = refl
no_gap (s ∷ segments) h =
    let rest : cut_at_gap (hex s ++ more_text segments) ≡ None = skip_others (hex s) (more_text segments) (hex_no_colon s h.0) (no_gap segments h.1) in
    skip_colon (hex s) (more_text segments) (hex_some s) (hex_no_colon s h.0) rest

-- ---- the groups of a text

pub split_end : (word : List ℕ) → list_all no_colon word ≡ true → slice_split is_colon word ≡ word ∷ []
split_end [] e = refl
split_end (c ∷ word) e = let parts = and_parts _ _ e in let other : is_colon c ≡ false = not-true _ parts.0 in rw other (ap (onto_first c) (split_end word parts.1))

pub split_colon : (word text : List ℕ) → list_all no_colon word ≡ true → slice_split is_colon (word ++ 58 ∷ text) ≡ word ∷ slice_split is_colon text
split_colon [] text e = refl
split_colon (c ∷ word) text e = let parts = and_parts _ _ e in let other : is_colon c ≡ false = not-true _ parts.0 in rw other (ap (onto_first c) (split_colon word text parts.1))

split_groups : (s : ℕ) (segments : List ℕ) → s < 65536 → AllGroups segments → slice_split is_colon (hex s ++ more_text segments) ≡ hex s ∷ map hex segments
split_groups s [] small h = ap (slice_split is_colon) (append-nil (hex s)) ∙ split_end (hex s) (hex_no_colon s small)
split_groups s (t ∷ segments) small h =
    split_colon (hex s) (hex t ++ more_text segments) (hex_no_colon s small) ∙ ap (λ (x : List (List ℕ)). hex s ∷ x) (split_groups t segments h.0 h.1)

octets_read : (before segments : List ℕ) → AllGroups segments → length before + (length segments + length segments) ≤ 16 → octets_after before (map hex segments) ≡ Some (before ++ octets_of segments)
unfolding octets_after
octets_read before [] h room = ap (λ (x : List ℕ). let o : Option (List ℕ) = Some x in o) (sym (append-nil before))
octets_read before (s ∷ segments) h room =
    let two : List ℕ = (s / 256) ∷ (s % 256) ∷ [] in
    rw (group_in-hex s h.0) (rw (le-ltb 14 (length before) (omega arith))
    (octets_read (before ++ two) segments h.1 (omega (arith, length-append before two)) ∙ ap (λ (x : List ℕ). let o : Option (List ℕ) = Some x in o) (append_assoc before two (octets_of segments))))

groups_read : (s : ℕ) (segments text : List ℕ) → text ≡ hex s ++ more_text segments → 0 < length text → s < 65536 → AllGroups segments → length segments ≤ 7 → groups_in text ≡ Some (octets_of (s ∷ segments))
unfolding groups_in
groups_read s segments [] e some small h few = absurd (omega arith)
groups_read s segments (c ∷ text) e some small h few =
    ap (λ (x : List ℕ). octets_after [] (slice_split is_colon x)) e ∙ ap (octets_after []) (split_groups s segments small h) ∙ octets_read [] (s ∷ segments) (small, h) (omega arith)

-- ---- octets and their segments

pub record Segments (octets : List ℕ) (n : ℕ) : Type 0 where
  pub back : octets_of (segments_of octets) ≡ octets
  pub many : length (segments_of octets) ≡ n
  pub each : AllGroups (segments_of octets)

pub segments : (n : ℕ) (octets : List ℕ) → length octets ≡ n + n → ((i : ℕ) → get_or octets i 0 < 256) → Segments octets n
segments zero [] e fits = record { back = refl; many = refl; each = tt }
segments zero (a ∷ octets) e fits = absurd (omega arith)
segments (suc n) [] e fits = absurd (omega arith)
segments (suc n) (a ∷ []) e fits = absurd (omega arith)
segments (suc n) (a ∷ b ∷ octets) e fits =
    let more = segments n octets (omega arith) (λ i. fits (suc (suc i))) in
    let ha : a < 256 = fits 0 in
    let hb : b < 256 = fits 1 in
    let high : (a * 256 + b) / 256 ≡ a = omega arith in
    let low : (a * 256 + b) % 256 ≡ b = omega arith in
    let back = more.back in
    record { back = cc; many = omega (arith, more.many); each = (omega arith, more.each) }

colon_scanned : scanned Plain (58 ∷ []) ≡ Some Plain
unfolding scanned
colon_scanned = refl

nothing_scanned : scanned Plain [] ≡ Some Plain
unfolding scanned
nothing_scanned = refl

more_scanned : (segments : List ℕ) → AllGroups segments → scanned Plain (more_text segments) ≡ Some Plain
more_scanned [] h = nothing_scanned
more_scanned (s ∷ segments) h =
    joined_scanned (58 ∷ []) (hex s ++ more_text segments) colon_scanned (joined_scanned (hex s) (more_text segments) (plain_scanned (hex s) (hex_all is_plain plain_digit s h.0)) (more_scanned segments h.1))

whole_read : (octets : List ℕ) → length octets ≡ 16 → whole_address octets ≡ Some octets
whole_read octets e = rw (eq-eqb (length octets) 16 e) refl

by_segments : (segs octets : List ℕ) → octets_of segs ≡ octets → length segs ≡ 8 → AllGroups segs → length octets ≡ 16 → (ipv6_in (groups_text segs) ≡ Some octets) × IsWord (groups_text segs)
unfolding ipv6_in
by_segments [] octets back eight each long = absurd (omega arith)
by_segments (s ∷ segs) octets back eight each long =
    let gap : cut_at_gap (hex s ++ more_text segs) ≡ None = skip_others (hex s) (more_text segs) (hex_no_colon s each.0) (no_gap segs each.1) in
    let some : 0 < length (hex s ++ more_text segs) = omega (arith, hex_some s, length-append (hex s) (more_text segs)) in
    let read : groups_in (hex s ++ more_text segs) ≡ Some (octets_of (s ∷ segs)) = groups_read s segs (hex s ++ more_text segs) refl some each.0 each.1 (omega arith) in
    let value : groups_in (hex s ++ more_text segs) ≡ Some octets = read ∙ ap (λ (x : List ℕ). let o : Option (List ℕ) = Some x in o) back in (
      rw gap (rw value (whole_read octets long)),
      record { some = some; closed = joined_scanned (hex s) (more_text segs) (plain_scanned (hex s) (hex_all is_plain plain_digit s each.0)) (more_scanned segs each.1) },
    )

pub ipv6_again : (octets : List ℕ) → length octets ≡ 16 → ((i : ℕ) → get_or octets i 0 < 256) → (ipv6_in (ipv6_text octets) ≡ Some octets) × IsWord (ipv6_text octets)
ipv6_again octets long fits =
    let parts = segments 8 octets (omega arith) fits in
    by_segments (segments_of octets) octets parts.back parts.many parts.each long
