-- Words that are in a text.
use Rattle.std.proofs.Common.{◌≡◌, ℕ, ◌<◌, Bool, true, false, List, [], ◌∷◌, ◌++◌, length, Option, Some, None, refl, sym, ap, ◌∙◌, arith, inl, inr, length-append, ◌≢◌}
use Rattle.std.specs.Prelude.{◌&&◌, ◌⊎◌, not, ◌==◌, option_map, IfSome}
use Rattle.std.specs.Borrow.{Bor}
use Rattle.std.specs.Char.{is_ascii_digit}
use Rattle.std.specs.Str.{all_ascii_digits}
use Rattle.std.proofs.lemmas.Bool.{cases_Bool, and_parts, not-true}
use Rattle.std.specs.List.{list_all}
use Rattle.std.proofs.lemmas.Bool.Decides.{nat_tests}
use Rattle.std.proofs.lemmas.List.{append-nil}
use Rattle.dns_text.specs.declared.word.Within.{Within}
use Rattle.dns_text.specs.declared.word.Within.TheVariants.{Plain}
use Rattle.dns_text.specs.Word.{is_blank, after_octet, goes_on, with_first, cut_word, next_word, only_word}

-- where a word is after some octets, none of which ends it
abbrev pub then_octets : Option Within → (Within → Option Within) → Option Within
then_octets None go = None
then_octets (Some within) go = go within

unfoldable pub scanned : Within → List ℕ → Option Within
scanned within [] = Some within
scanned within (c ∷ octets) = then_octets (after_octet within c) (λ w. scanned w octets)

-- octets that are a word by themselves
pub record IsWord (word : List ℕ) : Type 0 where
  pub some : 0 < length word
  pub closed : scanned Plain word ≡ Some Plain

-- a text before which a word ends
abbrev pub EndsWord : List ℕ → Type 0
EndsWord [] = Unit {0}
EndsWord (c ∷ rest) = is_blank c ≡ true

blank_ends : (c : ℕ) → is_blank c ≡ true → after_octet Plain c ≡ None
blank_ends c e = grind (arith, nat_tests)

cut_at_end : (rest : List ℕ) → EndsWord rest → cut_word Plain rest ≡ ([], rest)
unfolding cut_word
cut_at_end [] h = refl
cut_at_end (c ∷ rest) h = rw (blank_ends c h) refl

cut_some : (w v : Within) → Some w ≡ Some v → w ≡ v
cut_some w v e = cc

none_some : {A : Type 0} {x : Within} → None ≡ Some x → A
none_some e = absurd cc

cut_goes : (c : ℕ) (word rest : List ℕ) (o : Option Within) → ((w : Within) → scanned w word ≡ Some Plain → cut_word w (word ++ rest) ≡ (word, rest)) → then_octets o (λ w. scanned w word) ≡ Some Plain → goes_on c (word ++ rest) (λ w. cut_word w (word ++ rest)) o ≡ (c ∷ word, rest)
cut_goes c word rest None more e = none_some e
cut_goes c word rest (Some w) more e = ap (with_first c) (more w e)

cut_scanned : (word : List ℕ) (within : Within) (rest : List ℕ) → scanned within word ≡ Some Plain → EndsWord rest → cut_word within (word ++ rest) ≡ (word, rest)
unfolding scanned cut_word
cut_scanned [] within rest e h = let at : within ≡ Plain = cut_some within Plain e in rw at (cut_at_end rest h)
cut_scanned (c ∷ word) within rest e h = cut_goes c word rest (after_octet within c) (λ w k. cut_scanned word w rest k h) e

scanned_first : (c : ℕ) (word : List ℕ) (o : Option Within) → then_octets o (λ w. scanned w word) ≡ Some Plain → (w : Within) × (o ≡ Some w)
scanned_first c word None e = none_some e
scanned_first c word (Some w) e = (w, refl)

not_blank : (c : ℕ) (w : Within) → after_octet Plain c ≡ Some w → is_blank c ≡ false
not_blank c w e = elim (cases_Bool (is_blank c)) [
  | inl blank ↦ none_some (sym (blank_ends c blank) ∙ e)
  | inr plain ↦ plain
]

word_not_blank : (c : ℕ) (word : List ℕ) → scanned Plain (c ∷ word) ≡ Some Plain → is_blank c ≡ false
unfolding scanned
word_not_blank c word e = let first = scanned_first c word (after_octet Plain c) e in not_blank c first.0 first.1

-- a word at the front of a text is its first word
pub next_word-front : (word rest : List ℕ) → IsWord word → EndsWord rest → next_word (word ++ rest) ≡ Some (word, rest)
next_word-front [] rest h k = absurd (omega (arith, h.some))
next_word-front (c ∷ word) rest h k =
    rw (word_not_blank c word h.closed) (ap (λ (r : List ℕ × List ℕ). let o : Option (List ℕ × List ℕ) = Some r in o) (cut_scanned (c ∷ word) Plain rest h.closed k))

pub only_word-whole : (word : List ℕ) → IsWord word → only_word word ≡ Some word
only_word-whole word h =
    let e : next_word word ≡ Some (word, []) = ap next_word (sym (append-nil word)) ∙ next_word-front word [] h tt in rw e refl

scanned_goes : (a b : List ℕ) (o : Option Within) (v : Within) → ((w : Within) → scanned w a ≡ Some v → scanned w (a ++ b) ≡ scanned v b) → then_octets o (λ w. scanned w a) ≡ Some v → then_octets o (λ w. scanned w (a ++ b)) ≡ scanned v b
scanned_goes a b None v more e = none_some e
scanned_goes a b (Some w) v more e = more w e

pub scanned-append : (a : List ℕ) (within : Within) (b : List ℕ) (v : Within) → scanned within a ≡ Some v → scanned within (a ++ b) ≡ scanned v b
unfolding scanned
scanned-append [] within b v e = rw (cut_some within v e) refl
scanned-append (c ∷ a) within b v e = scanned_goes a b (after_octet within c) v (λ w k. scanned-append a w b v k) e

-- ---- octets that have no meaning of their own

digit_plain : (c : ℕ) → is_ascii_digit c ≡ true → after_octet Plain c ≡ Some Plain
digit_plain c e = grind (arith, nat_tests)

pub digits_scanned : (word : List ℕ) → all_ascii_digits word ≡ true → scanned Plain word ≡ Some Plain
unfolding scanned
digits_scanned [] e = refl
digits_scanned (c ∷ word) e = let parts = and_parts _ _ e in rw (digit_plain c parts.0) (digits_scanned word parts.1)

pub joined_scanned : (a b : List ℕ) → scanned Plain a ≡ Some Plain → scanned Plain b ≡ Some Plain → scanned Plain (a ++ b) ≡ Some Plain
joined_scanned a b h k = scanned-append a Plain b Plain h ∙ k

-- an octet that is neither a blank nor a quote nor a backslash
abbrev pub is_plain : ℕ → Bool
is_plain c = not (c == 92) && (not (c == 34) && not (is_blank c))

plain_octet : (c : ℕ) → is_plain c ≡ true → after_octet Plain c ≡ Some Plain
plain_octet c e =
    let parts = and_parts _ _ e in
    let more = and_parts _ _ parts.1 in
    let slash : (c == 92) ≡ false = not-true _ parts.0 in
    let quote : (c == 34) ≡ false = not-true _ more.0 in
    let blank : is_blank c ≡ false = not-true _ more.1 in
    rw slash (rw quote (rw blank refl))

pub plain_scanned : (word : List ℕ) → list_all is_plain word ≡ true → scanned Plain word ≡ Some Plain
unfolding scanned
plain_scanned [] e = refl
plain_scanned (c ∷ word) e = let parts = and_parts _ _ e in rw (plain_octet c parts.0) (plain_scanned word parts.1)

-- ---- words take up the text

cut_parts_goes : (c : ℕ) (text : List ℕ) (o : Option Within) → ((w : Within) → (cut_word w text).0 ++ (cut_word w text).1 ≡ text) → (goes_on c text (λ w. cut_word w text) o).0 ++ (goes_on c text (λ w. cut_word w text) o).1 ≡ c ∷ text
cut_parts_goes c text None more = refl
cut_parts_goes c text (Some w) more = ap (λ (x : List ℕ). c ∷ x) (more w)

cut_parts : (within : Within) (text : List ℕ) → (cut_word within text).0 ++ (cut_word within text).1 ≡ text
unfolding cut_word
cut_parts within [] = refl
cut_parts within (c ∷ text) = cut_parts_goes c text (after_octet within c) (λ w. cut_parts w text)

cut_first_goes : (c : ℕ) (text : List ℕ) (o : Option Within) → o ≢ None → 0 < length (goes_on c text (λ w. cut_word w text) o).0
cut_first_goes c text None some = absurd (some refl)
cut_first_goes c text (Some w) some = omega arith

blank_only : (c : ℕ) → is_blank c ≡ false → after_octet Plain c ≢ None
blank_only c plain none = elim (cases_Bool (c == 92)) [
  | inl slash ↦ let e = rw slash at none in absurd cc
  | inr other ↦ elim (cases_Bool (c == 34)) [
    | inl quote ↦ let e = rw (other, quote) at none in absurd cc
    | inr letter ↦ let e = rw (other, letter, plain) at none in absurd cc
  ]
]

word_less : (c : ℕ) (text : List ℕ) → is_blank c ≡ false → length (cut_word Plain (c ∷ text)).1 < length (c ∷ text)
unfolding cut_word
word_less c text plain =
    omega (arith, ap length (cut_parts Plain (c ∷ text)), cut_first_goes c text (after_octet Plain c) (blank_only c plain), length-append (cut_word Plain (c ∷ text)).0 (cut_word Plain (c ∷ text)).1)

unfoldable pub rest_length : Option (List ℕ × List ℕ) → ℕ
rest_length None = 0
rest_length (Some parts) = length parts.1

-- a text with a word is longer than what follows the word
pub next_less : (text : List ℕ) → (next_word text ≡ None) ⊎ (rest_length (next_word text) < length text)
unfolding rest_length
next_less [] = inl refl
next_less (c ∷ text) = elim (cases_Bool (is_blank c)) [
  | inl blank ↦ elim (next_less text) [
    | inl none ↦ inl (rw blank none)
    | inr less ↦ inr (rw blank (omega arith))
  ]
  | inr plain ↦ inr (rw plain (word_less c text plain))
]

pub next_word-less : (text : List ℕ) (o : Option (Bor (List ℕ) × Bor (List ℕ))) → option_map (λ r. (r.0.now, r.1.now)) o ≡ next_word text → IfSome o (λ r. length r.1.now < length text)
unfolding rest_length
next_word-less text None e = tt
next_word-less text (Some r) e = elim (next_less text) [
  | inl none ↦ let here : Some (r.0.now, r.1.now) ≡ None = e ∙ none in absurd cc
  | inr less ↦ let same : rest_length (next_word text) ≡ length r.1.now = ap rest_length (sym e) in omega arith
]
