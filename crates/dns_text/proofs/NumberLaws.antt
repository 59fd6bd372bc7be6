-- Numbers as digits, one digit after another.
use Rattle.std.proofs.Common.{◌≡◌, ℕ, ◌+◌, ◌-◌, ◌*◌, ◌<◌, ◌≤◌, Bool, true, false, List, [], ◌∷◌, Option, Some, None, refl, sym, ap, ◌∙◌, arith, length, inl, inr, nat_lt, get_or, ◌^◌, zero, suc}
use borrow.Author.Tests.{ltb-true, ltb-false}
use Rattle.std.proofs.lemmas.Bool.{lt-ltb, le-ltb, cases_Bool, ne_eqb}
use Rattle.std.proofs.lemmas.Bool.Decides.{nat_tests}
use Rattle.std.specs.Prelude.{if◌then◌else◌}
use Rattle.std.specs.Char.{is_ascii_digit, digit_value}
use Rattle.std.specs.Str.{all_ascii_digits}
use Rattle.std.specs.Str.Parse.{digits_value, digits_value_after}
use Rattle.std.proofs.lemmas.Str.Parse.{IsNumeralModel, numerals_by_value, tells_all_ascii_digits}
use Rattle.std.proofs.lemmas.Fmt.{digits_decimal, digits_value-decimal, decimal_nonempty, decimal_digit, first_decimal}
use Rattle.std.specs.Prelude.{decimal}
use Rattle.dns_text.specs.Number.{no_more_than, is_digits, number_in, short_number_in, digits_in}

-- the number that digits stand for after those of n
pub number_after : ℕ → ℕ → List ℕ → Option ℕ
number_after most n word = if all_ascii_digits word then no_more_than most (digits_value_after 10 n word) else None

digit_value_of : (c : ℕ) → is_ascii_digit c ≡ true → digit_value c ≡ c - 48
digit_value_of c e = grind (arith, nat_tests)

value_after-le : (n : ℕ) (word : List ℕ) → n ≤ digits_value_after 10 n word
value_after-le n [] = omega arith
value_after-le n (c ∷ word) = omega (arith, value_after-le (n * 10 + digit_value c) word)

number_after_digit : (most n c : ℕ) (word : List ℕ) → is_ascii_digit c ≡ true → number_after most n (c ∷ word) ≡ number_after most (n * 10 + (c - 48)) word
unfolding number_after
number_after_digit most n c word e = rw (e, digit_value_of c e) refl

number_after_other : (most n c : ℕ) (word : List ℕ) → is_ascii_digit c ≡ false → number_after most n (c ∷ word) ≡ None
unfolding number_after
number_after_other most n c word e = rw e refl

none_above : (most n : ℕ) (b : Bool) → most < n → (if b then no_more_than most n else None) ≡ None
none_above most n true h = rw (lt-ltb most n h) refl
none_above most n false h = refl

number_after_large : (most n : ℕ) (word : List ℕ) → most < n → number_after most n word ≡ None
unfolding number_after
number_after_large most n word h = none_above most (digits_value_after 10 n word) (all_ascii_digits word) (omega (arith, value_after-le n word))

number_after_end : (most n : ℕ) → n ≤ most → number_after most n [] ≡ Some n
unfolding number_after
number_after_end most n h = rw (le-ltb most n h) refl

pub digits_in-after : (most n : ℕ) (word : List ℕ) → n ≤ most → digits_in most n word ≡ number_after most n word
unfolding digits_in
digits_in-after most n [] h = sym (number_after_end most n h)
digits_in-after most n (c ∷ word) h =
    elim (cases_Bool (is_ascii_digit c)) [
      | inl digit ↦ elim (cases_Bool (nat_lt most (n * 10 + (c - 48)))) [
        | inl large ↦ rw (digit, large) (sym (number_after_digit most n c word digit ∙ number_after_large most _ word (ltb-true _ _ large)))
        | inr fits ↦ rw (digit, fits) (digits_in-after most (n * 10 + (c - 48)) word (ltb-false _ _ fits) ∙ sym (number_after_digit most n c word digit))
      ]
      | inr other ↦ rw other (sym (number_after_other most n c word other))
    ]

pub digits_in-word : (most c : ℕ) (word : List ℕ) → digits_in most 0 (c ∷ word) ≡ number_in most (c ∷ word)
unfolding number_after number_in
digits_in-word most c word = digits_in-after most 0 (c ∷ word) (omega arith)

pub digits_in-some : (most : ℕ) (word : List ℕ) → 0 < length word → digits_in most 0 word ≡ number_in most word
digits_in-some most [] h = absurd (omega arith)
digits_in-some most (c ∷ word) h = digits_in-word most c word

pub number_in_none : (most : ℕ) (word : List ℕ) → length word ≡ 0 → number_in most word ≡ None
unfolding number_in
number_in_none most [] h = refl
number_in_none most (c ∷ word) h = absurd (omega arith)

-- ---- what is written is read back

own : IsNumeralModel (λ ds. all_ascii_digits ds ≡ true) (digits_value 10)
own = numerals_by_value (λ ds. all_ascii_digits ds ≡ true) tells_all_ascii_digits

pub digits-decimal : (n : ℕ) → n < 2 ^ 64 → all_ascii_digits (decimal n) ≡ true
digits-decimal n h = digits_decimal own n h

some_digits : (word : List ℕ) → 0 < length word → all_ascii_digits word ≡ true → is_digits word ≡ true
some_digits [] h e = absurd (omega arith)
some_digits (c ∷ word) h e = e

pub is_digits-decimal : (n : ℕ) → n < 2 ^ 64 → is_digits (decimal n) ≡ true
is_digits-decimal n h = some_digits (decimal n) (decimal_nonempty n h) (digits-decimal n h)

pub number_in-decimal : (most n : ℕ) → n ≤ most → n < 2 ^ 64 → number_in most (decimal n) ≡ Some n
unfolding number_in
number_in-decimal most n few h =
    let value : digits_value 10 (decimal n) ≡ n = digits_value-decimal own n h in
    rw (is_digits-decimal n h) (rw value (rw (le-ltb most n few) refl))

short_word : (most : ℕ) (word : List ℕ) → (get_or word 0 0 ≡ 48 → length word ≡ 1) → short_number_in most word ≡ number_in most word
short_word most [] h = refl
short_word most (c ∷ []) h = refl
short_word most (c ∷ d ∷ word) h = rw (ne_eqb c 48 (λ e. let one = h e in omega arith)) refl

no_leading_zero : (n : ℕ) → n < 2 ^ 64 → get_or (decimal n) 0 0 ≡ 48 → length (decimal n) ≡ 1
no_leading_zero zero h e = ap length (decimal_digit 0 (omega arith))
no_leading_zero (suc n) h e = absurd (omega (arith, first_decimal (suc n) (omega arith) h))

pub short_number_in-decimal : (most n : ℕ) → n ≤ most → n < 2 ^ 64 → short_number_in most (decimal n) ≡ Some n
short_number_in-decimal most n few h = short_word most (decimal n) (no_leading_zero n h) ∙ number_in-decimal most n few h
