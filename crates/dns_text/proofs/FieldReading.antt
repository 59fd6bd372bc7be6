-- Names and numbers are read from words exactly where the words stand for them.
use Rattle.std.proofs.Common.{◌≡◌, ℕ, ◌<◌, ◌≤◌, true, List, [], ◌∷◌, Option, Some, None, Result, Ok, Err, refl, sym, ap, subst, ◌∙◌, inl, inr, arith, lt-ltb, le-ltb}
use Rattle.std.specs.Prelude.{option_map}
use Rattle.std.specs.Char.{digit_value, is_ascii_digit}
use Rattle.std.specs.Str.{all_ascii_digits}
use Rattle.std.specs.Str.Parse.{AllDigits, IsNumeral, digits_value}
use Rattle.std.proofs.lemmas.Bool.{cases_Bool, cases_lt, and_parts}
use Rattle.std.proofs.lemmas.Bool.Decides.{nat_tests}
use Rattle.dns_name.specs.declared.fault.NameFault.{NameFault}
use Rattle.dns_name.specs.Labels.{Labels}
use Rattle.dns_name.specs.Reading.{ReadsWhatStands, name_in}
use Rattle.dns_name.specs.Text.{IsNameText}
use Rattle.dns_text.specs.Number.{IsNumberText, is_digits, no_more_than, number_in}
use Rattle.dns_text.specs.Word.{AreWords, next_word, unless_more, only_word}
use Rattle.dns_text.specs.Field.{name_or_none, named, name_at, last_name, number_at, last_number}
use Rattle.dns_text.proofs.OptionLaws.{stepped, some_number}

-- ---- numbers

digit_low : (c : ℕ) → is_ascii_digit c ≡ true → digit_value c < 10
digit_low c e = grind (arith, nat_tests)

digit_is : (c : ℕ) → digit_value c < 10 → is_ascii_digit c ≡ true
digit_is c low = grind (arith, nat_tests)

all_digits : (word : List ℕ) → all_ascii_digits word ≡ true → AllDigits 10 word
all_digits [] e = tt
all_digits (c ∷ word) e = let parts = and_parts _ _ e in (digit_low c parts.0, all_digits word parts.1)

pub all_are_digits : (word : List ℕ) → AllDigits 10 word → all_ascii_digits word ≡ true
all_are_digits [] h = refl
all_are_digits (c ∷ word) h = rw (digit_is c h.0) (all_are_digits word h.1)

numeral : (word : List ℕ) → is_digits word ≡ true → IsNumeral 10 word
numeral [] e = absurd cc
numeral (c ∷ word) e = (omega arith, all_digits (c ∷ word) e)

pub numeral_is_digits : (word : List ℕ) → IsNumeral 10 word → is_digits word ≡ true
numeral_is_digits [] h = absurd (omega (arith, h.0))
numeral_is_digits (c ∷ word) h = all_are_digits (c ∷ word) h.1

below_found : (most m n : ℕ) → no_more_than most m ≡ Some n → (m ≤ most) × (n ≡ m)
below_found most m n e = elim (cases_lt most m) [
  | inl large ↦ let none : None ≡ Some n = sym (rw (lt-ltb most m large) refl) ∙ e in absurd cc
  | inr few ↦ let here : Some m ≡ Some n = sym (rw (le-ltb most m few) refl) ∙ e in let same : m ≡ n = cc in (few, sym same)
]

pub number_found : (most : ℕ) (word : List ℕ) (n : ℕ) → number_in most word ≡ Some n → IsNumberText most word n
unfolding number_in
number_found most word n e = elim (cases_Bool (is_digits word)) [
  | inl digits ↦
      let here : no_more_than most (digits_value 10 word) ≡ Some n = sym (rw digits refl) ∙ e in
      let found = below_found most (digits_value 10 word) n here in
      record { numeral = numeral word digits; value = found.1; within = omega (arith, found.0, found.1) }
  | inr other ↦ let none : None ≡ Some n = sym (rw other refl) ∙ e in absurd cc
]

pub number_read : (most : ℕ) (word : List ℕ) (n : ℕ) → IsNumberText most word n → number_in most word ≡ Some n
unfolding number_in
number_read most word n h =
    let value = h.value in
    let few : digits_value 10 word ≤ most = omega (arith, h.within) in
    rw (numeral_is_digits word h.numeral) (rw (le-ltb most (digits_value 10 word) few) (some_number _ _ (sym value)))

-- ---- names

ok_of : (r : Result Labels NameFault) (name : Labels) → name_or_none r ≡ Some name → r ≡ Ok name
ok_of (Ok found) name e = let same : found ≡ name = cc in ap (λ (x : Labels). let r : Result Labels NameFault = Ok x in r) same
ok_of (Err fault) name e = absurd cc

pub named_found : ReadsWhatStands → (word : List ℕ) (name : Labels) → named word ≡ Some name → IsNameText word name
named_found law word name e = (law word name).0 (ok_of (name_in word) name e)

pub named_read : ReadsWhatStands → (word : List ℕ) (name : Labels) → IsNameText word name → named word ≡ Some name
named_read law word name h = ap name_or_none ((law word name).1 h)

-- ---- the words of a text

unless_found : (word : List ℕ) (o : Option (List ℕ × List ℕ)) (given : List ℕ) → unless_more word o ≡ Some given → (o ≡ None) × (word ≡ given)
unless_found word None given e = (refl, cc)
unless_found word (Some more) given e = absurd cc

pub only_found : (text word : List ℕ) → only_word text ≡ Some word → AreWords text (word ∷ [])
only_found text word e =
    let p = stepped (next_word text) _ word e in
    let one = unless_found p.from.0 (next_word p.from.1) word p.second in
    (p.from.1, p.first ∙ ap (λ (w : List ℕ). let o : Option (List ℕ × List ℕ) = Some (w, p.from.1) in o) one.1, one.0)

pub only_read : (text word : List ℕ) → AreWords text (word ∷ []) → only_word text ≡ Some word
only_read text word h = rw h.1 (rw h.2 refl)

-- a first word that stands for something, and the text after it
pub record FirstIs {X : Type 0} (P : List ℕ → X → Type 0) (text : List ℕ) (found : X × List ℕ) : Type 0 where
  pub word : List ℕ
  pub next : next_word text ≡ Some (word, found.1)
  pub is : P word found.0

-- the one word of a text, which stands for something
pub record OnlyIs {X : Type 0} (P : List ℕ → X → Type 0) (text : List ℕ) (found : X) : Type 0 where
  pub word : List ℕ
  pub parts : AreWords text (word ∷ [])
  pub is : P word found

first_found : {X : Type 0} (P : List ℕ → X → Type 0) (text word rest : List ℕ) (o : Option X) (found : X × List ℕ) → next_word text ≡ Some (word, rest) → ((x : X) → o ≡ Some x → P word x) → option_map (λ x. (x, rest)) o ≡ Some found → FirstIs P text found
first_found P text word rest None found next stands e = absurd cc
first_found {X} P text word rest (Some x) found next stands e =
    let same : (x, rest) ≡ found = cc in
    subst (λ (f : X × List ℕ). FirstIs P text f) same (record { word = word; next = next; is = stands x refl })

pub number_at_found : (most : ℕ) (text : List ℕ) (found : ℕ × List ℕ) → number_at most text ≡ Some found → FirstIs (IsNumberText most) text found
number_at_found most text found e =
    let p = stepped (next_word text) _ found e in
    first_found (IsNumberText most) text p.from.0 p.from.1 (number_in most p.from.0) found p.first (λ n at. number_found most p.from.0 n at) p.second

pub name_at_found : ReadsWhatStands → (text : List ℕ) (found : Labels × List ℕ) → name_at text ≡ Some found → FirstIs IsNameText text found
name_at_found law text found e =
    let p = stepped (next_word text) _ found e in
    first_found IsNameText text p.from.0 p.from.1 (named p.from.0) found p.first (λ name at. named_found law p.from.0 name at) p.second

pub last_number_found : (most : ℕ) (text : List ℕ) (n : ℕ) → last_number most text ≡ Some n → OnlyIs (IsNumberText most) text n
last_number_found most text n e =
    let p = stepped (only_word text) _ n e in
    record { word = p.from; parts = only_found text p.from p.first; is = number_found most p.from n p.second }

pub last_name_found : ReadsWhatStands → (text : List ℕ) (name : Labels) → last_name text ≡ Some name → OnlyIs IsNameText text name
last_name_found law text name e =
    let p = stepped (only_word text) _ name e in
    record { word = p.from; parts = only_found text p.from p.first; is = named_found law p.from name p.second }

pub number_at_read : (most : ℕ) (text word rest : List ℕ) (n : ℕ) → next_word text ≡ Some (word, rest) → IsNumberText most word n → number_at most text ≡ Some (n, rest)
number_at_read most text word rest n next h = rw next (rw (number_read most word n h) refl)

pub name_at_read : ReadsWhatStands → (text word rest : List ℕ) (name : Labels) → next_word text ≡ Some (word, rest) → IsNameText word name → name_at text ≡ Some (name, rest)
name_at_read law text word rest name next h = rw next (rw (named_read law word name h) refl)

pub last_number_read : (most : ℕ) (text word : List ℕ) (n : ℕ) → AreWords text (word ∷ []) → IsNumberText most word n → last_number most text ≡ Some n
last_number_read most text word n parts h = rw (only_read text word parts) (number_read most word n h)

pub last_name_read : ReadsWhatStands → (text word : List ℕ) (name : Labels) → AreWords text (word ∷ []) → IsNameText word name → last_name text ≡ Some name
last_name_read law text word name parts h = rw (only_read text word parts) (named_read law word name h)
