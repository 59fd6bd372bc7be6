-- Strings that are written in quotes are read back.
use Rattle.std.proofs.Common.{◌≡◌, ℕ, zero, suc, ◌+◌, ◌-◌, ◌/◌, ◌%◌, ◌<◌, ◌≤◌, Bool, true, false, List, [], ◌∷◌, ◌++◌, length, drop, Option, Some, None, refl, sym, ap, ◌∙◌, arith, append_assoc, length-append, inl, inr, le-ltb, lt-ltb, eqb, eq-eqb, ne_eqb, ◌≢◌}
use Rattle.std.specs.Prelude.{◌==◌, ◌&&◌, ◌||◌, ◌⊎◌, not, nat_lt, if◌then◌else◌}
use Rattle.std.specs.List.{flat_map, AllByRecursion}
use Rattle.std.specs.Char.{is_ascii_digit, is_ascii_graphic}
use Rattle.std.proofs.lemmas.Bool.{cases_Bool, eqb-true, and_parts, not-true, agree_below, agree_below_at}
use Rattle.std.proofs.lemmas.Bool.Decides.{nat_tests}
use Rattle.std.proofs.lemmas.List.{append-nil, drop_at}
use Rattle.dns_name.specs.Text.{decimal}
use Rattle.dns_text.specs.declared.word.Within.{Within}
use Rattle.dns_text.specs.declared.word.Within.TheVariants.{Plain, Quotes, Escape, QuotedEscape}
use Rattle.dns_text.specs.Word.{next_word}
use Rattle.dns_name.specs.Options.{◌>>=◌}
use Rattle.dns_text.specs.String.{octet_at, octets_after, before_last_quote, string_in, then_string, strings_after, some_strings, strings_in, quoted_octet, quoted_text, strings_text}
use Rattle.dns_text.specs.Strings.{IsString}
use Rattle.dns_text.proofs.WordLaws.{scanned, IsWord, EndsWord, scanned-append, next_word-front, rest_length, next_less}

-- ---- one octet after another

pub octets-skip : (before : List ℕ) (skip : ℕ) (text : List ℕ) → octets_after before skip text ≡ octets_after before 0 (drop skip text)
unfolding octets_after
octets-skip before zero text = refl
octets-skip before (suc skip) [] = refl
octets-skip before (suc skip) (c ∷ text) = octets-skip before skip text

pub octets_step : (before text : List ℕ) (b k : ℕ) → 0 < length text → 0 < k → octet_at text ≡ Some (b, k) → length before < 255 → octets_after before 0 text ≡ octets_after (before ++ b ∷ []) 0 (drop k text)
unfolding octets_after
octets_step before [] b k some more here room = absurd (omega arith)
octets_step before (c ∷ text) b zero some more here room = absurd (omega arith)
octets_step before (c ∷ text) b (suc k) some more here room =
    rw here (rw (lt-ltb (length before) 255 (omega arith)) (let one : suc k - 1 ≡ k = omega arith in rw one (octets-skip (before ++ b ∷ []) k text)))

pub octets_full : (before text : List ℕ) (b k : ℕ) → 0 < length text → octet_at text ≡ Some (b, k) → 255 ≤ length before → octets_after before 0 text ≡ None
unfolding octets_after
octets_full before [] b k some here full = absurd (omega arith)
octets_full before (c ∷ text) b k some here full = rw here (rw (le-ltb (length before) 255 (omega arith)) refl)

pub octets_bad : (before text : List ℕ) → 0 < length text → octet_at text ≡ None → octets_after before 0 text ≡ None
unfolding octets_after
octets_bad before [] some here = absurd (omega arith)
octets_bad before (c ∷ text) some here = rw here refl

pub octets_end : (before text : List ℕ) → length text ≡ 0 → octets_after before 0 text ≡ Some before
unfolding octets_after
octets_end before [] e = refl
octets_end before (c ∷ text) e = absurd (omega arith)

abbrev pub if_quote : ℕ → List ℕ → Option (List ℕ)
if_quote c front = if c == 34 then Some front else None

pub last_quote : (front : List ℕ) (c : ℕ) → before_last_quote (front ++ c ∷ []) ≡ if_quote c front
last_quote [] c = refl
last_quote (a ∷ []) c = elim (cases_Bool (c == 34)) [ inl quote ↦ rw quote refl | inr other ↦ rw other refl ]
last_quote (a ∷ b ∷ front) c = elim (cases_Bool (c == 34)) [
  | inl quote ↦ let more : before_last_quote (b ∷ front ++ c ∷ []) ≡ Some (b ∷ front) = last_quote (b ∷ front) c ∙ rw quote refl in rw more (rw quote refl)
  | inr other ↦ let more : before_last_quote (b ∷ front ++ c ∷ []) ≡ None = last_quote (b ∷ front) c ∙ rw other refl in rw more (rw other refl)
]

pub quote_ends : (text front : List ℕ) (c : ℕ) → text ≡ front ++ c ∷ [] → c ≡ 34 → before_last_quote text ≡ Some front
quote_ends text front c e quote = ap before_last_quote e ∙ last_quote front c ∙ rw (eq-eqb c 34 quote) refl

pub other_ends : (text front : List ℕ) (c : ℕ) → text ≡ front ++ c ∷ [] → c ≢ 34 → before_last_quote text ≡ None
other_ends text front c e other = ap before_last_quote e ∙ last_quote front c ∙ rw (ne_eqb c 34 other) refl

-- ---- one string after another

pub strings_end : (before : List (List ℕ)) (n : ℕ) (text : List ℕ) → next_word text ≡ None → strings_after before n text ≡ Some before
unfolding strings_after
strings_end before zero text e = refl
strings_end before (suc n) text e = rw e refl

pub strings_bad : (before : List (List ℕ)) (n : ℕ) (text word rest : List ℕ) (target : Option (List (List ℕ))) → length text ≤ n → length rest < length text → next_word text ≡ Some (word, rest) → string_in word ≡ None → strings_after before n text ≡ target → target ≡ None
unfolding strings_after
strings_bad before zero text word rest target few less here none e = absurd (omega arith)
strings_bad before (suc n) text word rest target few less here none e = sym e ∙ rw here (rw none refl)

-- what a reader of strings has before it
pub record Told (before : List (List ℕ)) (text : List ℕ) (target : Option (List (List ℕ))) : Type 0 where
  pub n : ℕ
  pub long : length text ≤ n
  pub told : strings_after before n text ≡ target

strings_go : (before : List (List ℕ)) (text word rest octets : List ℕ) (target : Option (List (List ℕ))) (n : ℕ) → length rest < length text → next_word text ≡ Some (word, rest) → string_in word ≡ Some octets → length text ≤ n → strings_after before n text ≡ target → Told (before ++ octets ∷ []) rest target
unfolding strings_after
strings_go before text word rest octets target zero less here one long told = absurd (omega arith)
strings_go before text word rest octets target (suc n) less here one long told =
    let step : strings_after before (suc n) text ≡ strings_after (before ++ octets ∷ []) n rest = rw here (rw one refl) in
    record { n = n; long = omega arith; told = sym step ∙ told }

pub strings_more : (before : List (List ℕ)) (text word rest octets : List ℕ) (target : Option (List (List ℕ))) → length rest < length text → next_word text ≡ Some (word, rest) → string_in word ≡ Some octets → Told before text target → Told (before ++ octets ∷ []) rest target
strings_more before text word rest octets target less here one h = strings_go before text word rest octets target h.n less here one h.long h.told

-- ---- what is written is read back

is_octet : ℕ → Option (ℕ × ℕ) → Bool
is_octet b None = false
is_octet b (Some o) = (o.0 == b) && (o.1 == length (quoted_octet b))

-- what follows an octet changes nothing: the longest form takes four octets of text
abbrev escapes : ℕ → Bool
escapes b = b == 34 || b == 92

abbrev shows : ℕ → Bool
shows b = nat_lt 31 b && nat_lt b 127

is_written : ℕ → Bool
is_written b =
    if escapes b then (not (is_ascii_digit b) && is_ascii_graphic b) else if shows b then (not (b == 34) && not (b == 92)) else
    (is_ascii_digit (b / 100 + 48) && (is_ascii_digit (b / 10 % 10 + 48) && (is_ascii_digit (b % 10 + 48) && (decimal (b / 100 + 48) (b / 10 % 10 + 48) (b % 10 + 48) == b))))

all_written : agree_below is_written (λ _. true) 256 ≡ true
unfolding is_written
all_written = refl

octet_quoted : (b : ℕ) (rest : List ℕ) → b < 256 → octet_at (quoted_octet b ++ rest) ≡ Some (b, length (quoted_octet b))
unfolding is_written
octet_quoted b rest small =
    let holds : is_written b ≡ true = agree_below_at is_written (λ _. true) 256 b all_written small in
    elim (cases_Bool (escapes b)) [
      | inl special ↦
          let parts = and_parts _ _ (rw special at holds) in
          let digit : is_ascii_digit b ≡ false = not-true _ parts.0 in
          let graphic : is_ascii_graphic b ≡ true = parts.1 in
          rw special (rw (digit, graphic) refl)
      | inr plain ↦ elim (cases_Bool (shows b)) [
        | inl shown ↦
            let parts = and_parts _ _ (rw (plain, shown) at holds) in
            let quote : eqb b 34 ≡ false = not-true _ parts.0 in
            let slash : eqb b 92 ≡ false = not-true _ parts.1 in
            rw (plain, shown) (rw (quote, slash) refl)
        | inr other ↦
            let first = and_parts _ _ (rw (plain, other) at holds) in
            let second = and_parts _ _ first.1 in
            let third = and_parts _ _ second.1 in
            let value : decimal (b / 100 + 48) (b / 10 % 10 + 48) (b % 10 + 48) ≡ b = eqb-true _ _ third.1 in
            let one : is_ascii_digit (b / 100 + 48) ≡ true = first.0 in
            let two : is_ascii_digit (b / 10 % 10 + 48) ≡ true = second.0 in
            let three : is_ascii_digit (b % 10 + 48) ≡ true = third.0 in
            rw (plain, other) (rw (one, two, three) (rw value (rw (lt-ltb b 256 small) refl)))
      ]
    ]

quoted_some : (b : ℕ) → 0 < length (quoted_octet b)
quoted_some b = grind (arith, nat_tests)

octets_read : (before octets : List ℕ) → AllByRecursion (λ b. b < 256) octets → length before + length octets < 256 → octets_after before 0 (flat_map quoted_octet octets) ≡ Some (before ++ octets)
octets_read before [] each few = octets_end before [] refl ∙ ap (λ (x : List ℕ). let o : Option (List ℕ) = Some x in o) (sym (append-nil before))
octets_read before (b ∷ octets) each few =
    let rest : List ℕ = flat_map quoted_octet octets in
    octets_step before (quoted_octet b ++ rest) b (length (quoted_octet b)) (omega (arith, quoted_some b, length-append (quoted_octet b) rest)) (quoted_some b) (octet_quoted b rest each.0) (omega arith)
    ∙ ap (octets_after (before ++ b ∷ []) 0) (drop_at (quoted_octet b) rest (length (quoted_octet b)) refl)
    ∙ octets_read (before ++ b ∷ []) octets each.1 (omega (arith, length-append before (b ∷ [])))
    ∙ ap (λ (x : List ℕ). let o : Option (List ℕ) = Some x in o) (append_assoc before (b ∷ []) octets)

string_again : (octets : List ℕ) → IsString octets → string_in (quoted_text octets) ≡ Some octets
unfolding string_in
string_again octets h = rw (last_quote (flat_map quoted_octet octets) 34) (octets_read [] octets h.each (omega (arith, h.few)))

in_quotes : Option Within → Bool
in_quotes (Some Quotes) = true
in_quotes _ = false

quotes : (o : Option Within) → in_quotes o ≡ true → o ≡ Some Quotes
unfolding in_quotes
quotes None e = absurd cc
quotes (Some Plain) e = absurd cc
quotes (Some Quotes) e = refl
quotes (Some Escape) e = absurd cc
quotes (Some QuotedEscape) e = absurd cc

all_in_quotes : agree_below (λ b. in_quotes (scanned Quotes (quoted_octet b))) (λ _. true) 256 ≡ true
unfolding in_quotes scanned
all_in_quotes = refl

octet_scanned : (b : ℕ) → b < 256 → scanned Quotes (quoted_octet b) ≡ Some Quotes
octet_scanned b small = quotes (scanned Quotes (quoted_octet b)) (agree_below_at (λ n. in_quotes (scanned Quotes (quoted_octet n))) (λ _. true) 256 b all_in_quotes small)

quote_scanned : scanned Quotes (34 ∷ []) ≡ Some Plain
unfolding scanned
quote_scanned = refl

inside_scanned : (octets : List ℕ) → AllByRecursion (λ b. b < 256) octets → scanned Quotes (flat_map quoted_octet octets ++ 34 ∷ []) ≡ Some Plain
inside_scanned [] each = quote_scanned
inside_scanned (b ∷ octets) each =
    ap (scanned Quotes) (append_assoc (quoted_octet b) (flat_map quoted_octet octets) (34 ∷ []))
    ∙ scanned-append (quoted_octet b) Quotes (flat_map quoted_octet octets ++ 34 ∷ []) Quotes (octet_scanned b each.0) ∙ inside_scanned octets each.1

quoted_is_word : (octets : List ℕ) → IsString octets → IsWord (quoted_text octets)
unfolding scanned
quoted_is_word octets h = record { some = omega arith; closed = inside_scanned octets h.each }

abbrev more_strings : List (List ℕ) → List ℕ
more_strings strings = flat_map (λ s. 32 ∷ quoted_text s) strings

more_ends : (strings : List (List ℕ)) → EndsWord (more_strings strings)
more_ends [] = tt
more_ends (s ∷ strings) = refl

strings_read : (before strings : List (List ℕ)) (n : ℕ) → AllByRecursion IsString strings → length strings ≤ n → strings_after before n (more_strings strings) ≡ Some (before ++ strings)
unfolding strings_after
strings_read before [] zero each few = ap (λ (x : List (List ℕ)). let o : Option (List (List ℕ)) = Some x in o) (sym (append-nil before))
strings_read before [] (suc n) each few = ap (λ (x : List (List ℕ)). let o : Option (List (List ℕ)) = Some x in o) (sym (append-nil before))
strings_read before (s ∷ strings) zero each few = absurd (omega arith)
strings_read before (s ∷ strings) (suc n) each few =
    let first : next_word (32 ∷ (quoted_text s ++ more_strings strings)) ≡ Some (quoted_text s, more_strings strings) = next_word-front (quoted_text s) (more_strings strings) (quoted_is_word s each.0) (more_ends strings) in
    ap (then_string before (λ strings rest. strings_after strings n rest)) first ∙ rw (string_again s each.0)
    (strings_read (before ++ s ∷ []) strings n each.1 (omega arith) ∙ ap (λ (x : List (List ℕ)). let o : Option (List (List ℕ)) = Some x in o) (append_assoc before (s ∷ []) strings))

more_long : (strings : List (List ℕ)) → length strings ≤ length (more_strings strings)
more_long [] = omega arith
more_long (s ∷ strings) = omega (arith, more_long strings, length-append (32 ∷ quoted_text s) (more_strings strings))

-- a blank before the first word changes nothing
strings_blank : (before : List (List ℕ)) (n : ℕ) (text : List ℕ) → strings_after before (suc n) (32 ∷ text) ≡ strings_after before (suc n) text
unfolding strings_after
strings_blank before n text = refl

pub strings_again : (strings : List (List ℕ)) → 0 < length strings → AllByRecursion IsString strings → strings_in (strings_text strings) ≡ Some strings
unfolding strings_in
strings_again [] some each = absurd (omega arith)
strings_again (s ∷ strings) some each =
    let text : List ℕ = quoted_text s ++ more_strings strings in
    let n : ℕ = length (flat_map quoted_octet s ++ 34 ∷ [] ++ more_strings strings) in
    let long : length text ≡ suc n = omega (arith, length-append (quoted_text s) (more_strings strings), ap length (append_assoc (flat_map quoted_octet s) (34 ∷ []) (more_strings strings)), length-append (flat_map quoted_octet s) (34 ∷ []), length-append (flat_map quoted_octet s) (34 ∷ [] ++ more_strings strings)) in
    let read : strings_after [] (suc n) text ≡ Some (s ∷ strings) = sym (strings_blank [] n text) ∙ strings_read [] (s ∷ strings) (suc n) each (omega (arith, more_long strings, length-append (quoted_text s) (more_strings strings))) in
    let whole : strings_after [] (length text) text ≡ Some (s ∷ strings) = ap (λ (k : ℕ). strings_after [] k text) long ∙ read in
    rw whole refl

-- ---- how many words are read at most does not matter, where the text is no longer

one_same : (before : List (List ℕ)) (n m : ℕ) (rest : List ℕ) (o : Option (List ℕ)) → ((b : List (List ℕ)) → strings_after b n rest ≡ strings_after b m rest) → (o >>= λ octets. strings_after (before ++ octets ∷ []) n rest) ≡ (o >>= λ octets. strings_after (before ++ octets ∷ []) m rest)
one_same before n m rest None more = refl
one_same before n m rest (Some octets) more = more (before ++ octets ∷ [])

then_same : (before : List (List ℕ)) (n m long : ℕ) (o : Option (List ℕ × List ℕ)) → (o ≡ None) ⊎ (rest_length o < long) → ((b : List (List ℕ)) (r : List ℕ) → length r < long → strings_after b n r ≡ strings_after b m r) → then_string before (λ s r. strings_after s n r) o ≡ then_string before (λ s r. strings_after s m r) o
unfolding rest_length
then_same before n m long None h more = refl
then_same before n m long (Some first) (inl none) more = absurd cc
then_same before n m long (Some first) (inr less) more = one_same before n m first.1 (string_in first.0) (λ b. more b first.1 less)

same_fuel : (n m : ℕ) (before : List (List ℕ)) (text : List ℕ) → length text ≤ n → length text ≤ m → strings_after before n text ≡ strings_after before m text
unfolding strings_after
same_fuel zero zero before text h k = refl
same_fuel zero (suc m) before [] h k = refl
same_fuel zero (suc m) before (c ∷ text) h k = absurd (omega arith)
same_fuel (suc n) zero before [] h k = refl
same_fuel (suc n) zero before (c ∷ text) h k = absurd (omega arith)
same_fuel (suc n) (suc m) before text h k = then_same before n m (length text) (next_word text) (next_less text) (λ b r less. same_fuel n m b r (omega arith) (omega arith))

pub strings_in-blank : (text : List ℕ) → strings_in (32 ∷ text) ≡ strings_in text
unfolding strings_in
strings_in-blank text =
    let fuel : length (32 ∷ text) ≡ suc (length text) = omega arith in
    ap (λ (x : Option (List (List ℕ))). x >>= some_strings) (strings_blank [] (length text) text ∙ same_fuel (suc (length text)) (length text) [] text (omega arith) (omega arith))
