-- Strings are read from a text exactly where the text stands for them.
use Rattle.std.proofs.Common.{◌≡◌, ◌⊎◌, ℕ, zero, suc, ◌+◌, ◌-◌, ◌<◌, ◌≤◌, List, [], ◌∷◌, ◌++◌, length, take, drop, Option, Some, None, refl, sym, ap, subst, ◌∙◌, inl, inr, arith, append_assoc, length-append, length-drop, lt-ltb, le-ltb, eqb-true, ne_eqb}
use Rattle.std.specs.Prelude.{◌==◌, option_map}
use Rattle.std.specs.Char.{is_ascii_digit}
use Rattle.std.specs.List.{concat}
use Rattle.std.proofs.lemmas.Bool.{cases_Bool, cases_lt, false_from_ne_true}
use Rattle.std.proofs.lemmas.Bool.Decides.{nat_tests}
use Rattle.std.proofs.lemmas.List.{append-nil, drop_at, take-append-drop}
use Rattle.dns_name.specs.Reading.{escape_in}
use Rattle.dns_name.specs.Text.{decimal, EachPair}
use Rattle.dns_name.specs.TextLaws.{digit_from, digit_true, escape_found, graphic_true}
use Rattle.dns_text.specs.Word.{next_word, AreWords}
use Rattle.dns_text.specs.String.{IsStringOctet, itself, escaped, numbered, IsStringText, IsStringsText, ReadsStrings, octet_at, with_octet, octets_after, before_last_quote, inside_quotes, string_in, then_string, strings_after, some_strings, strings_in}
use Rattle.dns_text.proofs.OptionLaws.{stepped, some_list}
use Rattle.dns_text.proofs.WordLaws.{rest_length, next_less}
use Rattle.dns_text.proofs.StringLaws.{octets-skip, octets_step, last_quote}

-- ---- one octet

-- what is found at the front of a text is written there
abbrev IsFound : List ℕ → Option (ℕ × ℕ) → Type 0
IsFound text None = Unit {0}
IsFound text (Some found) = IsStringOctet (take found.1 text) found.0 × (0 < found.1)

found_escape : (text : List ℕ) → IsFound (92 ∷ text) (escape_in text)
found_escape text =
    escape_found (λ front found. IsFound (92 ∷ front) found) (λ front. tt) (λ x rest graphic digit. (escaped graphic digit refl, omega arith))
    (λ x y z rest dx dy dz small. (numbered x y z dx dy dz refl small refl, omega arith)) text

found_octet : (text : List ℕ) → IsFound text (octet_at text)
found_octet [] = tt
found_octet (c ∷ text) =
    elim (cases_Bool (c == 34)) [
      | inl quote ↦ rw quote tt
      | inr plain ↦ elim (cases_Bool (c == 92)) [
        | inl slash ↦ rw (plain, slash) (rw (eqb-true c 92 slash) (found_escape text))
        | inr other ↦ rw (plain, other) (itself (λ e. grind (arith, nat_tests)) (λ e. grind (arith, nat_tests)) refl, omega arith)
      ]
    ]

octet_of_piece : (piece : List ℕ) (b : ℕ) (rest : List ℕ) → IsStringOctet piece b → octet_at (piece ++ rest) ≡ Some (b, length piece)
octet_of_piece piece b rest (itself quote slash e) = rw e (rw (ne_eqb b 34 quote, ne_eqb b 92 slash) refl)
octet_of_piece piece b rest (escaped graphic digit e) = rw e (rw (false_from_ne_true (is_ascii_digit b) (λ d. digit (digit_from b d)), graphic_true b graphic) refl)
octet_of_piece piece b rest (numbered x y z dx dy dz is small e) =
    rw (e, is) (rw (digit_true x dx, digit_true y dy, digit_true z dz) (rw (lt-ltb (decimal x y z) 256 (rw (← is) small)) refl))

length_piece : (piece : List ℕ) (b : ℕ) → IsStringOctet piece b → 0 < length piece
length_piece piece b (itself quote slash e) = omega (arith, ap length e)
length_piece piece b (escaped graphic digit e) = omega (arith, ap length e)
length_piece piece b (numbered x y z dx dy dz is small e) = omega (arith, ap length e)

-- ---- the octets of a string

record Pieces (before text octets : List ℕ) : Type 0 where
  pub pieces : List (List ℕ)
  pub more : List ℕ
  pub joined : text ≡ concat pieces
  pub each : EachPair IsStringOctet pieces more
  pub value : octets ≡ before ++ more
  pub few : length octets < 256

with_octet_found : (before : List ℕ) (b : ℕ) (octets : List ℕ) → with_octet before b ≡ Some octets → (length before ≤ 254) × (octets ≡ before ++ b ∷ [])
with_octet_found before b octets e = elim (cases_lt (length before) 255) [
  | inl room ↦
      let here : Some (before ++ b ∷ []) ≡ Some octets = sym (rw (lt-ltb (length before) 255 room) refl) ∙ e in
      let same : before ++ b ∷ [] ≡ octets = cc in
      (omega arith, sym same)
  | inr full ↦ let none : None ≡ Some octets = sym (rw (le-ltb (length before) 255 full) refl) ∙ e in absurd cc
]

pieces_more : (before text octets next : List ℕ) (b k : ℕ) → IsStringOctet (take k text) b → next ≡ before ++ b ∷ [] → Pieces next (drop k text) octets → Pieces before text octets
pieces_more before text octets next b k stands is h = record {
  pieces = take k text ∷ h.pieces;
  more = b ∷ h.more;
  joined = sym (take-append-drop k text) ∙ ap (λ (x : List ℕ). take k text ++ x) h.joined;
  each = (stands, h.each);
  value = h.value ∙ ap (λ (x : List ℕ). x ++ h.more) is ∙ append_assoc before (b ∷ []) h.more;
  few = h.few;
}

octets_found : (n : ℕ) (before text octets : List ℕ) → length text ≤ n → length before < 256 → octets_after before 0 text ≡ Some octets → Pieces before text octets
unfolding octets_after
octets_found n before [] octets long few e = let same : before ≡ octets = cc in record { pieces = []; more = []; joined = refl; each = tt; value = sym same ∙ sym (append-nil before); few = subst (λ (x : List ℕ). length x < 256) same few }
octets_found zero before (c ∷ text) octets long few e = absurd (omega arith)
octets_found (suc n) before (c ∷ text) octets long few e =
    let p = stepped (octet_at (c ∷ text)) _ octets e in
    let q = stepped (with_octet before p.from.0) _ octets p.second in
    let found : IsFound (c ∷ text) (Some (p.from.0, p.from.1)) = subst (IsFound (c ∷ text)) p.first (found_octet (c ∷ text)) in
    let next = with_octet_found before p.from.0 q.from q.first in
    let rest : octets_after q.from 0 (drop (p.from.1 - 1) text) ≡ Some octets = sym (octets-skip q.from (p.from.1 - 1) text) ∙ q.second in
    let same : drop p.from.1 (c ∷ text) ≡ drop (p.from.1 - 1) text = drop_one p.from.1 c text found.1 in
    pieces_more before (c ∷ text) octets q.from p.from.0 p.from.1 found.0 next.1
    (subst (λ (x : List ℕ). Pieces q.from x octets) (sym same) (octets_found n q.from (drop (p.from.1 - 1) text) octets (omega (arith, length-drop (p.from.1 - 1) text)) (omega (arith, ap length next.1, length-append before (p.from.0 ∷ []), next.0)) rest))
  where
    drop_one : (k c : ℕ) (text : List ℕ) → 0 < k → drop k (c ∷ text) ≡ drop (k - 1) text
    drop_one zero c text some = absurd (omega arith)
    drop_one (suc k) c text some = let one : suc k - 1 ≡ k = omega arith in rw one refl

octets_read : (before : List ℕ) (pieces : List (List ℕ)) (octets : List ℕ) → EachPair IsStringOctet pieces octets → length before + length octets < 256 → octets_after before 0 (concat pieces) ≡ Some (before ++ octets)
unfolding octets_after
octets_read before [] [] h few = some_list _ _ (sym (append-nil before))
octets_read before [] (b ∷ octets) h few = absurd h
octets_read before (piece ∷ pieces) [] h few = absurd h
octets_read before (piece ∷ pieces) (b ∷ octets) h few =
    let rest : List ℕ = concat pieces in
    octets_step before (piece ++ rest) b (length piece) (omega (arith, length_piece piece b h.0, length-append piece rest)) (length_piece piece b h.0) (octet_of_piece piece b rest h.0) (omega arith)
    ∙ ap (octets_after (before ++ b ∷ []) 0) (drop_at piece rest (length piece) refl)
    ∙ octets_read (before ++ b ∷ []) pieces octets h.1 (omega (arith, length-append before (b ∷ [])))
    ∙ some_list _ _ (append_assoc before (b ∷ []) octets)

-- ---- one string

abbrev InQuotes : List ℕ → List ℕ → Type 0
InQuotes word inside = (word ≡ inside) ⊎ (word ≡ 34 ∷ inside ++ 34 ∷ [])

last_quote_found : (text inside : List ℕ) → before_last_quote text ≡ Some inside → text ≡ inside ++ 34 ∷ []
last_quote_found [] inside e = absurd cc
last_quote_found (c ∷ []) inside e = elim (cases_Bool (c == 34)) [
  | inl quote ↦ let here : Some [] ≡ Some inside = sym (rw quote refl) ∙ e in let same : [] ≡ inside = cc in let is : c ≡ 34 = eqb-true c 34 quote in cc
  | inr other ↦ let none : None ≡ Some inside = sym (rw other refl) ∙ e in absurd cc
]
last_quote_found (c ∷ d ∷ text) inside e = onto c (d ∷ text) inside (before_last_quote (d ∷ text)) e (λ front. last_quote_found (d ∷ text) front)
  where
    onto : (c : ℕ) (text inside : List ℕ) (o : Option (List ℕ)) → option_map (λ front. c ∷ front) o ≡ Some inside → ((front : List ℕ) → o ≡ Some front → text ≡ front ++ 34 ∷ []) → c ∷ text ≡ inside ++ 34 ∷ []
    onto c text inside None e more = absurd cc
    onto c text inside (Some front) e more = let same : c ∷ front ≡ inside = cc in ap (λ (x : List ℕ). c ∷ x) (more front refl) ∙ ap (λ (x : List ℕ). x ++ 34 ∷ []) same

inside_quotes_found : (word inside : List ℕ) → inside_quotes word ≡ Some inside → InQuotes word inside
inside_quotes_found [] inside e = inl cc
inside_quotes_found (c ∷ word) inside e = elim (cases_Bool (c == 34)) [
  | inl quote ↦
      let here : before_last_quote word ≡ Some inside = sym (rw quote refl) ∙ e in
      let is : c ≡ 34 = eqb-true c 34 quote in
      inr (ap (λ (x : ℕ). x ∷ word) is ∙ ap (λ (x : List ℕ). 34 ∷ x) (last_quote_found word inside here))
  | inr other ↦ let here : Some (c ∷ word) ≡ Some inside = sym (rw other refl) ∙ e in inl cc
]

pub string_found : (word octets : List ℕ) → string_in word ≡ Some octets → IsStringText word octets
unfolding string_in
string_found word octets e =
    let p = stepped (inside_quotes word) _ octets e in
    let found = octets_found (length p.from) [] p.from octets (omega arith) (omega arith) p.second in
    record { inside = p.from; pieces = found.pieces; quotes = inside_quotes_found word p.from p.first; joined = found.joined; each = subst (EachPair IsStringOctet found.pieces) (sym found.value) found.each; few = omega (arith, found.few) }

no_quote_first : (piece : List ℕ) (b : ℕ) (rest : List ℕ) → IsStringOctet piece b → inside_quotes (piece ++ rest) ≡ Some (piece ++ rest)
no_quote_first piece b rest (itself quote slash e) = rw e (rw (ne_eqb b 34 quote) refl)
no_quote_first piece b rest (escaped graphic digit e) = rw e refl
no_quote_first piece b rest (numbered x y z dx dy dz is small e) = rw e refl

inside_quotes_pieces : (pieces : List (List ℕ)) (octets : List ℕ) → EachPair IsStringOctet pieces octets → inside_quotes (concat pieces) ≡ Some (concat pieces)
inside_quotes_pieces [] octets h = refl
inside_quotes_pieces (piece ∷ pieces) [] h = absurd h
inside_quotes_pieces (piece ∷ pieces) (b ∷ octets) h = no_quote_first piece b (concat pieces) h.0

inside_quotes_read : (word : List ℕ) (pieces : List (List ℕ)) (octets : List ℕ) → EachPair IsStringOctet pieces octets → InQuotes word (concat pieces) → inside_quotes word ≡ Some (concat pieces)
inside_quotes_read word pieces octets h (inl bare) = ap inside_quotes bare ∙ inside_quotes_pieces pieces octets h
inside_quotes_read word pieces octets h (inr round) = ap inside_quotes round ∙ last_quote (concat pieces) 34

pub string_read : (word octets : List ℕ) → IsStringText word octets → string_in word ≡ Some octets
unfolding string_in
string_read word octets h =
    rw (inside_quotes_read word h.pieces octets h.each (subst (InQuotes word) h.joined h.quotes)) (octets_read [] h.pieces octets h.each (omega (arith, h.few)))

-- ---- one string after another

-- strings of words after others
record Strings (before : List (List ℕ)) (text : List ℕ) (strings : List (List ℕ)) : Type 0 where
  pub words : List (List ℕ)
  pub more : List (List ℕ)
  pub parts : AreWords text words
  pub each : EachPair IsStringText words more
  pub value : strings ≡ before ++ more

pub rest_less : (text word rest : List ℕ) → next_word text ≡ Some (word, rest) → length rest < length text
unfolding rest_length
rest_less text word rest e = elim (next_less text) [
  | inl none ↦ let both : None ≡ Some (word, rest) = sym none ∙ e in absurd cc
  | inr less ↦ let same : rest_length (next_word text) ≡ length rest = ap rest_length e in omega arith
]

no_strings : (before : List (List ℕ)) (text : List ℕ) (strings : List (List ℕ)) → next_word text ≡ None → before ≡ strings → Strings before text strings
no_strings before text strings none same = record { words = []; more = []; parts = none; each = tt; value = sym same ∙ sym (append-nil before) }

strings_go : (before : List (List ℕ)) (n : ℕ) (text : List ℕ) (strings : List (List ℕ)) (o : Option (List ℕ × List ℕ)) → next_word text ≡ o → then_string before (λ s rest. strings_after s n rest) o ≡ Some strings → ((word rest octets : List ℕ) → next_word text ≡ Some (word, rest) → strings_after (before ++ octets ∷ []) n rest ≡ Some strings → Strings (before ++ octets ∷ []) rest strings) → Strings before text strings
strings_go before n text strings None at e more = no_strings before text strings at cc
strings_go before n text strings (Some first) at e more =
    let p = stepped (string_in first.0) _ strings e in
    let h = more first.0 first.1 p.from at p.second in
    record {
      words = first.0 ∷ h.words;
      more = p.from ∷ h.more;
      parts = (first.1, at, h.parts);
      each = (string_found first.0 p.from p.first, h.each);
      value = h.value ∙ append_assoc before (p.from ∷ []) h.more;
    }

strings_found : (n : ℕ) (before : List (List ℕ)) (text : List ℕ) (strings : List (List ℕ)) → length text ≤ n → strings_after before n text ≡ Some strings → Strings before text strings
unfolding strings_after
strings_found zero before [] strings long e = no_strings before [] strings refl cc
strings_found zero before (c ∷ text) strings long e = absurd (omega arith)
strings_found (suc n) before text strings long e =
    strings_go before n text strings (next_word text) refl e (λ word rest octets at go. strings_found n (before ++ octets ∷ []) rest strings (omega (arith, rest_less text word rest at)) go)

strings_read : (n : ℕ) (before : List (List ℕ)) (text : List ℕ) (words strings : List (List ℕ)) → length text ≤ n → AreWords text words → EachPair IsStringText words strings → strings_after before n text ≡ Some (before ++ strings)
unfolding strings_after
strings_read zero before text [] [] long parts h = some_list _ _ (sym (append-nil before))
strings_read (suc n) before text [] [] long parts h = rw parts (some_list _ _ (sym (append-nil before)))
strings_read n before text [] (s ∷ strings) long parts h = absurd h
strings_read n before text (word ∷ words) [] long parts h = absurd h
strings_read zero before text (word ∷ words) (s ∷ strings) long parts h = absurd (omega (arith, rest_less text word parts.0 parts.1))
strings_read (suc n) before text (word ∷ words) (s ∷ strings) long parts h =
    rw parts.1 (rw (string_read word s h.0)
    (strings_read n (before ++ s ∷ []) parts.0 words strings (omega (arith, rest_less text word parts.0 parts.1)) parts.2 h.1 ∙ some_list _ _ (append_assoc before (s ∷ []) strings)))

some_found : (strings given : List (List ℕ)) → some_strings strings ≡ Some given → (strings ≡ given) × (0 < length given)
some_found [] given e = absurd cc
some_found (s ∷ strings) given e = let same : s ∷ strings ≡ given = cc in (same, omega (arith, ap length same))

some_read : (strings : List (List ℕ)) → 0 < length strings → some_strings strings ≡ Some strings
some_read [] some = absurd (omega arith)
some_read (s ∷ strings) some = refl

pub strings_in_found : (text : List ℕ) (strings : List (List ℕ)) → strings_in text ≡ Some strings → IsStringsText text strings
unfolding strings_in
strings_in_found text strings e =
    let p = stepped (strings_after [] (length text) text) _ strings e in
    let some = some_found p.from strings p.second in
    let h = strings_found (length text) [] text p.from (omega arith) p.first in
    record { words = h.words; parts = h.parts; each = subst (EachPair IsStringText h.words) (sym h.value ∙ some.0) h.each; some = some.1 }

pub strings_in_read : (text : List ℕ) (strings : List (List ℕ)) → IsStringsText text strings → strings_in text ≡ Some strings
unfolding strings_in
strings_in_read text strings h = rw (strings_read (length text) [] text h.words strings (omega arith) h.parts h.each) (some_read strings h.some)

pub reads_strings : ReadsStrings
reads_strings text strings = (strings_in_found text strings, strings_in_read text strings)
