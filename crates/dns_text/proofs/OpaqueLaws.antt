-- Octets that are written with a count are read back.
use Rattle.std.proofs.Common.{◌≡◌, ℕ, suc, ◌/◌, ◌%◌, ◌<◌, true, List, [], ◌∷◌, ◌++◌, length, Option, Some, None, Result, Ok, Err, refl, sym, ap, ◌∙◌, arith, append_assoc, eq-eqb, ne_eqb, ◌≢◌, ◌*◌}
use Rattle.std.specs.Prelude.{decimal, slice_index, IfSome}
use Rattle.std.specs.List.{list_all}
use Rattle.std.proofs.lemmas.Bool.{agree_below_at}
use Rattle.std.proofs.lemmas.List.{append-nil}
use Rattle.hex.specs.declared.error.FromHexError.{FromHexError}
use Rattle.hex.specs.Hex.{lower_digits, encode_with, encode_lower, decode_of}
use Rattle.hex.proofs.HexLemmas.{length-encode_with, decode_of-encode_lower, decode_of-ok}
use Rattle.std.specs.Cmp.Derive.{both_true}
use Rattle.dns_name.specs.ResultLaws.{some_same}
use Rattle.dns_text.specs.declared.word.Within.TheVariants.{Plain}
use Rattle.dns_text.specs.Word.{next_word, cut_word}
use Rattle.dns_text.specs.Opaque.{or_nothing, word_or_nothing, ok_or_none, octets_of_hex, as_many_as, octets_in, hex_part, opaque_text}
use Rattle.dns_name.specs.Options.{◌>>=◌}
use Rattle.dns_text.proofs.WordLaws.{scanned, IsWord, EndsWord, is_plain, plain_scanned, next_word-front}
use Rattle.dns_text.proofs.FieldLaws.{number_at-decimal}

plain_digit : (d : ℕ) → d < 16 → is_plain (slice_index lower_digits d) ≡ true
plain_digit d h = agree_below_at (λ n. is_plain (slice_index lower_digits n)) (λ _. true) 16 d refl h

hex_plain : (octets : List ℕ) → ((i : ℕ) → slice_index octets i < 256) → list_all is_plain (encode_lower octets) ≡ true
unfolding encode_with
hex_plain [] fits = refl
hex_plain (b ∷ octets) fits =
    let small : b < 256 = fits 0 in
    both_true (plain_digit (b / 16) (omega arith)) (both_true (plain_digit (b % 16) (omega arith)) (hex_plain octets (λ i. fits (suc i))))

hex_is_word : (b : ℕ) (octets : List ℕ) → ((i : ℕ) → slice_index (b ∷ octets) i < 256) → IsWord (encode_lower (b ∷ octets))
hex_is_word b octets fits = record { some = omega (arith, length-encode_with lower_digits (b ∷ octets)); closed = plain_scanned (encode_lower (b ∷ octets)) (hex_plain (b ∷ octets) fits) }

pub no_digits : encode_lower [] ≡ []
unfolding encode_with
no_digits = refl

hex_part_ends : (octets : List ℕ) → EndsWord (hex_part octets)
hex_part_ends [] = tt
hex_part_ends (b ∷ octets) = refl

hex_read : (octets : List ℕ) → ((i : ℕ) → slice_index octets i < 256) → word_or_nothing (hex_part octets) ≡ Some (encode_lower octets)
hex_read [] fits = ap (λ (x : List ℕ). let o : Option (List ℕ) = Some x in o) (sym no_digits)
hex_read (b ∷ octets) fits =
    let first : next_word (32 ∷ encode_lower (b ∷ octets)) ≡ Some (encode_lower (b ∷ octets), []) = ap next_word (sym (append-nil (encode_lower (b ∷ octets)))) ∙ next_word-front (encode_lower (b ∷ octets)) [] (hex_is_word b octets fits) tt in
    ap or_nothing first

mark_is_word : IsWord (92 ∷ 35 ∷ [])
unfolding scanned
mark_is_word = record { some = omega arith; closed = refl }

-- ---- the count of octets is half the count of digits

apart : (count : ℕ) (digits : List ℕ) (r : Result (List ℕ) FromHexError) → decode_of digits ≡ r → length digits / 2 ≢ count → (ok_or_none r >>= as_many_as count) ≡ None
apart count digits (Ok octets) e other =
    let long : length digits ≡ 2 * length octets = (decode_of-ok digits octets e).2 in
    rw (ne_eqb (length octets) count (λ h. other (omega arith))) refl
apart count digits (Err fault) e other = refl

pub count_apart : (count : ℕ) (digits : List ℕ) → length digits / 2 ≢ count → (octets_of_hex digits >>= as_many_as count) ≡ None
count_apart count digits other = apart count digits (decode_of digits) refl other

same : (count : ℕ) (digits : List ℕ) (r : Result (List ℕ) FromHexError) → decode_of digits ≡ r → length digits / 2 ≡ count → (ok_or_none r >>= as_many_as count) ≡ ok_or_none r
same count digits (Ok octets) e half =
    let long : length digits ≡ 2 * length octets = (decode_of-ok digits octets e).2 in
    rw (eq-eqb (length octets) count (omega arith)) refl
same count digits (Err fault) e half = refl

pub count_same : (count : ℕ) (digits : List ℕ) → length digits / 2 ≡ count → (octets_of_hex digits >>= as_many_as count) ≡ octets_of_hex digits
count_same count digits half = same count digits (decode_of digits) refl half

long_as : (count : ℕ) (digits : List ℕ) (r : Result (List ℕ) FromHexError) → decode_of digits ≡ r → length digits / 2 ≡ count → IfSome (ok_or_none r) (λ octets. length octets ≡ count)
long_as count digits (Ok octets) e half =
    let long : length digits ≡ 2 * length octets = (decode_of-ok digits octets e).2 in
    omega arith
long_as count digits (Err fault) e half = tt

pub unhexed_long : (count : ℕ) (digits : List ℕ) → length digits / 2 ≡ count → IfSome (octets_of_hex digits) (λ octets. length octets ≡ count)
unhexed_long count digits half = long_as count digits (decode_of digits) refl half

pub octets_again : (octets : List ℕ) → length octets < 65536 → ((i : ℕ) → slice_index octets i < 256) → octets_in (opaque_text octets) ≡ Some octets
unfolding octets_in
octets_again octets few fits =
    let n : ℕ = length octets in
    let rest : List ℕ = 32 ∷ (decimal n ++ hex_part octets) in
    let mark : next_word ((92 ∷ 35 ∷ []) ++ rest) ≡ Some (92 ∷ 35 ∷ [], rest) = next_word-front (92 ∷ 35 ∷ []) rest mark_is_word refl in
    let text : opaque_text octets ≡ (92 ∷ 35 ∷ []) ++ rest = append_assoc (92 ∷ 35 ∷ 32 ∷ []) (decimal n) (hex_part octets) in
    let cut : cut_word Plain ((92 ∷ 35 ∷ []) ++ rest) ≡ (92 ∷ 35 ∷ [], rest) = some_same mark in
    rw text (rw cut (rw (number_at-decimal 65535 n (hex_part octets) (omega arith) (omega arith) (hex_part_ends octets))
    (rw (hex_read octets fits) (rw (decode_of-encode_lower octets fits) (rw (eq-eqb n n refl) refl)))))
