-- IPv4 addresses that are written are read back.
use Rattle.std.proofs.Common.{◌≡◌, ℕ, ◌<◌, true, false, List, [], ◌∷◌, ◌++◌, length, get_or, Option, Some, refl, ap, ◌∙◌, arith, append_assoc, length-append}
use Rattle.std.specs.Prelude.{◌==◌, decimal, slice_index}
use Rattle.std.specs.Char.{is_ascii_digit}
use Rattle.std.specs.Str.{all_ascii_digits}
use Rattle.std.proofs.lemmas.Bool.{and_parts}
use Rattle.std.proofs.lemmas.Bool.Decides.{nat_tests}
use Rattle.std.proofs.lemmas.Fmt.{decimal_nonempty}
use Rattle.dns_text.specs.declared.word.Within.TheVariants.{Plain}
use Rattle.dns_text.specs.Word.{cut_at}
use Rattle.dns_text.specs.Ipv4.{octet_in, ipv4_in, dotted_text, ipv4_text}
use Rattle.dns_text.proofs.NumberLaws.{digits-decimal, short_number_in-decimal}
use Rattle.dns_text.proofs.WordLaws.{scanned, IsWord, joined_scanned, digits_scanned}

digit_is_no_dot : (c : ℕ) → is_ascii_digit c ≡ true → (c == 46) ≡ false
digit_is_no_dot c e = grind (arith, nat_tests)

pub cut_digits : (word rest : List ℕ) → all_ascii_digits word ≡ true → cut_at 46 (word ++ 46 ∷ rest) ≡ Some (word, rest)
cut_digits [] rest e = refl
cut_digits (c ∷ word) rest e = let parts = and_parts _ _ e in rw (digit_is_no_dot c parts.0) (rw (cut_digits word rest parts.1) refl)

cut_decimal : (n : ℕ) (rest : List ℕ) → n < 256 → cut_at 46 (decimal n ++ 46 ∷ rest) ≡ Some (decimal n, rest)
cut_decimal n rest small = cut_digits (decimal n) rest (digits-decimal n (omega arith))

octet-decimal : (n : ℕ) → n < 256 → octet_in (decimal n) ≡ Some n
octet-decimal n small = short_number_in-decimal 255 n (omega arith) (omega arith)

four : (octets : List ℕ) → length octets ≡ 4 → slice_index octets 0 ∷ slice_index octets 1 ∷ slice_index octets 2 ∷ slice_index octets 3 ∷ [] ≡ octets
four [] e = absurd (omega arith)
four (a ∷ []) e = absurd (omega arith)
four (a ∷ b ∷ []) e = absurd (omega arith)
four (a ∷ b ∷ c ∷ []) e = absurd (omega arith)
four (a ∷ b ∷ c ∷ d ∷ []) e = refl
four (a ∷ b ∷ c ∷ d ∷ x ∷ octets) e = absurd (omega arith)

ipv4-of : (a b c d : ℕ) → a < 256 → b < 256 → c < 256 → d < 256 → ipv4_in (dotted_text a ++ dotted_text b ++ dotted_text c ++ decimal d) ≡ Some (a ∷ b ∷ c ∷ d ∷ [])
unfolding ipv4_in
ipv4-of a b c d ha hb hc hd =
    let text : dotted_text a ++ dotted_text b ++ dotted_text c ++ decimal d ≡ decimal a ++ 46 ∷ (decimal b ++ 46 ∷ (decimal c ++ 46 ∷ decimal d)) = simp append_assoc in
    rw text (rw (cut_decimal a (decimal b ++ 46 ∷ (decimal c ++ 46 ∷ decimal d)) ha)
    (rw (cut_decimal b (decimal c ++ 46 ∷ decimal d) hb)
    (rw (cut_decimal c (decimal d) hc)
    (rw (octet-decimal a ha) (rw (octet-decimal b hb) (rw (octet-decimal c hc) (rw (octet-decimal d hd) refl)))))))

pub ipv4_in-ipv4_text : (octets : List ℕ) → length octets ≡ 4 → ((i : ℕ) → get_or octets i 0 < 256) → ipv4_in (ipv4_text octets) ≡ Some octets
ipv4_in-ipv4_text octets four_octets fits =
    ipv4-of (slice_index octets 0) (slice_index octets 1) (slice_index octets 2) (slice_index octets 3) (fits 0) (fits 1) (fits 2) (fits 3)
    ∙ ap (λ (x : List ℕ). let o : Option (List ℕ) = Some x in o) (four octets four_octets)

dot_scanned : scanned Plain (46 ∷ []) ≡ Some Plain
unfolding scanned
dot_scanned = refl

decimal_scanned : (n : ℕ) → n < 256 → scanned Plain (decimal n) ≡ Some Plain
decimal_scanned n small = digits_scanned (decimal n) (digits-decimal n (omega arith))

dotted_scanned : (n : ℕ) → n < 256 → scanned Plain (dotted_text n) ≡ Some Plain
dotted_scanned n small = joined_scanned (decimal n) (46 ∷ []) (decimal_scanned n small) dot_scanned

pub ipv4_is_word : (octets : List ℕ) → ((i : ℕ) → get_or octets i 0 < 256) → IsWord (ipv4_text octets)
ipv4_is_word octets fits =
    let a = slice_index octets 0 in let b = slice_index octets 1 in let c = slice_index octets 2 in let d = slice_index octets 3 in
    record {
      some = omega (arith, decimal_nonempty d (omega (arith, fits 3)), length-append (dotted_text a ++ dotted_text b ++ dotted_text c) (decimal d));
      closed = joined_scanned (dotted_text a ++ dotted_text b ++ dotted_text c) (decimal d)
          (joined_scanned (dotted_text a ++ dotted_text b) (dotted_text c) (joined_scanned (dotted_text a) (dotted_text b) (dotted_scanned a (fits 0)) (dotted_scanned b (fits 1))) (dotted_scanned c (fits 2)))
          (decimal_scanned d (fits 3));
    }
