-- An IPv4 address is read from a text exactly where the text stands for it.
use Rattle.std.proofs.Common.{◌≡◌, ◌≢◌, ℕ, true, false, List, [], ◌∷◌, ◌++◌, Option, Some, None, refl, sym, ap, ◌∙◌, inl, inr, arith, eqb-true, ne_eqb}
use Rattle.std.specs.Prelude.{◌⊎◌, ◌==◌, option_map}
use Rattle.std.specs.Str.{all_ascii_digits}
use Rattle.std.proofs.lemmas.Bool.{cases_Bool}
use Rattle.dns_name.specs.ResultLaws.{some_same}
use Rattle.dns_text.specs.Number.{number_in}
use Rattle.dns_text.specs.Word.{with_first, cut_at}
use Rattle.dns_text.specs.Ipv4.{IsOctetNumber, IsIpv4Text, ReadsIpv4, octet_in, ipv4_in}
use Rattle.dns_text.proofs.OptionLaws.{stepped, some_list}
use Rattle.dns_text.proofs.FieldReading.{all_are_digits, number_found, number_read}
use Rattle.dns_text.proofs.Ipv4Laws.{cut_digits}

-- ---- one number

octet_found : (word : List ℕ) (n : ℕ) → octet_in word ≡ Some n → IsOctetNumber word n
octet_found [] n e = let number = number_found 255 [] n e in absurd (omega (arith, number.numeral.0))
octet_found (c ∷ []) n e =
    record {
      number = number_found 255 (c ∷ []) n e;
      short = elim (cases_Bool (c == 48)) [
        | inl zero ↦ inl (ap (λ (x : ℕ). x ∷ []) (eqb-true c 48 zero))
        | inr other ↦ inr (λ same. let both : true ≡ false = sym (eq_is c same) ∙ other in cc)
      ];
    }
  where
    eq_is : (c : ℕ) → c ≡ 48 → (c == 48) ≡ true
    eq_is c same = rw same refl
octet_found (c ∷ d ∷ word) n e = elim (cases_Bool (c == 48)) [
  | inl zero ↦ let none : None ≡ Some n = sym (rw zero refl) ∙ e in absurd cc
  | inr other ↦
      let here : number_in 255 (c ∷ d ∷ word) ≡ Some n = sym (rw other refl) ∙ e in
      record { number = number_found 255 (c ∷ d ∷ word) n here; short = inr (λ same. let both : true ≡ false = sym (eq_is c same) ∙ other in cc) }
]
  where
    eq_is : (c : ℕ) → c ≡ 48 → (c == 48) ≡ true
    eq_is c same = rw same refl

not_zero : (c d : ℕ) (word : List ℕ) → (c ∷ d ∷ word ≡ 48 ∷ []) ⊎ (c ≢ 48) → (c == 48) ≡ false
not_zero c d word (inl alone) = absurd cc
not_zero c d word (inr other) = ne_eqb c 48 other

octet_read : (word : List ℕ) (n : ℕ) → IsOctetNumber word n → octet_in word ≡ Some n
octet_read [] n h = number_read 255 [] n h.number
octet_read (c ∷ []) n h = number_read 255 (c ∷ []) n h.number
octet_read (c ∷ d ∷ word) n h = rw (not_zero c d word h.short) (number_read 255 (c ∷ d ∷ word) n h.number)

-- ---- what is on both sides of a dot

onto_parts : (c octet : ℕ) (text : List ℕ) (o : Option (List ℕ × List ℕ)) (parts : List ℕ × List ℕ) → option_map (with_first c) o ≡ Some parts → ((p : List ℕ × List ℕ) → o ≡ Some p → text ≡ p.0 ++ octet ∷ p.1) → c ∷ text ≡ parts.0 ++ octet ∷ parts.1
onto_parts c octet text None parts e more = absurd cc
onto_parts c octet text (Some p) parts e more =
    ap (λ (x : List ℕ). c ∷ x) (more p refl) ∙ ap (λ (q : List ℕ × List ℕ). q.0 ++ octet ∷ q.1) (some_same e)

pub cut_parts : (octet : ℕ) (text : List ℕ) (parts : List ℕ × List ℕ) → cut_at octet text ≡ Some parts → text ≡ parts.0 ++ octet ∷ parts.1
cut_parts octet [] parts e = absurd cc
cut_parts octet (c ∷ text) parts e = elim (cases_Bool (c == octet)) [
  | inl here ↦
      let found : Some ([], text) ≡ Some parts = sym (rw here refl) ∙ e in
      ap (λ (x : ℕ). x ∷ text) (eqb-true c octet here) ∙ ap (λ (q : List ℕ × List ℕ). q.0 ++ octet ∷ q.1) (some_same found)
  | inr other ↦ onto_parts c octet text (cut_at octet text) parts (sym (rw other refl) ∙ e) (λ p at. cut_parts octet text p at)
]

-- ---- a whole address

pub ipv4_found : (text octets : List ℕ) → ipv4_in text ≡ Some octets → IsIpv4Text text octets
unfolding ipv4_in
ipv4_found text octets e =
    let a = stepped (cut_at 46 text) _ octets e in
    let b = stepped (cut_at 46 a.from.1) _ octets a.second in
    let c = stepped (cut_at 46 b.from.1) _ octets b.second in
    let w = stepped (octet_in a.from.0) _ octets c.second in
    let x = stepped (octet_in b.from.0) _ octets w.second in
    let y = stepped (octet_in c.from.0) _ octets x.second in
    let z = stepped (octet_in c.from.1) _ octets y.second in
    record {
      one = a.from.0;
      two = b.from.0;
      three = c.from.0;
      four = c.from.1;
      first = w.from;
      second = x.from;
      third = y.from;
      fourth = z.from;
      joined =
          cut_parts 46 text a.from a.first ∙ ap (λ (t : List ℕ). a.from.0 ++ 46 ∷ t) (cut_parts 46 a.from.1 b.from b.first ∙ ap (λ (t : List ℕ). b.from.0 ++ 46 ∷ t) (cut_parts 46 b.from.1 c.from c.first));
      value = sym (some_same z.second);
      is_first = octet_found a.from.0 w.from w.first;
      is_second = octet_found b.from.0 x.from x.first;
      is_third = octet_found c.from.0 y.from y.first;
      is_fourth = octet_found c.from.1 z.from z.first;
    }

octet_digits : (word : List ℕ) (n : ℕ) → IsOctetNumber word n → all_ascii_digits word ≡ true
octet_digits word n h = all_are_digits word h.number.numeral.1

pub ipv4_read : (text octets : List ℕ) → IsIpv4Text text octets → ipv4_in text ≡ Some octets
unfolding ipv4_in
ipv4_read text octets h =
    rw h.joined (rw (cut_digits h.one (h.two ++ 46 ∷ (h.three ++ 46 ∷ h.four)) (octet_digits h.one h.first h.is_first))
    (rw (cut_digits h.two (h.three ++ 46 ∷ h.four) (octet_digits h.two h.second h.is_second))
    (rw (cut_digits h.three h.four (octet_digits h.three h.third h.is_third))
    (rw (octet_read h.one h.first h.is_first) (rw (octet_read h.two h.second h.is_second) (rw (octet_read h.three h.third h.is_third) (rw (octet_read h.four h.fourth h.is_fourth) (some_list _ _ (sym h.value)))))))))

pub reads_ipv4 : ReadsIpv4
reads_ipv4 text octets = (ipv4_found text octets, ipv4_read text octets)
