-- Addresses that are written are read back.
use Rattle.std.proofs.Common.{◌≡◌, ℕ, ◌<◌, ◌^◌, Bool, true, false, List, [], ◌∷◌, ◌++◌, length, get_or, Some, None, refl, ◌∙◌, arith, ne_eqb, length-append}
use Rattle.std.specs.Prelude.{◌==◌, not, decimal, slice_index}
use Rattle.std.specs.Char.{is_ascii_digit, digit_char}
use Rattle.std.specs.Str.{all_ascii_digits}
use Rattle.std.specs.List.{list_all}
use Rattle.std.specs.Net.Text.{hex, groups_text}
use Rattle.std.specs.Net.Addr.{segments_of}
use Rattle.std.proofs.lemmas.Bool.{and_parts, not-true, agree_below_at}
use Rattle.std.proofs.lemmas.Bool.Decides.{nat_tests}
use Rattle.std.proofs.lemmas.List.Folds.{list_all-append}
use Rattle.std.specs.Cmp.Derive.{both_true}
use Rattle.dns_text.specs.declared.addr.Ip.TheVariants.{V4, V6}
use Rattle.dns_text.specs.declared.addr.Addr.{Addr}
use Rattle.dns_text.specs.Word.{cut_at}
use Rattle.dns_text.specs.Ipv4.{ipv4_in, dotted_text, ipv4_text}
use Rattle.dns_text.specs.Ipv6.{ipv6_text}
use Rattle.dns_text.specs.Addr.{addr_in, ip_text, addr_text, IpReads}
use Rattle.dns_text.specs.declared.word.Within.TheVariants.{Plain}
use Rattle.dns_text.proofs.NumberLaws.{digits-decimal, number_in-decimal}
use Rattle.dns_text.proofs.WordLaws.{scanned, IsWord, joined_scanned}
use Rattle.dns_text.proofs.FieldLaws.{number_is_word}
use Rattle.dns_text.proofs.Ipv4Laws.{ipv4_in-ipv4_text}
use Rattle.dns_text.proofs.Ipv6Laws.{AllGroups, segments, more_text, hex_all, ipv6_again}

-- octets other than this one
abbrev other : ℕ → ℕ → Bool
other octet c = not (c == octet)

cut_behind : (octet : ℕ) (word rest : List ℕ) → (octet == octet) ≡ true → list_all (other octet) word ≡ true → cut_at octet (word ++ octet ∷ rest) ≡ Some (word, rest)
cut_behind octet [] rest same e = rw same refl
cut_behind octet (c ∷ word) rest same e =
    let parts = and_parts _ _ e in
    let here : (c == octet) ≡ false = not-true _ parts.0 in
    rw here (rw (cut_behind octet word rest same parts.1) refl)

cut_nowhere : (octet : ℕ) (word : List ℕ) → list_all (other octet) word ≡ true → cut_at octet word ≡ None
cut_nowhere octet [] e = refl
cut_nowhere octet (c ∷ word) e =
    let parts = and_parts _ _ e in
    let here : (c == octet) ≡ false = not-true _ parts.0 in
    rw here (rw (cut_nowhere octet word parts.1) refl)

joined : (p : ℕ → Bool) (a b : List ℕ) → list_all p a ≡ true → list_all p b ≡ true → list_all p (a ++ b) ≡ true
joined p a b e h = list_all-append p a b ∙ both_true e h

digit_other : (c : ℕ) → is_ascii_digit c ≡ true → other 64 c ≡ true
digit_other c e = grind (arith, nat_tests)

digits_other : (word : List ℕ) → all_ascii_digits word ≡ true → list_all (other 64) word ≡ true
digits_other [] e = refl
digits_other (c ∷ word) e = let parts = and_parts _ _ e in both_true (digit_other c parts.0) (digits_other word parts.1)

decimal_other : (n : ℕ) → n < 256 → list_all (other 64) (decimal n) ≡ true
decimal_other n small = digits_other (decimal n) (digits-decimal n (omega arith))

dotted_other : (n : ℕ) → n < 256 → list_all (other 64) (dotted_text n) ≡ true
dotted_other n small = joined (other 64) (decimal n) (46 ∷ []) (decimal_other n small) refl

ipv4_other : (octets : List ℕ) → ((i : ℕ) → get_or octets i 0 < 256) → list_all (other 64) (ipv4_text octets) ≡ true
ipv4_other octets fits =
    let a = slice_index octets 0 in let b = slice_index octets 1 in let c = slice_index octets 2 in let d = slice_index octets 3 in
    joined (other 64) (dotted_text a ++ dotted_text b ++ dotted_text c) (decimal d)
    (joined (other 64) (dotted_text a ++ dotted_text b) (dotted_text c) (joined (other 64) (dotted_text a) (dotted_text b) (dotted_other a (fits 0)) (dotted_other b (fits 1))) (dotted_other c (fits 2)))
    (decimal_other d (fits 3))

more_other : (p : ℕ → Bool) → ((d : ℕ) → d < 16 → p (digit_char d) ≡ true) → p 58 ≡ true → (segments : List ℕ) → AllGroups segments → list_all p (more_text segments) ≡ true
more_other p digits colon [] h = refl
more_other p digits colon (s ∷ segments) h = both_true colon (joined p (hex s) (more_text segments) (hex_all p digits s h.0) (more_other p digits colon segments h.1))

groups_other : (p : ℕ → Bool) → ((d : ℕ) → d < 16 → p (digit_char d) ≡ true) → p 58 ≡ true → (segments : List ℕ) → AllGroups segments → list_all p (groups_text segments) ≡ true
groups_other p digits colon [] h = refl
groups_other p digits colon (s ∷ segments) h = joined p (hex s) (more_text segments) (hex_all p digits s h.0) (more_other p digits colon segments h.1)

no_at : (d : ℕ) → d < 16 → other 64 (digit_char d) ≡ true
no_at d h = agree_below_at (λ n. other 64 (digit_char n)) (λ _. true) 16 d refl h

no_dot : (d : ℕ) → d < 16 → other 46 (digit_char d) ≡ true
no_dot d h = agree_below_at (λ n. other 46 (digit_char n)) (λ _. true) 16 d refl h

undotted : (text : List ℕ) → cut_at 46 text ≡ None → ipv4_in text ≡ None
unfolding ipv4_in
undotted text e = rw e refl

-- an address's octets
pub record IsIp (size : ℕ) (octets : List ℕ) : Type 0 where
  pub long : length octets ≡ size
  pub fits : (i : ℕ) → get_or octets i 0 < 256

pub v4_reads : (octets : List ℕ) → IsIp 4 octets → IpReads (V4 octets)
v4_reads octets h = record { value = rw (ipv4_in-ipv4_text octets h.long h.fits) refl; plain = ipv4_other octets h.fits }

pub v6_reads : (octets : List ℕ) → IsIp 16 octets → IpReads (V6 octets)
v6_reads octets h =
    let parts = segments 8 octets (omega (arith, h.long)) h.fits in
    let again = ipv6_again octets h.long h.fits in
    let dot : ipv4_in (ipv6_text octets) ≡ None = undotted (ipv6_text octets) (cut_nowhere 46 (ipv6_text octets) (groups_other (other 46) no_dot refl (segments_of octets) parts.each)) in
    record { value = rw dot (rw (again.0) refl); plain = groups_other (other 64) no_at refl (segments_of octets) parts.each }

pub addr_again : (addr : Addr) → IpReads addr.ip → 0 < addr.port → addr.port < 65536 → addr_in (addr_text addr) ≡ Some addr
unfolding addr_in
addr_again addr h some small =
    rw (cut_behind 64 (ip_text addr.ip) (decimal addr.port) refl h.plain)
    (rw (number_in-decimal 65535 addr.port (omega arith) (omega arith)) (rw (ne_eqb addr.port 0 (λ e. omega arith)) (rw (h.value) refl)))

at_scanned : scanned Plain (64 ∷ []) ≡ Some Plain
unfolding scanned
at_scanned = refl

pub addr_is_word : (addr : Addr) → IsWord (ip_text addr.ip) → addr.port < 2 ^ 64 → IsWord (addr_text addr)
addr_is_word addr ip small =
    let port = number_is_word addr.port small in
    record {
      some = omega (arith, length-append (ip_text addr.ip) (64 ∷ decimal addr.port));
      closed = joined_scanned (ip_text addr.ip) (64 ∷ decimal addr.port) ip.closed (joined_scanned (64 ∷ []) (decimal addr.port) at_scanned port.closed);
    }
