-- Data that is written is read back.
use Rattle.std.proofs.Common.{◌≡◌, ℕ, ◌<◌, ◌^◌, List, ◌∷◌, ◌++◌, length, get_or, Some, refl, ap, ◌∙◌, arith, append_assoc}
use Rattle.std.specs.Prelude.{decimal, option_map, slice_index}
use Rattle.dns_text.specs.declared.record.Data.TheVariants.{A, Aaaa, One, Mx, Soa, Txt, Srv, Opaque}
use Rattle.dns_text.specs.declared.kind.Form.{Form}
use Rattle.dns_text.specs.declared.kind.Form.TheVariants.{A as FormA, Aaaa as FormAaaa, Name as FormName, Mx as FormMx, Soa as FormSoa, Txt as FormTxt, Srv as FormSrv, Opaque as FormOpaque}
use Rattle.dns_name.specs.Labels.{Labels, IsName}
use Rattle.dns_name.specs.Text.{text_of}
use Rattle.dns_text.specs.Kind.{by_number, form_of}
use Rattle.dns_text.specs.Data.{mx_in, soa_in, srv_in, data_as, data_in, data_text, HasForm}
use Rattle.dns_text.specs.Ipv4.{ipv4_text}
use Rattle.dns_text.specs.Ipv6.{ipv6_text}
use Rattle.dns_text.proofs.WordLaws.{only_word-whole}
use Rattle.dns_text.proofs.Ipv4Laws.{ipv4_in-ipv4_text, ipv4_is_word}
use Rattle.dns_text.proofs.FieldLaws.{name_at-text_of, last_name-text_of, number_at-decimal, last_number-decimal}
use Rattle.std.specs.List.{AllByRecursion}
use Rattle.dns_text.specs.Opaque.{octets_in}
use Rattle.dns_text.proofs.OpaqueLaws.{octets_again}
use Rattle.dns_text.specs.Strings.{IsString}
use Rattle.dns_text.proofs.StringLaws.{strings_again, strings_in-blank}
use Rattle.dns_text.proofs.Ipv6Laws.{ipv6_again}

-- ---- each form

pub a_again : (kind : ℕ) (octets : List ℕ) → ((i : ℕ) → get_or octets i 0 < 256) → HasForm kind (A octets) → data_in kind (data_text (A octets)) ≡ Some (A octets)
unfolding data_as data_text
a_again kind octets fits h =
    rw h.same (rw (only_word-whole (ipv4_text octets) (ipv4_is_word octets fits)) (rw (ipv4_in-ipv4_text octets h.sized fits) refl))

pub aaaa_again : (kind : ℕ) (octets : List ℕ) → ((i : ℕ) → get_or octets i 0 < 256) → HasForm kind (Aaaa octets) → data_in kind (data_text (Aaaa octets)) ≡ Some (Aaaa octets)
unfolding data_as data_text
aaaa_again kind octets fits h =
    let again = ipv6_again octets h.sized fits in
    rw h.same (rw (only_word-whole (ipv6_text octets) again.1) (rw (again.0) refl))

pub one_again : (kind : ℕ) (name : Labels) → IsName name → HasForm kind (One name) → data_in kind (data_text (One name)) ≡ Some (One name)
unfolding data_as data_text
one_again kind name is_name h = rw h.same (rw (last_name-text_of name is_name) refl)

pub mx_again : (kind preference : ℕ) (exchange : Labels) → preference < 2 ^ 16 → IsName exchange → HasForm kind (Mx preference exchange) → data_in kind (data_text (Mx preference exchange)) ≡ Some (Mx preference exchange)
unfolding data_as data_text mx_in
mx_again kind preference exchange small is_name h =
    rw h.same (rw (number_at-decimal 65535 preference (32 ∷ text_of exchange) (omega arith) (omega arith) refl) (rw (last_name-text_of exchange is_name) refl))

-- words with a blank between them
abbrev then_word : List ℕ → List ℕ → List ℕ
then_word a b = a ++ 32 ∷ b

regrouped : (a b c : List ℕ) → then_word (then_word a b) c ≡ then_word a (then_word b c)
regrouped a b c = append_assoc a (32 ∷ b) (32 ∷ c)

seven_words : (a b c d e f g : List ℕ) → then_word a b ++ then_word (then_word (then_word (then_word (32 ∷ c) d) e) f) g ≡ then_word a (then_word b (then_word c (then_word d (then_word e (then_word f g)))))
seven_words a b c d e f g =
    let first : List ℕ = 32 ∷ c in
    let numbers : then_word (then_word (then_word (then_word first d) e) f) g ≡ then_word first (then_word d (then_word e (then_word f g))) =
    regrouped (then_word (then_word first d) e) f g ∙ regrouped (then_word first d) e (then_word f g) ∙ regrouped first d (then_word e (then_word f g)) in
    ap (λ (x : List ℕ). then_word a b ++ x) numbers ∙ regrouped a b (then_word c (then_word d (then_word e (then_word f g))))

pub soa_again : (kind : ℕ) (primary mailbox : Labels) (serial refresh retry expire minimum : ℕ) → IsName primary → IsName mailbox → serial < 2 ^ 32 → refresh < 2 ^ 32 → retry < 2 ^ 32 → expire < 2 ^ 32 → minimum < 2 ^ 32 → HasForm kind (Soa primary mailbox serial refresh retry expire minimum) → data_in kind (data_text (Soa primary mailbox serial refresh retry expire minimum)) ≡ Some (Soa primary mailbox serial refresh retry expire minimum)
unfolding data_as data_text soa_in
soa_again kind primary mailbox serial refresh retry expire minimum p m s1 s2 s3 s4 s5 h =
    let r5 : List ℕ = 32 ∷ decimal minimum in
    let r4 : List ℕ = 32 ∷ (decimal expire ++ r5) in
    let r3 : List ℕ = 32 ∷ (decimal retry ++ r4) in
    let r2 : List ℕ = 32 ∷ (decimal refresh ++ r3) in
    let r1 : List ℕ = 32 ∷ (decimal serial ++ r2) in
    let r0 : List ℕ = 32 ∷ (text_of mailbox ++ r1) in
    let text : data_text (Soa primary mailbox serial refresh retry expire minimum) ≡ text_of primary ++ r0 = seven_words (text_of primary) (text_of mailbox) (decimal serial) (decimal refresh) (decimal retry) (decimal expire) (decimal minimum) in
    rw h.same (rw text
    (rw (name_at-text_of primary r0 p refl) (rw (name_at-text_of mailbox r1 m refl)
    (rw (number_at-decimal 4294967295 serial r2 (omega arith) (omega arith) refl)
    (rw (number_at-decimal 4294967295 refresh r3 (omega arith) (omega arith) refl)
    (rw (number_at-decimal 4294967295 retry r4 (omega arith) (omega arith) refl)
    (rw (number_at-decimal 4294967295 expire r5 (omega arith) (omega arith) refl)
    (rw (last_number-decimal 4294967295 minimum (omega arith) (omega arith)) refl))))))))

pub srv_again : (kind priority weight port : ℕ) (target : Labels) → priority < 2 ^ 16 → weight < 2 ^ 16 → port < 2 ^ 16 → IsName target → HasForm kind (Srv priority weight port target) → data_in kind (data_text (Srv priority weight port target)) ≡ Some (Srv priority weight port target)
unfolding data_as data_text srv_in
srv_again kind priority weight port target s1 s2 s3 is_name h =
    let r2 : List ℕ = 32 ∷ text_of target in
    let r1 : List ℕ = 32 ∷ (decimal port ++ r2) in
    let r0 : List ℕ = 32 ∷ (decimal weight ++ r1) in
    let text : data_text (Srv priority weight port target) ≡ decimal priority ++ r0 = simp append_assoc in
    rw h.same (rw text
    (rw (number_at-decimal 65535 priority r0 (omega arith) (omega arith) refl)
    (rw (number_at-decimal 65535 weight r1 (omega arith) (omega arith) refl)
    (rw (number_at-decimal 65535 port r2 (omega arith) (omega arith) refl)
    (rw (last_name-text_of target is_name) refl)))))

pub opaque_again : (kind : ℕ) (octets : List ℕ) → ((i : ℕ) → slice_index octets i < 256) → HasForm kind (Opaque octets) → data_in kind (data_text (Opaque octets)) ≡ Some (Opaque octets)
unfolding data_as data_text
opaque_again kind octets fits h = rw h.same (rw (octets_again octets h.sized fits) refl)

pub txt_again : (kind : ℕ) (strings : List (List ℕ)) → AllByRecursion IsString strings → HasForm kind (Txt strings) → data_in kind (data_text (Txt strings)) ≡ Some (Txt strings)
unfolding data_as data_text
txt_again kind strings each h = rw h.same (rw (strings_again strings h.sized.0 each) refl)

-- a blank before data
data_as-blank : (form : Form) (text : List ℕ) → data_as form (32 ∷ text) ≡ data_as form text
unfolding data_as mx_in soa_in srv_in octets_in
data_as-blank FormA text = refl
data_as-blank FormAaaa text = refl
data_as-blank FormName text = refl
data_as-blank FormMx text = refl
data_as-blank FormSoa text = refl
data_as-blank FormSrv text = refl
data_as-blank FormOpaque text = refl
data_as-blank FormTxt text = ap (option_map (λ strings. Txt strings)) (strings_in-blank text)

pub data_in-blank : (kind : ℕ) (text : List ℕ) → data_in kind (32 ∷ text) ≡ data_in kind text
data_in-blank kind text = data_as-blank (form_of kind) text

-- an IPv4 address has the form of its type
pub a_has_form : (octets : List ℕ) → length octets ≡ 4 → HasForm 1 (A octets)
unfolding by_number
a_has_form octets four = record { same = refl; sized = four }
