-- Data are read from a text exactly where the text stands for them.
use Rattle.std.proofs.Common.{◌≡◌, ℕ, List, [], ◌∷◌, length, Option, Some, None, Result, Ok, Err, refl, sym, ap, subst, ◌∙◌, inl, inr, arith, eq-eqb, eqb-true}
use Rattle.std.specs.Prelude.{option_map, ◌==◌, codes, IfOk}
use Rattle.std.specs.Str.{bytes_eq}
use Rattle.std.proofs.lemmas.Bool.{cases_Bool}
use Rattle.std.proofs.lemmas.Slice.Eq.{bytes_eq-Decides}
use Rattle.dns_name.specs.Labels.{Labels}
use Rattle.dns_name.specs.Options.{◌>>=◌}
use Rattle.dns_name.specs.Results.{or_fault}
use Rattle.dns_name.specs.ResultLaws.{some_same, or_fault-ok}
use Rattle.hex.specs.Hex.{decode_of}
use Rattle.hex.proofs.HexLemmas.{decode_of-encode_lower}
use Rattle.dns_name.specs.Reading.{ReadsWhatStands}
use Rattle.dns_text.specs.declared.fault.TextFault.{TextFault}
use Rattle.dns_text.specs.declared.fault.TextFault.TheVariants.{BadData}
use Rattle.dns_text.specs.Fault.{Gives}
use Rattle.dns_text.specs.declared.record.Data.{Data}
use Rattle.dns_text.specs.declared.record.Data.TheVariants.{A, Aaaa, One, Mx, Soa, Txt, Srv, Opaque}
use Rattle.dns_text.specs.declared.kind.Form.{Form}
use Rattle.dns_text.specs.declared.kind.Form.TheVariants.{A as FormA, Aaaa as FormAaaa, Name as FormName, Mx as FormMx, Soa as FormSoa, Txt as FormTxt, Srv as FormSrv, Opaque as FormOpaque}
use Rattle.dns_text.specs.Number.{IsNumberText}
use Rattle.dns_text.specs.Word.{AreWords, next_word, unless_more, only_word}
use Rattle.dns_text.specs.Field.{name_at, last_name, number_at, last_number}
use Rattle.dns_text.specs.Ipv4.{ipv4_in}
use Rattle.dns_text.specs.Ipv6.{ipv6_in}
use Rattle.dns_text.specs.Kind.{form_of}
use Rattle.dns_text.specs.String.{strings_in}
use Rattle.dns_text.specs.Opaque.{AreHexWords, IsOpaqueText, ok_or_none, or_nothing, word_or_nothing, octets_of_hex, behind_mark, as_many_as, counted_octets, octets_in}
use Rattle.dns_text.specs.Data.{IsMxText, IsSoaText, IsSrvText, AreDataWords, IsDataText, ReadsData, mx_in, soa_in, srv_in, data_as, data_in, form_in}
use Rattle.dns_text.proofs.OptionLaws.{stepped, some_list}
use Rattle.dns_text.proofs.OpaqueLaws.{no_digits}
use Rattle.dns_text.proofs.FieldReading.{only_found, only_read, number_at_found, name_at_found, last_number_found, last_name_found, number_at_read, name_at_read, last_number_read, last_name_read}
use Rattle.dns_text.proofs.Ipv4Reading.{ipv4_found, ipv4_read}
use Rattle.dns_text.proofs.Ipv6Reading.{ipv6_found, ipv6_read}
use Rattle.dns_text.proofs.StringReading.{strings_in_found, strings_in_read}

-- ---- data of several words

mx_found : ReadsWhatStands → (text : List ℕ) (body : Data) → mx_in text ≡ Some body → (FormMx ≡ form_in body) × AreDataWords text body
unfolding mx_in
mx_found law text body e =
    let p = stepped (number_at 65535 text) _ body e in
    let q = stepped (last_name p.from.1) _ body p.second in
    let same : Mx p.from.0 q.from ≡ body = some_same q.second in
    let number = number_at_found 65535 text p.from p.first in
    let name = last_name_found law p.from.1 q.from q.first in
    subst (λ (d : Data). (FormMx ≡ form_in d) × AreDataWords text d) same (
      refl,
      record { first = number.word; second = name.word; parts = (p.from.1, number.next, name.parts); number = number.is; name = name.is },
    )

mx_read : ReadsWhatStands → (text : List ℕ) (preference : ℕ) (exchange : Labels) → IsMxText text preference exchange → mx_in text ≡ Some (Mx preference exchange)
unfolding mx_in
mx_read law text preference exchange h =
    rw (number_at_read 65535 text h.first h.parts.0 preference h.parts.1 h.number) (rw (last_name_read law h.parts.0 h.second exchange h.parts.2 h.name) refl)

srv_found : ReadsWhatStands → (text : List ℕ) (body : Data) → srv_in text ≡ Some body → (FormSrv ≡ form_in body) × AreDataWords text body
unfolding srv_in
srv_found law text body e =
    let p = stepped (number_at 65535 text) _ body e in
    let q = stepped (number_at 65535 p.from.1) _ body p.second in
    let r = stepped (number_at 65535 q.from.1) _ body q.second in
    let s = stepped (last_name r.from.1) _ body r.second in
    let same : Srv p.from.0 q.from.0 r.from.0 s.from ≡ body = some_same s.second in
    let a = number_at_found 65535 text p.from p.first in
    let b = number_at_found 65535 p.from.1 q.from q.first in
    let c = number_at_found 65535 q.from.1 r.from r.first in
    let d = last_name_found law r.from.1 s.from s.first in
    subst (λ (d : Data). (FormSrv ≡ form_in d) × AreDataWords text d) same (
      refl,
      record {
        first = a.word;
        second = b.word;
        third = c.word;
        fourth = d.word;
        parts = (p.from.1, a.next, (q.from.1, b.next, (r.from.1, c.next, d.parts)));
        priority_number = a.is;
        weight_number = b.is;
        port_number = c.is;
        target_name = d.is;
      },
    )

srv_read : ReadsWhatStands → (text : List ℕ) (priority weight port : ℕ) (target : Labels) → IsSrvText text priority weight port target → srv_in text ≡ Some (Srv priority weight port target)
unfolding srv_in
srv_read law text priority weight port target h =
    let one = h.parts in let two = one.2 in let three = two.2 in
    rw (number_at_read 65535 text h.first one.0 priority one.1 h.priority_number)
    (rw (number_at_read 65535 one.0 h.second two.0 weight two.1 h.weight_number)
    (rw (number_at_read 65535 two.0 h.third three.0 port three.1 h.port_number)
    (rw (last_name_read law three.0 h.fourth target three.2 h.target_name) refl)))

soa_found : ReadsWhatStands → (text : List ℕ) (body : Data) → soa_in text ≡ Some body → (FormSoa ≡ form_in body) × AreDataWords text body
unfolding soa_in
soa_found law text body e =
    let p = stepped (name_at text) _ body e in
    let m = stepped (name_at p.from.1) _ body p.second in
    let s = stepped (number_at 4294967295 m.from.1) _ body m.second in
    let r = stepped (number_at 4294967295 s.from.1) _ body s.second in
    let t = stepped (number_at 4294967295 r.from.1) _ body r.second in
    let x = stepped (number_at 4294967295 t.from.1) _ body t.second in
    let n = stepped (last_number 4294967295 x.from.1) _ body x.second in
    let same : Soa p.from.0 m.from.0 s.from.0 r.from.0 t.from.0 x.from.0 n.from ≡ body = some_same n.second in
    let a = name_at_found law text p.from p.first in
    let b = name_at_found law p.from.1 m.from m.first in
    let c = number_at_found 4294967295 m.from.1 s.from s.first in
    let d = number_at_found 4294967295 s.from.1 r.from r.first in
    let f = number_at_found 4294967295 r.from.1 t.from t.first in
    let g = number_at_found 4294967295 t.from.1 x.from x.first in
    let h = last_number_found 4294967295 x.from.1 n.from n.first in
    subst (λ (d : Data). (FormSoa ≡ form_in d) × AreDataWords text d) same (
      refl,
      record {
        first = a.word;
        second = b.word;
        third = c.word;
        fourth = d.word;
        fifth = f.word;
        sixth = g.word;
        seventh = h.word;
        parts = (p.from.1, a.next, (m.from.1, b.next, (s.from.1, c.next, (r.from.1, d.next, (t.from.1, f.next, (x.from.1, g.next, h.parts))))));
        primary_name = a.is;
        mailbox_name = b.is;
        serial_number = c.is;
        refresh_number = d.is;
        retry_number = f.is;
        expire_number = g.is;
        minimum_number = h.is;
      },
    )

soa_read : ReadsWhatStands → (text : List ℕ) (primary mailbox : Labels) (serial refresh retry expire minimum : ℕ) → IsSoaText text primary mailbox serial refresh retry expire minimum → soa_in text ≡ Some (Soa primary mailbox serial refresh retry expire minimum)
unfolding soa_in
soa_read law text primary mailbox serial refresh retry expire minimum h =
    let one = h.parts in let two = one.2 in let three = two.2 in let four = three.2 in let five = four.2 in let six = five.2 in
    rw (name_at_read law text h.first one.0 primary one.1 h.primary_name)
    (rw (name_at_read law one.0 h.second two.0 mailbox two.1 h.mailbox_name)
    (rw (number_at_read 4294967295 two.0 h.third three.0 serial three.1 h.serial_number)
    (rw (number_at_read 4294967295 three.0 h.fourth four.0 refresh four.1 h.refresh_number)
    (rw (number_at_read 4294967295 four.0 h.fifth five.0 retry five.1 h.retry_number)
    (rw (number_at_read 4294967295 five.0 h.sixth six.0 expire six.1 h.expire_number)
    (rw (last_number_read 4294967295 six.0 h.seventh minimum six.2 h.minimum_number) refl))))))

-- ---- octets by their count

marked_found : (word rest given : List ℕ) → behind_mark word rest ≡ Some given → (word ≡ codes "\\#") × (rest ≡ given)
marked_found word rest given e = elim (cases_Bool (bytes_eq word (codes "\\#"))) [
  | inl mark ↦ let here : Some rest ≡ Some given = sym (rw mark refl) ∙ e in ((bytes_eq-Decides word (codes "\\#")).0 mark, cc)
  | inr other ↦ let none : None ≡ Some given = sym (rw other refl) ∙ e in absurd cc
]

counted_found : (count : ℕ) (octets given : List ℕ) → as_many_as count octets ≡ Some given → (octets ≡ given) × (count ≡ length given)
counted_found count octets given e = elim (cases_Bool (length octets == count)) [
  | inl as_many ↦
      let here : Some octets ≡ Some given = sym (rw as_many refl) ∙ e in
      let same : octets ≡ given = cc in
      (same, sym (eqb-true (length octets) count as_many) ∙ ap length same)
  | inr other ↦ let none : None ≡ Some given = sym (rw other refl) ∙ e in absurd cc
]

-- the word of hexadecimal digits, where there is one
record Hex (text digits : List ℕ) : Type 0 where
  pub words : List (List ℕ)
  pub parts : AreWords text words
  pub hex : (octets : List ℕ) → octets_of_hex digits ≡ Some octets → AreHexWords words octets

none_read : octets_of_hex [] ≡ Some []
none_read = ap ok_or_none (ap decode_of (sym no_digits) ∙ decode_of-encode_lower [] (λ i. omega arith))

no_octets : (octets : List ℕ) → octets_of_hex [] ≡ Some octets → octets ≡ []
no_octets octets e = sym (some_same (sym none_read ∙ e))

unless_no_more : (word : List ℕ) (o : Option (List ℕ × List ℕ)) (given : List ℕ) → unless_more word o ≡ Some given → (o ≡ None) × (word ≡ given)
unless_no_more word None given e = (refl, cc)
unless_no_more word (Some more) given e = absurd cc

hex_found : (text digits : List ℕ) (o : Option (List ℕ × List ℕ)) → next_word text ≡ o → or_nothing o ≡ Some digits → Hex text digits
hex_found text digits None at e =
    let same : [] ≡ digits = cc in
    record { words = []; parts = at; hex = λ octets read. no_octets octets (ap octets_of_hex same ∙ read) }
hex_found text digits (Some first) at e =
    let one = unless_no_more first.0 (next_word first.1) digits e in
    record { words = first.0 ∷ []; parts = (first.1, at, one.0); hex = λ octets read. ap octets_of_hex one.1 ∙ read }

octets_in_found : (text octets : List ℕ) → octets_in text ≡ Some octets → IsOpaqueText text octets
unfolding octets_in
octets_in_found text octets e =
    let p = stepped (next_word text) _ octets e in
    let q = stepped (behind_mark p.from.0 p.from.1) _ octets p.second in
    let r = stepped (number_at 65535 q.from) _ octets q.second in
    let s = stepped (word_or_nothing r.from.1) _ octets r.second in
    let t = stepped (octets_of_hex s.from) _ octets s.second in
    let mark = marked_found p.from.0 p.from.1 q.from q.first in
    let number = number_at_found 65535 q.from r.from r.first in
    let digits = hex_found r.from.1 s.from (next_word r.from.1) refl s.first in
    let many = counted_found r.from.0 t.from octets t.second in
    let start : next_word text ≡ Some (codes "\\#", q.from) = p.first ∙ ap (λ (w : List ℕ). let o : Option (List ℕ × List ℕ) = Some (w, p.from.1) in o) mark.0 ∙ ap (λ (w : List ℕ). let o : Option (List ℕ × List ℕ) = Some (codes "\\#", w) in o) mark.1 in
    record {
      count = number.word;
      digits = digits.words;
      parts = (q.from, start, (r.from.1, number.next, digits.parts));
      number = subst (IsNumberText 65535 number.word) many.1 number.is;
      hex = digits.hex octets (t.first ∙ some_list _ _ many.0);
    }

hex_read : (text : List ℕ) (words : List (List ℕ)) (octets : List ℕ) → AreWords text words → AreHexWords words octets → (word_or_nothing text >>= λ digits. counted_octets (length octets) digits) ≡ Some octets
hex_read text [] octets parts none = rw parts (rw none (ap (λ (o : Option (List ℕ)). o >>= as_many_as 0) none_read))
hex_read text (digits ∷ []) octets parts read = rw parts.1 (rw parts.2 (rw read (rw (eq-eqb (length octets) (length octets) refl) refl)))
hex_read text (digits ∷ more ∷ words) octets parts none = absurd none

octets_in_read : (text octets : List ℕ) → IsOpaqueText text octets → octets_in text ≡ Some octets
unfolding octets_in
octets_in_read text octets h =
    let one = h.parts in let two = one.2 in
    rw one.1 (rw (number_at_read 65535 one.0 h.count two.0 (length octets) two.1 h.number) (hex_read two.0 h.digits octets two.2 h.hex))

-- ---- data of every form

record Mapped {X : Type 0} (o : Option X) (f : X → Data) (body : Data) : Type 0 where
  pub from : X
  pub found : o ≡ Some from
  pub made : f from ≡ body

mapped : {X : Type 0} (o : Option X) (f : X → Data) (body : Data) → option_map f o ≡ Some body → Mapped o f body
mapped None f body e = absurd cc
mapped (Some x) f body e = record { from = x; found = refl; made = cc }

data_found : ReadsWhatStands → (form : Form) (text : List ℕ) (body : Data) → data_as form text ≡ Some body → (form ≡ form_in body) × AreDataWords text body
unfolding data_as
data_found law FormA text body e =
    let p = stepped (only_word text) _ body e in
    let m = mapped (ipv4_in p.from) (λ octets. A octets) body p.second in
    subst (λ (d : Data). (FormA ≡ form_in d) × AreDataWords text d) m.made (refl, (p.from, only_found text p.from p.first, ipv4_found p.from m.from m.found))
data_found law FormAaaa text body e =
    let p = stepped (only_word text) _ body e in
    let m = mapped (ipv6_in p.from) (λ octets. Aaaa octets) body p.second in
    subst (λ (d : Data). (FormAaaa ≡ form_in d) × AreDataWords text d) m.made (refl, (p.from, only_found text p.from p.first, ipv6_found p.from m.from m.found))
data_found law FormName text body e =
    let m = mapped (last_name text) (λ name. One name) body e in
    let name = last_name_found law text m.from m.found in
    subst (λ (d : Data). (FormName ≡ form_in d) × AreDataWords text d) m.made (refl, (name.word, name.parts, name.is))
data_found law FormMx text body e = mx_found law text body e
data_found law FormSoa text body e = soa_found law text body e
data_found law FormSrv text body e = srv_found law text body e
data_found law FormOpaque text body e =
    let m = mapped (octets_in text) (λ octets. Opaque octets) body e in
    subst (λ (d : Data). (FormOpaque ≡ form_in d) × AreDataWords text d) m.made (refl, octets_in_found text m.from m.found)
data_found law FormTxt text body e =
    let m = mapped (strings_in text) (λ strings. Txt strings) body e in
    subst (λ (d : Data). (FormTxt ≡ form_in d) × AreDataWords text d) m.made (refl, strings_in_found text m.from m.found)

data_read : ReadsWhatStands → (text : List ℕ) (body : Data) → AreDataWords text body → data_as (form_in body) text ≡ Some body
unfolding data_as
data_read law text (A octets) h = rw (only_read text h.0 h.1) (rw (ipv4_read h.0 octets h.2) refl)
data_read law text (Aaaa octets) h = rw (only_read text h.0 h.1) (rw (ipv6_read h.0 octets h.2) refl)
data_read law text (One name) h = rw (last_name_read law text h.0 name h.1 h.2) refl
data_read law text (Mx preference exchange) h = mx_read law text preference exchange h
data_read law text (Soa primary mailbox serial refresh retry expire minimum) h = soa_read law text primary mailbox serial refresh retry expire minimum h
data_read law text (Srv priority weight port target) h = srv_read law text priority weight port target h
data_read law text (Opaque octets) h = rw (octets_in_read text octets h) refl
data_read law text (Txt strings) h = rw (strings_in_read text strings h) refl

pub data_in_found : ReadsWhatStands → (kind : ℕ) (text : List ℕ) (body : Data) → data_in kind text ≡ Some body → IsDataText kind text body
data_in_found law kind text body e = let found = data_found law (form_of kind) text body e in record { form = found.0; words = found.1 }

pub data_in_read : ReadsWhatStands → (kind : ℕ) (text : List ℕ) (body : Data) → IsDataText kind text body → data_in kind text ≡ Some body
data_in_read law kind text body h = ap (λ (form : Form). data_as form text) h.form ∙ data_read law text body h.words

pub reads_data : ReadsWhatStands → ReadsData
reads_data law kind text body = (data_in_found law kind text body, data_in_read law kind text body)

-- ---- what the reader says

pub data_stands : ReadsData → (kind : ℕ) (text : List ℕ) (r : Result Data TextFault) → Gives r (or_fault BadData (data_in kind text)) → IfOk r (IsDataText kind text)
data_stands law kind text (Ok body) given = (law kind text body).0 (or_fault-ok BadData (data_in kind text) body given)
data_stands law kind text (Err fault) given = tt

pub data_every : ReadsData → (kind : ℕ) (text : List ℕ) (r : Result Data TextFault) → Gives r (or_fault BadData (data_in kind text)) → (body : Data) → IsDataText kind text body → Gives r (Ok body)
data_every law kind text r given body h = subst (λ (said : Result Data TextFault). Gives r said) (ap (or_fault BadData) ((law kind text body).1 h)) given
