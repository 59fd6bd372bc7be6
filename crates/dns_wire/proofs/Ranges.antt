-- What octets spell is well formed.
use Rattle.std.proofs.Common.{◌≡◌, ℕ, ◌+◌, ◌^◌, ◌<◌, List, [], ◌∷◌, length, take, drop, Option, Some, None, refl, ap, inl, inr, eqb, ltb, arith, length-drop}
use Rattle.std.specs.Prelude.{slice_get, Result, Ok, Err, IfOk}
use Rattle.std.specs.List.{AllByRecursion, flat_map}
use Rattle.std.proofs.lemmas.Bool.{cases_Bool, eqb-false, ltb-true}
use Rattle.std.proofs.lemmas.List.{length-take}
use Rattle.dns_name.specs.Labels.{Labels, IsLabel, IsName, with_length}
use Rattle.dns_name.specs.ListLaws.{all_weaker, all_split, all-take, all-drop, octet_of}
use Rattle.dns_name.specs.Octets.{lower_label}
use Rattle.dns_text.specs.declared.record.Data.{Data}
use Rattle.dns_text.specs.Data.{IsOfForm}
use Rattle.dns_text.specs.declared.record.Question.{Question}
use Rattle.dns_text.specs.declared.record.Record.{Record}
use Rattle.dns_text.specs.declared.kind.Form.{Form}
use Rattle.dns_wire.specs.declared.fault.WireFault.{WireFault}
use Rattle.dns_wire.specs.declared.message.Classed.{Classed}
use Rattle.dns_wire.specs.declared.message.Message.{Message}
use Rattle.dns_wire.specs.declared.read.place.Next.TheVariants.{Finish, Label, Reserved}
use Rattle.dns_wire.specs.Read.Header.{head_in}
use Rattle.dns_wire.specs.Read.Message.{QuestionsAt, RecordsAt, MessageAt, SpelledMessage}
use Rattle.dns_wire.specs.Read.Place.{next_by, pointer_by}
use Rattle.dns_wire.specs.Read.Name.{NameAt, finish, label, pointer, SpelledIn}
use Rattle.dns_wire.specs.Read.Number.{u16_at, u32_at}
use Rattle.dns_wire.specs.Read.Question.{QuestionAt}
use Rattle.dns_wire.specs.Read.Rdata.{DataAt, ipv4, ipv6, one_name, mail, start, one_or_more, service, unknown}
use Rattle.dns_wire.specs.Read.Record.{ttl_of, data_begin, RecordAt}
use Rattle.dns_wire.specs.Read.Section.{no_items, one_more}
use Rattle.dns_text.specs.String.{AreOctets}
use Rattle.dns_wire.specs.WellFormed.{IsHead, IsQuestion, IsData, HasItsForm, IsRecord, IsWellFormed, HasForms}

-- ---- strings

strings_range : (strings : List (List ℕ)) → AreOctets (flat_map with_length strings) → AllByRecursion AreOctets strings
strings_range [] h = tt
strings_range (string ∷ strings) h =
    let parts = all_split (λ b. b < 256) (with_length string) (flat_map with_length strings) h in
    (parts.0.1, strings_range strings parts.1)

strings_short : (strings : List (List ℕ)) → AreOctets (flat_map with_length strings) → AllByRecursion (λ octets. length octets < 256) strings
strings_short [] h = tt
strings_short (string ∷ strings) h =
    let parts = all_split (λ b. b < 256) (with_length string) (flat_map with_length strings) h in
    (parts.0.0, strings_short strings parts.1)

-- ---- numbers

pub u16_range : (m : List ℕ) (at : ℕ) → AreOctets m → u16_at m at < 2 ^ 16
unfolding u16_at
u16_range m at h =
    let fits = octet_of (take 2 (drop at m)) (all-take (λ b. b < 256) 2 (drop at m) (all-drop (λ b. b < 256) at m h)) in
    omega (arith, fits 0, fits 1)

u32_range : (m : List ℕ) (at : ℕ) → AreOctets m → u32_at m at < 2 ^ 32
unfolding u32_at
u32_range m at h =
    let fits = octet_of (take 4 (drop at m)) (all-take (λ b. b < 256) 4 (drop at m) (all-drop (λ b. b < 256) at m h)) in
    omega (arith, fits 0, fits 1, fits 2, fits 3)

ttl_range : (n : ℕ) → ttl_of n < 2 ^ 31
ttl_range n = elim (cases_Bool (ltb n 2147483648)) [
  | inl small ↦ rw small (let s : n < 2147483648 = ltb-true n 2147483648 small in omega arith)
  | inr large ↦ rw large (omega arith)
]

-- ---- names

label_length : (m : List ℕ) (at n : ℕ) (o : Option ℕ) → next_by m at o ≡ Label n → (0 < n) × (n < 64)
label_length m at n None h = absurd cc
label_length m at n (Some k) h =
    elim (cases_Bool (eqb k 0)) [
      | inl none ↦ absurd (let f : Finish ≡ Label n = (rw none at h) in cc)
      | inr some ↦ elim (cases_Bool (ltb k 64)) [
        | inl small ↦
            let f : Label k ≡ Label n = rw (some, small) at h in
            let e : k ≡ n = cc in
            let positive = eqb-false k 0 some in
            (omega arith, omega (arith, ltb-true k 64 small))
        | inr large ↦ elim (cases_Bool (ltb k 192)) [
          | inl middle ↦ absurd (let f : Reserved ≡ Label n = (rw (some, large, middle) at h) in cc)
          | inr high ↦ no_label k n (slice_get m (at + 1)) (rw (some, large, high) at h)
        ]
      ]
    ]
  where
    no_label : (k n : ℕ) (o : Option ℕ) → pointer_by k o ≡ Label n → (0 < n) × (n < 64)
    no_label k n None h = absurd cc
    no_label k n (Some low) h = absurd cc

labels_range : {m front : List ℕ} {at run after : ℕ} {labels : Labels} → AreOctets m → AreOctets front → NameAt m front at run after labels → AllByRecursion IsLabel labels
labels_range octets part (finish here is) = tt
labels_range {front = front} octets part (label {at = at} {n = n} here inside rest) =
    let size = label_length front at n (slice_get front at) here in
    let text = take n (drop (at + 1) front) in
    let long : length text ≡ n = omega (arith, length-take n (drop (at + 1) front), length-drop (at + 1) front) in
    (lower_label text (octet_of text (all-take (λ b. b < 256) n (drop (at + 1) front) (all-drop (λ b. b < 256) (at + 1) front part))) (omega (arith, long, size.0)) (omega (arith, long, size.1)), labels_range octets part rest)
labels_range octets part (pointer here before is rest) = labels_range octets octets rest

pub name_range : {m front : List ℕ} {at after : ℕ} {labels : Labels} → AreOctets m → AreOctets front → SpelledIn m front at after labels → IsName labels
name_range octets part h = record { each = labels_range octets part h.stands; short = omega (arith, h.short) }

-- ---- questions and records

question_range : {m : List ℕ} {at after : ℕ} {q : Classed Question} → AreOctets m → QuestionAt m at q after → IsQuestion q
question_range {m} octets h = record {
  owner = name_range octets octets h.owner;
  kind = rw h.kind (u16_range m h.fixed octets);
  class = rw h.class (u16_range m (h.fixed + 2) octets);
}

-- RDATA has as many octets as 16 bits can count
data_range : {m front : List ℕ} {at : ℕ} {form : Form} {body : Data} → AreOctets m → AreOctets front → length front < at + 65536 → DataAt m front at form body → IsOfForm form body × IsData body
data_range {front = front} {at = at} octets part few (ipv4 is four) = (record { same = refl; sized = four }, rw (← is) (all-drop (λ b. b < 256) at front part))
data_range {front = front} {at = at} octets part few (ipv6 is sixteen) = (record { same = refl; sized = sixteen }, rw (← is) (all-drop (λ b. b < 256) at front part))
data_range octets part few (one_name h) = (record { same = refl; sized = tt }, name_range octets part h)
data_range {front = front} {at = at} octets part few (mail room preference h) =
    (record { same = refl; sized = tt }, (rw preference (u16_range front at part), name_range octets part h))
data_range {front = front} octets part few (start {numbers = n} h k end serial refresh retry expire minimum) =
    (record { same = refl; sized = tt }, (name_range octets part h, name_range octets part k, rw serial (u32_range front n part), rw refresh (u32_range front (n + 4) part), rw retry (u32_range front (n + 8) part), rw expire (u32_range front (n + 12) part), rw minimum (u32_range front (n + 16) part)))
data_range {front = front} {at = at} octets part few (one_or_more {string = string} {strings = strings} is) =
    let all = rw is at (all-drop (λ b. b < 256) at front part) in
    (record { same = refl; sized = (omega arith, strings_short (string ∷ strings) all) }, strings_range (string ∷ strings) all)
data_range {front = front} {at = at} octets part few (service room priority weight port h) =
    (record { same = refl; sized = tt }, (rw priority (u16_range front at part), rw weight (u16_range front (at + 2) part), rw port (u16_range front (at + 4) part), name_range octets part h))
data_range {front = front} {at = at} octets part few (unknown is) =
    (record { same = refl; sized = omega (arith, ap length is, length-drop at front) }, rw (← is) (all-drop (λ b. b < 256) at front part))

record_range : {m : List ℕ} {at after : ℕ} {r : Classed Record} → AreOctets m → RecordAt m at r after → IsRecord r
record_range {m} {after = after} octets h =
    let few : length (take after m) < data_begin h.fixed + 65536 = omega (arith, h.ends, u16_range m (h.fixed + 8) octets, length-take after m) in
    let body = data_range octets (all-take (λ b. b < 256) after m octets) few h.body in
    record {
      owner = name_range octets octets h.owner;
      kind = rw h.kind (u16_range m h.fixed octets);
      class = rw h.class (u16_range m (h.fixed + 2) octets);
      ttl = rw h.ttl (ttl_range (u32_at m (h.fixed + 4)));
      form = body.0;
      data_fits = body.1;
    }

questions_range : {m : List ℕ} {count at after : ℕ} {items : List (Classed Question)} → AreOctets m → QuestionsAt m count at items after → AllByRecursion IsQuestion items
questions_range octets (no_items is) = tt
questions_range octets (one_more one rest) = (question_range octets one, questions_range octets rest)

records_range : {m : List ℕ} {count at after : ℕ} {items : List (Classed Record)} → AreOctets m → RecordsAt m count at items after → AllByRecursion IsRecord items
records_range octets (no_items is) = tt
records_range octets (one_more one rest) = (record_range octets one, records_range octets rest)

-- ---- messages

pub head_range : (m : List ℕ) → AreOctets m → IsHead (head_in m)
head_range m octets = record { id = u16_range m 0 octets; opcode = omega arith; z = omega arith; rcode = omega arith }

pub message_range : {m : List ℕ} {v : Message} {after : ℕ} → AreOctets m → MessageAt m v after → IsWellFormed v
message_range {m} octets h = record {
  head = rw h.head (head_range m octets);
  questions = questions_range octets h.questions;
  answer = records_range octets h.answer;
  authority = records_range octets h.authority;
  additional = records_range octets h.additional;
}

pub answer_well_formed : (m : List ℕ) (r : Result Message WireFault) → AreOctets m → IfOk r (λ v. SpelledMessage m v) → IfOk r (λ v. IsWellFormed v)
answer_well_formed m (Ok v) octets h = message_range octets h
answer_well_formed m (Err fault) octets h = tt

pub answer_forms : (r : Result Message WireFault) → IfOk r IsWellFormed → IfOk r HasForms
answer_forms (Ok v) h = record {
  answer = all_weaker IsRecord HasItsForm (λ r fits. fits.form) v.answer h.answer;
  authority = all_weaker IsRecord HasItsForm (λ r fits. fits.form) v.authority h.authority;
  additional = all_weaker IsRecord HasItsForm (λ r fits. fits.form) v.additional h.additional;
}
answer_forms (Err fault) h = tt
