-- Questions and records that are written at a place of a message are there.
use Rattle.std.proofs.Common.{◌≡◌, ℕ, ◌+◌, ◌<◌, ◌≤◌, List, [], ◌∷◌, ◌++◌, length, take, map, Option, Some, None, refl, sym, ap, subst, ◌∙◌, append_assoc, inl, inr, arith, length-append}
use Rattle.std.specs.Char.{to_ascii_lowercase}
use Rattle.std.specs.List.{flat_map, AllByRecursion}
use Rattle.std.proofs.lemmas.Bool.{cases_Bool, lt-ltb}
use Rattle.std.proofs.lemmas.List.{length-take-le, take_at, drop-take}
use Rattle.dns_name.specs.Labels.{Labels, IsName}
use Rattle.dns_name.specs.Order.{name_eq, name_eq_exact}
use Rattle.dns_text.specs.declared.record.Question.{Question}
use Rattle.dns_text.specs.declared.record.Record.{Record}
use Rattle.dns_wire.specs.declared.message.Classed.{Classed}
use Rattle.dns_wire.specs.declared.read.place.Next.TheVariants.{Pointer}
use Rattle.dns_wire.specs.Read.Message.{QuestionsAt, RecordsAt}
use Rattle.dns_wire.specs.Read.Place.{next_at}
use Rattle.dns_wire.specs.Read.Name.{NameAt, pointer, SpelledName}
use Rattle.dns_wire.specs.Read.Question.{QuestionAt}
use Rattle.dns_wire.specs.Read.Record.{RecordAt, ttl_of}
use Rattle.dns_wire.specs.Read.Section.{no_items, one_more}
use Rattle.dns_wire.specs.WellFormed.{IsQuestion, IsRecord}
use Rattle.dns_wire.specs.Write.Number.{u16_octets, u32_octets}
use Rattle.dns_wire.specs.Write.Name.{name_octets, owner_octets}
use Rattle.dns_wire.specs.Write.Question.{question_octets}
use Rattle.dns_wire.specs.Write.Rdata.{data_octets}
use Rattle.dns_wire.specs.Write.Record.{behind_owner_octets, record_octets, records_octets}
use Rattle.dns_wire.proofs.WrittenSize.{data_of_record}
use Rattle.dns_wire.proofs.WrittenName.{StandsAt, stands_within, stands_first, stands_second, octet_at, lower_name, cased_name, whole_name}
use Rattle.dns_wire.proofs.WrittenData.{EndsAt, u16_written, u16_behind, u32_behind, data_written}

-- ---- questions

-- a question whose name's octets are these in lower case
pub cased_question : (m : List ℕ) (at : ℕ) (q : Classed Question) (name : List ℕ) → IsQuestion q → map to_ascii_lowercase name ≡ name_octets q.item.owner → StandsAt m at (name ++ (u16_octets q.item.kind ++ u16_octets q.class)) → QuestionAt m at q (at + length name + 4)
cased_question m at q name fits is h =
    let numbers : List ℕ = u16_octets q.item.kind ++ u16_octets q.class in
    let behind = stands_second m at name numbers h in
    let fixed : ℕ = at + length name in
    record {
      fixed = fixed;
      owner = cased_name m m at q.item.owner name fits.owner is (stands_first m at name numbers h);
      kind = u16_written m fixed q.item.kind fits.kind (stands_first m fixed (u16_octets q.item.kind) (u16_octets q.class) behind);
      class = u16_behind m fixed (u16_octets q.item.kind) q.class [] fits.class behind;
      ends = refl;
      within = stands_within m fixed numbers (omega arith) behind;
    }

pub questions_written : (m : List ℕ) (at : ℕ) (questions : List (Classed Question)) → AllByRecursion IsQuestion questions → StandsAt m at (flat_map question_octets questions) → QuestionsAt m (length questions) at questions (at + length (flat_map question_octets questions))
questions_written m at [] fits h = no_items (omega arith)
questions_written m at (q ∷ questions) fits h =
    let name : List ℕ = name_octets q.item.owner in
    let more : List ℕ = flat_map question_octets questions in
    let next : ℕ = at + length name + 4 in
    let parts : question_octets q ≡ name ++ (u16_octets q.item.kind ++ u16_octets q.class) = append_assoc name (u16_octets q.item.kind) (u16_octets q.class) in
    let here = cased_question m at q name fits.0 (lower_name q.item.owner fits.0.owner.each) (subst (StandsAt m at) parts (stands_first m at (question_octets q) more h)) in
    let place : at + length (question_octets q) ≡ next = omega (arith, ap length parts, length-append name (u16_octets q.item.kind ++ u16_octets q.class)) in
    let tail = questions_written m next questions fits.1 (subst (λ (i : ℕ). StandsAt m i more) place (stands_second m at (question_octets q) more h)) in
    let end : next + length more ≡ at + length (question_octets q ++ more) = omega (arith, length-append (question_octets q) more) in
    one_more here (subst (λ (e : ℕ). QuestionsAt m (length questions) next questions e) end tail)

-- ---- records

-- The first question's name, if there is one, is after the header, and the place is after it.
pub data FirstAt (m : List ℕ) (at : ℕ) : Option Labels → Type 0 where
  no_question : FirstAt m at None
  first : {name : Labels} {end : ℕ} → 12 < at → NameAt m m 12 12 end name → FirstAt m at (Some name)

pub later : {m : List ℕ} {at next : ℕ} {name : Option Labels} → at ≤ next → FirstAt m at name → FirstAt m next name
later h no_question = no_question
later h (first behind stands) = first (omega arith) stands

pointer_here : (m : List ℕ) (at : ℕ) → StandsAt m at (192 ∷ 12 ∷ []) → next_at m at ≡ Pointer 12
pointer_here m at h =
    let low = octet_at m (at + 1) 12 [] (stands_second m at (192 ∷ []) (12 ∷ []) h) in
    rw (octet_at m at 192 (12 ∷ []) h) (rw low refl)

pub owner_written : (m : List ℕ) (at : ℕ) (question : Option Labels) (owner : Labels) → IsName owner → FirstAt m at question → StandsAt m at (owner_octets question owner) → SpelledName m at (at + length (owner_octets question owner)) owner
owner_written m at None owner fits named h = whole_name m m at owner fits h
owner_written m at (Some name) owner fits (first {end = end} behind stands) h =
    elim (cases_Bool (name_eq name owner)) [
      | inl same ↦
          let is : owner_octets (Some name) owner ≡ 192 ∷ 12 ∷ [] = rw same refl in
          let there : NameAt m m 12 12 end owner = subst (λ (n : Labels). NameAt m m 12 12 end n) (name_eq_exact name owner same) stands in
          rw is (record { stands = pointer (pointer_here m at (subst (StandsAt m at) is h)) behind refl there; short = omega (arith, fits.short) })
      | inr other ↦
          let is : owner_octets (Some name) owner ≡ name_octets owner = rw other refl in
          rw is (whole_name m m at owner fits (subst (StandsAt m at) is h))
    ]

-- what is at a place, as the end of the front that ends with it
front_ends : (m : List ℕ) (at : ℕ) (octets : List ℕ) → at + length octets ≤ length m → StandsAt m at octets → EndsAt (take (at + length octets) m) at octets
front_ends m at octets within h = record {
  are = drop-take at (length octets) m ∙ ap (take (length octets)) h.1 ∙ take_at octets h.0 (length octets) refl;
  long = length-take-le (at + length octets) m within;
}

pub record_written : (m : List ℕ) (at : ℕ) (question : Option Labels) (r : Classed Record) → IsRecord r → length (data_octets r.item.body) ≤ 65535 → FirstAt m at question → StandsAt m at (record_octets question r) → RecordAt m at r (at + length (record_octets question r))
record_written m at question r fits short named h =
    let owner : List ℕ = owner_octets question r.item.owner in
    let body : List ℕ = data_octets r.item.body in
    let kind : List ℕ = u16_octets r.item.kind in
    let class : List ℕ = u16_octets r.class in
    let ttl : List ℕ = u32_octets r.item.ttl in
    let len : List ℕ = u16_octets (length body) in
    let fixed : ℕ = at + length owner in
    let behind : StandsAt m fixed (behind_owner_octets r) = stands_second m at owner (behind_owner_octets r) h in
    let data_place : StandsAt m (fixed + 10) body = stands_second m fixed (kind ++ class ++ ttl ++ len) body behind in
    let within = stands_within m fixed (behind_owner_octets r) (omega arith) behind in
    let end : at + length (record_octets question r) ≡ fixed + 10 + length body = omega (arith, length-append owner (behind_owner_octets r)) in
    let long = u16_behind m fixed (kind ++ class ++ ttl) (length body) body (omega arith) behind in
    let time = u32_behind m fixed (kind ++ class) r.item.ttl (len ++ body) (omega (arith, fits.ttl)) behind in
    let there = data_written m (take (fixed + 10 + length body) m) (fixed + 10) _ r.item.body fits.form fits.data_fits (front_ends m (fixed + 10) body (omega arith) data_place) in
    rw end (record {
      fixed = fixed;
      owner = owner_written m at question r.item.owner fits.owner named (stands_first m at owner (behind_owner_octets r) h);
      kind = u16_written m fixed r.item.kind fits.kind (stands_first m fixed kind (class ++ ttl ++ len ++ body) behind);
      class = u16_behind m fixed kind r.class (ttl ++ len ++ body) fits.class behind;
      ttl = (let positive : ttl_of r.item.ttl ≡ r.item.ttl = rw (lt-ltb r.item.ttl 2147483648 fits.ttl) refl in sym positive ∙ ap ttl_of time);
      ends = omega (arith, long);
      within = omega arith;
      body = there;
    })

pub records_written : (m : List ℕ) (at : ℕ) (question : Option Labels) (records : List (Classed Record)) → AllByRecursion IsRecord records → length (records_octets question records) ≤ 65535 → FirstAt m at question → StandsAt m at (records_octets question records) → RecordsAt m (length records) at records (at + length (records_octets question records))
records_written m at question [] fits short named h = no_items (omega arith)
records_written m at question (r ∷ records) fits short named h =
    let one : List ℕ = record_octets question r in
    let more : List ℕ = records_octets question records in
    let all : length (one ++ more) ≡ length one + length more = length-append one more in
    let here = record_written m at question r fits.0 (omega (arith, data_of_record question r)) named (stands_first m at one more h) in
    let tail = records_written m (at + length one) question records fits.1 (omega arith) (later (omega arith) named) (stands_second m at one more h) in
    let end : at + length one + length more ≡ at + length (one ++ more) = omega arith in
    one_more here (subst (λ (e : ℕ). RecordsAt m (length records) (at + length one) records e) end tail)
