-- Octets that are a message of one question, by their parts.
use Rattle.std.proofs.Common.{◌≡◌, ℕ, ◌+◌, ◌-◌, ◌^◌, ◌<◌, ◌≤◌, List, [], ◌∷◌, ◌++◌, length, take, drop, Option, Some, None, Result, Ok, Err, refl, sym, ap, ◌∙◌, ◌⊎◌, inl, inr, arith, length-append}
use Rattle.std.specs.Prelude.{true, false, IfErr}
use Rattle.std.specs.Int.{w16, to_be_bytes}
use Rattle.std.proofs.Math.Seq.{take-add}
use Rattle.std.proofs.lemmas.List.{drop-drop, drop-take, take_at, drop_at, length-take, length-drop}
use Rattle.std.proofs.lemmas.Nat.{be_bytes_2}
use Rattle.std.proofs.lemmas.Option.{option_and_then_some}
use Rattle.dns_name.specs.Labels.{Labels}
use Rattle.dns_text.specs.declared.record.Record.{Record}
use Rattle.dns_wire.specs.declared.fault.WireFault.{WireFault}
use Rattle.dns_wire.specs.declared.message.Classed.{Classed}
use Rattle.dns_wire.specs.declared.message.Message.{Message}
use Rattle.dns_wire.specs.Server.Asking.{HasPointer, IsMalformed, no_message, pointer, AsksName, AsksQuestion, question_with}
use Rattle.dns_wire.specs.Read.Header.{head_in, question_count, answer_count, authority_count, additional_count}
use Rattle.dns_wire.specs.Read.Message.{RecordsAt, SpelledMessage, records_read}
use Rattle.dns_wire.specs.Read.Name.{SpelledName, UnspelledName, name_read}
use Rattle.dns_wire.specs.Read.Number.{u16_at}
use Rattle.dns_wire.specs.Read.Question.{QuestionAt}
use Rattle.dns_wire.specs.Read.Section.{SectionAt, no_items, one_more}
use Rattle.dns_wire.specs.Server.Walking.{records_place, sections_place}
use Rattle.dns_wire.specs.Read.Name.{place_after}
use Rattle.dns_text.specs.String.{AreOctets}
use Rattle.dns_wire.specs.Write.Question.{IsQuestionOctets}
use Rattle.dns_wire.proofs.MessageLaws.{questions_within, records_stand, records_within, records_match}
use Rattle.dns_wire.proofs.NameLaws.{name_read-match, name_read-spelled, name_read-unspelled}
use Rattle.dns_wire.proofs.PointerLaws.{name_whole}
use Rattle.dns_name.specs.ListLaws.{all-take, all-drop, octet_of}
use Rattle.dns_wire.proofs.Ranges.{u16_range}
use Rattle.dns_wire.proofs.WalkLaws.{read_by}

-- What walking a message of one question comes to: its name, and the end after all records.
pub record Parts (m : List ℕ) (labels : Labels) (at : ℕ) : Type 0 where
  pub name : name_read m 12 ≡ Ok (labels, at)
  pub room : at + 4 ≤ length m
  pub places : sections_place m (at + 4) ≡ Some (length m)

-- ---- a message has these parts

none_more : {A : Type 0} {item_at : ℕ → A → ℕ → Type 0} {count at after : ℕ} {items : List A} → SectionAt item_at count at items after → count ≡ 0 → after ≡ at
none_more (no_items is) e = is
none_more (one_more one rest) e = absurd (omega arith)

one_item : {A : Type 0} {item_at : ℕ → A → ℕ → Type 0} {count at after : ℕ} {items : List A} → SectionAt item_at count at items after → count ≡ 1 → (item : A) × item_at at item after
one_item (no_items is) e = absurd (omega arith)
one_item (one_more {item = item} one rest) e = (item, rw (none_more rest (omega arith)) one)

message_parts : {m : List ℕ} {v : Message} → question_count m ≡ 1 → SpelledMessage m v → (labels : Labels) × (at : ℕ) × Parts m labels at
unfolding sections_place
message_parts {m} {v} one h =
    let q = one_item h.questions one in
    let in_q = questions_within h.header h.questions in
    let in_a = records_within in_q h.answer in
    let in_u = records_within in_a h.authority in (
      q.0.item.owner,
      q.1.fixed,
      record {
        name = name_read-spelled m 12 q.1.fixed q.0.item.owner h.header q.1.owner;
        room = omega (arith, q.1.ends, in_q);
        places = rw (← q.1.ends, records_stand in_q h.answer, records_stand in_a h.authority, records_stand in_u h.additional) refl;
      },
    )

-- Without these parts there is no message.
malformed_by : {m : List ℕ} → question_count m ≡ 1 → ((labels : Labels) (at : ℕ) → ¬ (Parts m labels at)) → IsMalformed m
malformed_by one never = no_message (λ v h. let p = message_parts one h in never p.0 p.1 p.2)

no_place : (o : Option ℕ) (at : ℕ) → o ≡ None → ¬ (o ≡ Some at)
no_place o at e h = absurd (let f : None ≡ Some at = sym e ∙ h in cc)

other_place : (o : Option ℕ) (at other : ℕ) → o ≡ Some other → ¬ (other ≡ at) → ¬ (o ≡ Some at)
other_place o at other e not h = not (let f : Some other ≡ Some at = sym e ∙ h in cc)

pub malformed_name : {m : List ℕ} {fault : WireFault} → question_count m ≡ 1 → Err fault ≡ name_read m 12 → IsMalformed m
malformed_name {m} {fault} one e = malformed_by one (λ labels at p. no_place (place_after (name_read m 12)) at (ap (λ r. place_after r) (sym e)) (ap (λ r. place_after r) p.name))

-- A name that is not there, or has a pointer, is malformed.
pub malformed_whole : {m : List ℕ} → 12 ≤ length m → question_count m ≡ 1 → ((fault : WireFault) × UnspelledName m 12 fault) ⊎ HasPointer m 12 → IsMalformed m
malformed_whole {m} header one (inl h) = malformed_name one (sym (name_read-unspelled m 12 h.0 header h.1))
malformed_whole header one (inr h) = pointer h

pub name_told : {m : List ℕ} {labels : Labels} {at : ℕ} → 12 ≤ length m → SpelledName m 12 at labels → Ok (labels, at) ≡ name_read m 12
name_told {m} {labels} {at} header h = sym (name_read-spelled m 12 at labels header h)

pub same_name : {m : List ℕ} {labels owner : Labels} {at after : ℕ} → 12 ≤ length m → SpelledName m 12 at labels → name_read m 12 ≡ Ok (owner, after) → owner ≡ labels
same_name {m} {labels} {owner} {at} {after} header h read =
    let e : Ok (owner, after) ≡ Ok (labels, at) = sym read ∙ sym (name_told header h) in
    let p : (owner, after) ≡ (labels, at) = cc in
    ap (λ (x : Labels × ℕ). x.0) p

same_place : (m : List ℕ) {labels more : Labels} {at place : ℕ} → Ok (labels, at) ≡ name_read m 12 → name_read m 12 ≡ Ok (more, place) → at ≡ place
same_place m {labels} {more} {at} {place} e h = let f : Some at ≡ Some place = ap (λ r. place_after r) (e ∙ h) in cc

pub malformed_room : {m : List ℕ} {labels : Labels} {at : ℕ} → question_count m ≡ 1 → Ok (labels, at) ≡ name_read m 12 → length m < at + 4 → IsMalformed m
malformed_room {m} {labels} {at} one e few = malformed_by one (λ more place p. (let same : at ≡ place = same_place m e p.name in omega (arith, p.room)))

malformed_places : {m : List ℕ} {labels : Labels} {at : ℕ} → question_count m ≡ 1 → Ok (labels, at) ≡ name_read m 12 → ¬ (sections_place m (at + 4) ≡ Some (length m)) → IsMalformed m
malformed_places {m} {labels} {at} one e not = malformed_by one (λ more place p. (let same : at ≡ place = same_place m e p.name in not (rw same p.places)))

pub malformed_none : {m : List ℕ} {labels : Labels} {at : ℕ} → question_count m ≡ 1 → Ok (labels, at) ≡ name_read m 12 → sections_place m (at + 4) ≡ None → IsMalformed m
malformed_none {m} one e h = malformed_places one e (no_place _ _ h)

pub malformed_end : {m : List ℕ} {labels : Labels} {at end : ℕ} → question_count m ≡ 1 → Ok (labels, at) ≡ name_read m 12 → sections_place m (at + 4) ≡ Some end → ¬ (end ≡ length m) → IsMalformed m
malformed_end {m} one e h not = malformed_places one e (other_place _ _ _ h not)

pub true_differs : ¬ (true ≡ false)
true_differs h = absurd cc

pub if_err : {A E P : Type 0} (r : Result A E) → P → IfErr r (λ _. P)
if_err (Ok x) p = tt
if_err (Err e) p = p

-- ---- these parts make a message

records_found : {m : List ℕ} {count at after : ℕ} {records : List (Classed Record)} → at ≤ length m → records_read m count at ≡ Ok (records, after) → RecordsAt m count at records after
records_found {m} {count} {at} within e = rw e at (records_match m count at within)

name_found : {m : List ℕ} {labels : Labels} {at : ℕ} → 12 ≤ length m → name_read m 12 ≡ Ok (labels, at) → SpelledName m 12 at labels
name_found {m} header e = rw e at (name_read-match m 12 header)

question_found : {m : List ℕ} {labels : Labels} {at : ℕ} → SpelledName m 12 at labels → at + 4 ≤ length m → QuestionAt m 12 (question_with m labels at) (at + 4)
question_found {m} {labels} {at} owner room = record { fixed = at; owner = owner; kind = refl; class = refl; ends = refl; within = room }

parts_message : {m : List ℕ} {labels : Labels} {at : ℕ} → 12 ≤ length m → question_count m ≡ 1 → Parts m labels at → (v : Message) × SpelledMessage m v
unfolding sections_place
parts_message {m} {labels} {at} header one p =
    option_and_then_some _ (records_place m (answer_count m) (at + 4)) (length m) p.places (λ a read_a more.
    option_and_then_some _ (records_place m (authority_count m) a) (length m) more (λ u read_u read_x.
    let q = question_found (name_found header p.name) p.room in
    let answer = read_by (records_read m (answer_count m) (at + 4)) a read_a in
    let authority = read_by (records_read m (authority_count m) a) u read_u in
    let additional = read_by (records_read m (additional_count m) u) (length m) read_x in
    let at_a = records_found p.room answer.1 in
    let in_a = records_within p.room at_a in
    let at_u = records_found in_a authority.1 in
    let in_u = records_within in_a at_u in (
      record { head = head_in m; questions = question_with m labels at ∷ []; answer = answer.0; authority = authority.0; additional = additional.0 },
      record {
        header = header;
        head = refl;
        answer_place = at + 4;
        authority_place = a;
        additional_place = u;
        questions = rw one (one_more q (no_items refl));
        answer = at_a;
        authority = at_u;
        additional = records_found in_u additional.1;
      },
    )))

pub asks_name : {m : List ℕ} {labels : Labels} {at : ℕ} → 12 ≤ length m → question_count m ≡ 1 → Parts m labels at → ¬ (HasPointer m 12) → AsksName m labels at
asks_name header one p whole =
    let v = parts_message header one p in
    record { one = one; message = v.0; spelled = v.1; owner = name_found header p.name; within = p.room; whole = whole }

pub asks_question : {m : List ℕ} {labels : Labels} {at : ℕ} → AsksName m labels at → AsksQuestion m (question_with m labels at) (at + 4)
asks_question h = record { one = h.one; message = h.message; spelled = h.spelled; question = question_found h.owner h.within; whole = h.whole }

-- ---- the question's octets

pub question_begins : {m : List ℕ} {labels : Labels} {at : ℕ} → AsksName m labels at → 12 < at
question_begins h = (name_whole h.owner.stands h.whole).before

-- The octets of a question are from the header to the place after it.
pub question_stands : {m : List ℕ} {labels : Labels} {at : ℕ} → AreOctets m → AsksName m labels at → u16_at m (at + 2) ≡ 1
    → IsQuestionOctets (drop 12 (take (at + 4) m)) (record { owner = labels; kind = u16_at m at })
unfolding u16_at
question_stands {m} {labels} {at} octets h class =
    let whole = name_whole h.owner.stands h.whole in
    let name : List ℕ = take (at - 12) (drop 12 m) in
    let fixed : List ℕ = take 4 (drop at m) in
    let within = h.within in
    let end : at + 4 ≡ 12 + ((at - 12) + 4) = omega (arith, whole.before) in
    let begin : 12 + (at - 12) ≡ at = omega (arith, whole.before) in
    let is : drop 12 (take (at + 4) m) ≡ name ++ fixed =
    rw end (drop-take 12 ((at - 12) + 4) m ∙ take-add (at - 12) 4 (drop 12 m) ∙ rw (drop-drop (at - 12) 12 m, begin) refl) in
    let size : length name ≡ at - 12 = omega (arith, length-take (at - 12) (drop 12 m), length-drop 12 m) in
    let four : length fixed ≡ 4 = omega (arith, length-take 4 (drop at m), length-drop at m) in
    let all : length (name ++ fixed) - 4 ≡ length name = omega (arith, length-append name fixed) in
    let range = λ (i : ℕ). octet_of (take 2 (drop i m)) (all-take (λ b. b < 256) 2 (drop i m) (all-drop (λ b. b < 256) i m octets)) in
    let two = λ (i : ℕ) (room : i + 2 ≤ length m). (let e : length (take 2 (drop i m)) ≡ 2 = omega (arith, length-take 2 (drop i m), length-drop i m) in e) in
    let kind : to_be_bytes w16 (u16_at m at) ≡ take 2 (drop at m) = be_bytes_2 (take 2 (drop at m)) (u16_at m at) (two at (omega arith)) (range at) refl in
    let of_in : to_be_bytes w16 1 ≡ take 2 (drop (at + 2) m) = be_bytes_2 (take 2 (drop (at + 2) m)) 1 (two (at + 2) (omega arith)) (range (at + 2)) (sym class) in
    let small : u16_at m at < 2 ^ 16 = u16_range m at octets in
    let parts : fixed ≡ to_be_bytes w16 (u16_at m at) ++ to_be_bytes w16 1 =
    take-add 2 2 (drop at m) ∙ ap (λ (x : List ℕ). take 2 (drop at m) ++ take 2 x) (drop-drop 2 at m)
    ∙ ap (λ (x : List ℕ). x ++ take 2 (drop (at + 2) m)) (sym kind) ∙ ap (λ (x : List ℕ). to_be_bytes w16 (u16_at m at) ++ x) (sym of_in) in
    rw is (record {
      owner = rw (all, take_at name fixed (length name) refl) whole.lower;
      fixed = rw (all, drop_at name fixed (length name) refl) parts;
      kind = small;
    })
