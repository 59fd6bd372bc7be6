-- What a message is written as spells it, and no other.
use Rattle.std.proofs.Common.{◌≡◌, ℕ, ◌+◌, ◌-◌, ◌≤◌, List, [], ◌∷◌, ◌++◌, length, take, refl, sym, ap, subst, ◌∙◌, append_assoc, arith, length-append}
use Rattle.std.specs.List.{flat_map, AllByRecursion}
use Rattle.std.proofs.lemmas.List.{append-nil, take-append-drop}
use Rattle.std.proofs.lemmas.Nat.{from_be_bytes-to_be_bytes_2}
use Rattle.dns_name.specs.Labels.{IsName}
use Rattle.dns_text.specs.declared.record.Question.{Question}
use Rattle.dns_wire.specs.declared.message.Classed.{Classed}
use Rattle.dns_wire.specs.declared.message.Message.{Message}
use Rattle.std.specs.Int.{w16, from_be_bytes}
use Rattle.dns_wire.specs.Write.Encoding.{SpellsOnly}
use Rattle.dns_wire.specs.Lent.{records_of}
use Rattle.dns_wire.specs.Read.Header.{head_of}
use Rattle.dns_wire.specs.Read.Message.{QuestionsAt, RecordsAt, SpelledMessage}
use Rattle.dns_wire.specs.Read.Number.{u16_at}
use Rattle.dns_wire.specs.Read.Section.{no_items, one_more}
use Rattle.dns_wire.specs.WellFormed.{IsHead, IsQuestion, AreRecords, IsWellFormed}
use Rattle.dns_wire.specs.Write.Number.{u16_octets}
use Rattle.dns_wire.specs.Write.Header.{flags_of, header_octets}
use Rattle.dns_wire.specs.Write.Question.{question_octets, first_name, in_class_in, IsQuestionOctets}
use Rattle.dns_wire.specs.Write.Record.{records_octets}
use Rattle.dns_wire.specs.Write.Message.{octets_with, message_octets, IsTooLong}
use Rattle.dns_wire.proofs.MessageLaws.{spelled_once}
use Rattle.dns_wire.specs.Write.SizeLaws.{length-octets_with}
use Rattle.dns_wire.proofs.WrittenSize.{HasRoomForAll, all_fits, many_questions, as_long}
use Rattle.dns_wire.proofs.WrittenName.{StandsAt, stands_first, stands_second}
use Rattle.dns_wire.proofs.WrittenHead.{flags_small, flags_written}
use Rattle.dns_wire.proofs.WrittenRecord.{cased_question, questions_written, FirstAt, no_question, first, later, records_written}

-- ---- the header

-- What a message's octets say in its header.
record Heads (m : List ℕ) (v : Message) : Type 0 where
  head : v.head ≡ head_of (u16_at m 0) (u16_at m 2)
  questions : length v.questions ≡ u16_at m 4
  answer : length v.answer ≡ u16_at m 6
  authority : length v.authority ≡ u16_at m 8
  additional : length v.additional ≡ u16_at m 10

count : (n : ℕ) → n ≤ 65535 → n ≡ from_be_bytes w16 (u16_octets n)
count n few = sym (from_be_bytes-to_be_bytes_2 n (omega arith))

header_written : (questions : List ℕ) (v : Message) → IsWellFormed v → HasRoomForAll v → Heads (octets_with questions v) v
unfolding octets_with header_octets u16_at
header_written questions v fits short = record {
  head = sym (rw (sym (count v.head.id (omega (arith, fits.head.id))), sym (count (flags_of v.head) (omega (arith, flags_small v.head fits.head)))) (flags_written v.head fits.head));
  questions = count (length v.questions) short.questions;
  answer = count (length v.answer) short.answer;
  authority = count (length v.authority) short.authority;
  additional = count (length v.additional) short.additional;
}

-- ---- the sections

in_turn : (a b c d : List ℕ) → a ++ (b ++ c ++ d) ≡ a ++ b ++ c ++ d
in_turn a b c d = simp append_assoc

sections_at : (questions : List ℕ) (v : Message) → StandsAt (octets_with questions v) 12 (questions ++ records_octets (first_name v.questions) v.answer ++ records_octets (first_name v.questions) v.authority ++ records_octets (first_name v.questions) v.additional)
unfolding octets_with header_octets
sections_at questions v =
    let parts = in_turn questions (records_octets (first_name v.questions) v.answer) (records_octets (first_name v.questions) v.authority) (records_octets (first_name v.questions) v.additional) in
    ([], parts ∙ sym (append-nil _))

questions_at : (questions : List ℕ) (v : Message) → StandsAt (octets_with questions v) 12 questions
questions_at questions v =
    let m = octets_with questions v in
    let answer : List ℕ = records_octets (first_name v.questions) v.answer in
    let authority : List ℕ = records_octets (first_name v.questions) v.authority in
    let additional : List ℕ = records_octets (first_name v.questions) v.additional in
    stands_first m 12 questions answer (stands_first m 12 (questions ++ answer) authority (stands_first m 12 (questions ++ answer ++ authority) additional (sections_at questions v)))

first_named : {m : List ℕ} {count at after : ℕ} {questions : List (Classed Question)} → QuestionsAt m count 12 questions after → 12 + length questions ≤ at → FirstAt m at (first_name questions)
first_named (no_items h) behind = no_question
first_named (one_more {items = more} one rest) behind = first (omega arith) one.owner.stands

-- Where the questions are right, the message is.
behind_questions : (questions : List ℕ) (v : Message) → IsWellFormed v → HasRoomForAll v → length (octets_with questions v) ≡ length (message_octets v) → length v.questions ≤ length questions
    → QuestionsAt (octets_with questions v) (length v.questions) 12 v.questions (12 + length questions) → SpelledMessage (octets_with questions v) v
behind_questions questions v fits short same many stands =
    let m = octets_with questions v in
    let name = first_name v.questions in
    let answer : List ℕ = records_octets name v.answer in
    let authority : List ℕ = records_octets name v.authority in
    let additional : List ℕ = records_octets name v.additional in
    let heads = header_written questions v fits short in
    let size = length-octets_with questions v in
    let all = sections_at questions v in
    let h3 = stands_first m 12 (questions ++ answer ++ authority) additional all in
    let h2 = stands_first m 12 (questions ++ answer) authority h3 in
    let p1 : ℕ = 12 + length questions in
    let p2 : ℕ = p1 + length answer in
    let p3 : ℕ = p2 + length authority in
    let e2 : 12 + length (questions ++ answer) ≡ p2 = omega (arith, length-append questions answer) in
    let e3 : 12 + length (questions ++ answer ++ authority) ≡ p3 = omega (arith, e2, length-append (questions ++ answer) authority) in
    let end : p3 + length additional ≡ length m = omega (arith, size) in
    let named : FirstAt m p1 name = first_named stands (omega arith) in
    let a = records_written m p1 name v.answer fits.answer (omega (arith, short.octets)) named (stands_second m 12 questions answer h2) in
    let b = records_written m p2 name v.authority fits.authority (omega (arith, short.octets)) (later (omega arith) named) (subst (λ (i : ℕ). StandsAt m i authority) e2 (stands_second m 12 (questions ++ answer) authority h3)) in
    let c = records_written m p3 name v.additional fits.additional (omega (arith, short.octets)) (later (omega arith) named) (subst (λ (i : ℕ). StandsAt m i additional) e3 (stands_second m 12 (questions ++ answer ++ authority) additional all)) in
    record {
      header = omega arith;
      head = heads.head;
      answer_place = p1;
      authority_place = p2;
      additional_place = p3;
      questions = subst (λ (n : ℕ). QuestionsAt m n 12 v.questions p1) heads.questions stands;
      answer = subst (λ (n : ℕ). RecordsAt m n p1 v.answer p2) heads.answer a;
      authority = subst (λ (n : ℕ). RecordsAt m n p2 v.authority p3) heads.authority b;
      additional = subst (λ (e : ℕ). RecordsAt m (u16_at m 10) p3 v.additional e) end (subst (λ (n : ℕ). RecordsAt m n p3 v.additional (p3 + length additional)) heads.additional c);
    }

-- ---- messages and replies

pub message_written : (v : Message) → IsWellFormed v → ¬ (IsTooLong v) → SpelledMessage (message_octets v) v
message_written v fits short =
    let questions : List ℕ = flat_map question_octets v.questions in
    let stands = questions_written (message_octets v) 12 v.questions fits.questions (questions_at questions v) in
    behind_questions questions v fits (all_fits v short) refl (many_questions v.questions) stands

-- A reply to a good query has its question in range.
pub reply_fits : {q : Question} {octets : List ℕ} (v : Message) → IsQuestionOctets octets q → IsName q.owner → v.questions ≡ in_class_in q ∷ [] → IsHead v.head → AreRecords (records_of v) → IsWellFormed v
reply_fits {q} v is name one head records = record {
  head = head;
  questions = rw one (record { owner = name; kind = is.kind; class = omega arith }, tt);
  answer = records.answer;
  authority = records.authority;
  additional = records.additional;
}

pub reply_written : (q : Question) (octets : List ℕ) (v : Message) → IsQuestionOctets octets q → IsWellFormed v → v.questions ≡ in_class_in q ∷ [] → ¬ (IsTooLong v) → SpelledMessage (octets_with octets v) v
reply_written q octets v is fits one short =
    let m = octets_with octets v in
    let front : ℕ = length octets - 4 in
    let name : List ℕ = take front octets in
    let numbers : List ℕ = u16_octets q.kind ++ u16_octets 1 in
    let parts : octets ≡ name ++ numbers = sym (take-append-drop front octets) ∙ ap (λ (o : List ℕ). name ++ o) is.fixed in
    let question : IsQuestion (in_class_in q) = (subst (λ (qs : List (Classed Question)). AllByRecursion IsQuestion qs) one fits.questions).0 in
    let here = cased_question m 12 (in_class_in q) name question is.owner (subst (StandsAt m 12) parts (questions_at octets v)) in
    let end : 12 + length octets ≡ 12 + length name + 4 = omega (arith, ap length parts, length-append name numbers) in
    let stands : QuestionsAt m 1 12 (in_class_in q ∷ []) (12 + length octets) = one_more here (no_items end) in
    behind_questions octets v fits (all_fits v short) (as_long v is one) (omega (arith, ap length one, ap length parts, length-append name numbers))
    (subst (λ (qs : List (Classed Question)). QuestionsAt m (length qs) 12 qs (12 + length octets)) (sym one) stands)

pub spells_only : {octets : List ℕ} {v : Message} → SpelledMessage octets v → SpellsOnly octets v
spells_only {octets} {v} h = record { stands = h; only = λ w other. spelled_once octets w v other h }
