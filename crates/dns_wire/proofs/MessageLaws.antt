-- Reading a message gives the one that the octets spell, and the first fault where they spell none.
use Rattle.std.proofs.Common.{◌≡◌, ℕ, ◌≤◌, ◌⊎◌, List, length, Result, Ok, Err, refl, sym, ◌∙◌, subst, inl, inr, ltb, eqb, eq-eqb, arith}
use Rattle.std.specs.Prelude.{MatchResult, IfOk, IfErr, IfSome}
use Rattle.std.proofs.lemmas.Bool.{cases_Bool, le-ltb, lt-ltb, ltb-true, ltb-false, eqb-true, eqb-false, ne_eqb}
use Rattle.dns_text.specs.declared.record.Question.{Question}
use Rattle.dns_text.specs.declared.record.Record.{Record}
use Rattle.dns_wire.specs.declared.fault.WireFault.{WireFault}
use Rattle.dns_wire.specs.declared.fault.WireFault.TheVariants.{Short, BadName, BadPointer, BadData, Trailing, NoMemory}
use Rattle.dns_wire.specs.declared.message.Classed.{Classed}
use Rattle.dns_wire.specs.declared.message.Message.{Message}
use Rattle.dns_wire.specs.Read.Chains.{IsFirstName}
use Rattle.dns_wire.specs.Read.Decoding.{IsUnspelled, HasTrailing, UnlessMemory}
use Rattle.dns_wire.specs.Read.Header.{head_in, question_count, answer_count, authority_count, additional_count}
use Rattle.dns_wire.specs.Read.Message.{QuestionsAt, RecordsAt, QuestionsFail, RecordsFail, MessageAt, SpelledMessage, MessageFails, short_header, bad_questions, bad_answer, bad_authority, bad_additional, trailing, questions_read, records_read, sections_read, whole, message_read}
use Rattle.dns_wire.specs.Read.Question.{QuestionAt, QuestionFails, question_read}
use Rattle.dns_name.specs.Results.{◌>>=◌}
use Rattle.dns_wire.specs.Fault.{Gives}
use Rattle.dns_wire.specs.Read.Record.{RecordAt, RecordFails, record_read}
use Rattle.dns_wire.specs.Write.Question.{first_name}
use Rattle.dns_wire.specs.Read.Section.{no_items, one_more}
use Rattle.dns_wire.proofs.QuestionLaws.{question_read-stands, question_read-fails, question_read-match}
use Rattle.dns_wire.proofs.RecordLaws.{record_read-stands, record_read-fails, record_read-match}
use Rattle.dns_wire.proofs.SectionLaws.{IsReader, section_within, section_read-stands, section_read-fails, section_read-match}

question_reader : (m : List ℕ) → IsReader (length m) (QuestionAt m) (QuestionFails m) (λ i. question_read m i)
question_reader m = record {
  stands = λ at after q within h. question_read-stands within h;
  fails = λ at fault within h. question_read-fails within h;
  matches = λ at within. question_read-match m at within;
  within = λ at after q h. h.within;
}

record_reader : (m : List ℕ) → IsReader (length m) (RecordAt m) (RecordFails m) (λ i. record_read m i)
record_reader m = record {
  stands = λ at after r within h. record_read-stands within h;
  fails = λ at fault within h. record_read-fails within h;
  matches = λ at within. record_read-match m at within;
  within = λ at after r h. h.within;
}

-- ---- a section of questions, and one of records

questions_stand : {m : List ℕ} {count at after : ℕ} {items : List (Classed Question)} → at ≤ length m → QuestionsAt m count at items after → questions_read m count at ≡ Ok (items, after)
questions_stand {m} within h = section_read-stands (length m) (QuestionAt m) (QuestionFails m) (λ i. question_read m i) (question_reader m) within h

questions_fail : {m : List ℕ} {count at : ℕ} {fault : WireFault} → at ≤ length m → QuestionsFail m count at fault → questions_read m count at ≡ Err fault
questions_fail {m} within h = section_read-fails (length m) (QuestionAt m) (QuestionFails m) (λ i. question_read m i) (question_reader m) within h

pub questions_within : {m : List ℕ} {count at after : ℕ} {items : List (Classed Question)} → at ≤ length m → QuestionsAt m count at items after → after ≤ length m
questions_within {m} within h = section_within (length m) (QuestionAt m) (QuestionFails m) (λ i. question_read m i) (question_reader m) within h

questions_match : (m : List ℕ) (count at : ℕ) → at ≤ length m → MatchResult (questions_read m count at) (λ x. QuestionsAt m count at x.0 x.1) (λ e. QuestionsFail m count at e)
questions_match m count at within = section_read-match (length m) (QuestionAt m) (QuestionFails m) (λ i. question_read m i) (question_reader m) count at within

first_of : {m : List ℕ} {count after : ℕ} {questions : List (Classed Question)} → QuestionsAt m count 12 questions after → IfSome (first_name questions) (λ name. IsFirstName m name)
first_of (no_items is) = tt
first_of (one_more one rest) = record { after = one.fixed; spelled = one.owner }

-- of questions that were read, the name of the first is known
pub first_known : (m : List ℕ) (count after : ℕ) (questions : List (Classed Question)) → 12 ≤ length m → questions_read m count 12 ≡ Ok (questions, after) → IfSome (first_name questions) (λ name. IsFirstName m name)
first_known m count after questions header is = first_of (rw is at (questions_match m count 12 header))

pub records_stand : {m : List ℕ} {count at after : ℕ} {items : List (Classed Record)} → at ≤ length m → RecordsAt m count at items after → records_read m count at ≡ Ok (items, after)
records_stand {m} within h = section_read-stands (length m) (RecordAt m) (RecordFails m) (λ i. record_read m i) (record_reader m) within h

records_fail : {m : List ℕ} {count at : ℕ} {fault : WireFault} → at ≤ length m → RecordsFail m count at fault → records_read m count at ≡ Err fault
records_fail {m} within h = section_read-fails (length m) (RecordAt m) (RecordFails m) (λ i. record_read m i) (record_reader m) within h

pub records_within : {m : List ℕ} {count at after : ℕ} {items : List (Classed Record)} → at ≤ length m → RecordsAt m count at items after → after ≤ length m
records_within {m} within h = section_within (length m) (RecordAt m) (RecordFails m) (λ i. record_read m i) (record_reader m) within h

pub records_match : (m : List ℕ) (count at : ℕ) → at ≤ length m → MatchResult (records_read m count at) (λ x. RecordsAt m count at x.0 x.1) (λ e. RecordsFail m count at e)
records_match m count at within = section_read-match (length m) (RecordAt m) (RecordFails m) (λ i. record_read m i) (record_reader m) count at within

-- ---- what is there is read, and the first fault is told

sections_stand : {m : List ℕ} {v : Message} {after : ℕ} → MessageAt m v after → sections_read m ≡ Ok (v, after)
unfolding sections_read
sections_stand {m} {v} {after} h =
    let q = questions_within h.header h.questions in
    let a = records_within q h.answer in
    let u = records_within a h.authority in
    rw (questions_stand h.header h.questions, records_stand q h.answer, records_stand a h.authority, records_stand u h.additional, ← h.head) refl

pub message_within : {m : List ℕ} {v : Message} {after : ℕ} → MessageAt m v after → after ≤ length m
message_within {m} {v} {after} h =
    records_within (records_within (records_within (questions_within h.header h.questions) h.answer) h.authority) h.additional

pub message_read-spelled : {m : List ℕ} {v : Message} → SpelledMessage m v → message_read m ≡ Ok v
unfolding message_read
message_read-spelled {m} {v} h = rw (le-ltb (length m) 12 h.header, sections_stand h, eq-eqb (length m) (length m) refl) refl

pub message_read-fails : {m : List ℕ} {fault : WireFault} → MessageFails m fault → message_read m ≡ Err fault
unfolding message_read sections_read
message_read-fails {m} (short_header few) = rw (lt-ltb (length m) 12 few) refl
message_read-fails {m} (bad_questions header h) = rw (le-ltb (length m) 12 header, questions_fail header h) refl
message_read-fails {m} (bad_answer header q h) =
    rw (le-ltb (length m) 12 header, questions_stand header q, records_fail (questions_within header q) h) refl
message_read-fails {m} (bad_authority header q a h) =
    let in_q = questions_within header q in
    rw (le-ltb (length m) 12 header, questions_stand header q, records_stand in_q a, records_fail (records_within in_q a) h) refl
message_read-fails {m} (bad_additional header q a u h) =
    let in_q = questions_within header q in
    let in_a = records_within in_q a in
    rw (le-ltb (length m) 12 header, questions_stand header q, records_stand in_q a, records_stand in_a u, records_fail (records_within in_a u) h) refl
message_read-fails {m} (trailing {after = after} h more) =
    rw (le-ltb (length m) 12 h.header, sections_stand h, ne_eqb after (length m) (λ e. omega arith)) refl

-- ---- what is read is there, and a fault is the first

abbrev pub Found : List ℕ → Result (Message × ℕ) WireFault → Type 0
Found m r = MatchResult r (λ x. MessageAt m x.0 x.1) (λ e. MessageFails m e)

abbrev with_additional : List ℕ → List (Classed Question) → List (Classed Record) → List (Classed Record) → List (Classed Record) × ℕ → Result (Message × ℕ) WireFault
with_additional m questions answer authority additional =
    Ok (record { head = head_in m; questions = questions; answer = answer; authority = authority; additional = additional.0 }, additional.1)

abbrev behind_authority : List ℕ → List (Classed Question) → List (Classed Record) → List (Classed Record) × ℕ → Result (Message × ℕ) WireFault
behind_authority m questions answer authority = records_read m (additional_count m) authority.1 >>= with_additional m questions answer authority.0

abbrev behind_answer : List ℕ → List (Classed Question) → List (Classed Record) × ℕ → Result (Message × ℕ) WireFault
behind_answer m questions answer = records_read m (authority_count m) answer.1 >>= behind_authority m questions answer.0

abbrev behind_questions : List ℕ → List (Classed Question) × ℕ → Result (Message × ℕ) WireFault
behind_questions m questions = records_read m (answer_count m) questions.1 >>= behind_answer m questions.0

module _ (m : List ℕ) (header : 12 ≤ length m) where
  found_additional : (q : List (Classed Question) × ℕ) (a u : List (Classed Record) × ℕ) → QuestionsAt m (question_count m) 12 q.0 q.1 → RecordsAt m (answer_count m) q.1 a.0 a.1 → RecordsAt m (authority_count m) a.1 u.0 u.1 → (r : Result (List (Classed Record) × ℕ) WireFault) → MatchResult r (λ x. RecordsAt m (additional_count m) u.1 x.0 x.1) (λ e. RecordsFail m (additional_count m) u.1 e) → Found m (r >>= with_additional m q.0 a.0 u.0)
  found_additional q a u at_q at_a at_u (Err e) h = bad_additional header at_q at_a at_u h
  found_additional q a u at_q at_a at_u (Ok x) h = record { header = header; head = refl; answer_place = q.1; authority_place = a.1; additional_place = u.1; questions = at_q; answer = at_a; authority = at_u; additional = h }

  found_authority : (q : List (Classed Question) × ℕ) (a : List (Classed Record) × ℕ) → a.1 ≤ length m → QuestionsAt m (question_count m) 12 q.0 q.1 → RecordsAt m (answer_count m) q.1 a.0 a.1 → (r : Result (List (Classed Record) × ℕ) WireFault) → MatchResult r (λ x. RecordsAt m (authority_count m) a.1 x.0 x.1) (λ e. RecordsFail m (authority_count m) a.1 e) → Found m (r >>= behind_authority m q.0 a.0)
  found_authority q a within at_q at_a (Err e) h = bad_authority header at_q at_a h
  found_authority q a within at_q at_a (Ok x) h = found_additional q a x at_q at_a h _ (records_match m (additional_count m) x.1 (records_within within h))

  found_answer : (q : List (Classed Question) × ℕ) → q.1 ≤ length m → QuestionsAt m (question_count m) 12 q.0 q.1 → (r : Result (List (Classed Record) × ℕ) WireFault) → MatchResult r (λ x. RecordsAt m (answer_count m) q.1 x.0 x.1) (λ e. RecordsFail m (answer_count m) q.1 e) → Found m (r >>= behind_answer m q.0)
  found_answer q within at_q (Err e) h = bad_answer header at_q h
  found_answer q within at_q (Ok x) h = found_authority q x (records_within within h) at_q h _ (records_match m (authority_count m) x.1 (records_within within h))

  found_questions : (r : Result (List (Classed Question) × ℕ) WireFault) → MatchResult r (λ x. QuestionsAt m (question_count m) 12 x.0 x.1) (λ e. QuestionsFail m (question_count m) 12 e) → Found m (r >>= behind_questions m)
  found_questions (Err e) h = bad_questions header h
  found_questions (Ok x) h = found_answer x (questions_within header h) h _ (records_match m (answer_count m) x.1 (questions_within header h))

  sections_found : Found m (sections_read m)
  unfolding sections_read
  sections_found = found_questions (questions_read m (question_count m) 12) (questions_match m (question_count m) 12 header)

whole_found : (m : List ℕ) (r : Result (Message × ℕ) WireFault) → Found m r → MatchResult (r >>= whole m) (λ v. SpelledMessage m v) (λ e. MessageFails m e)
whole_found m (Err e) h = h
whole_found m (Ok x) h =
    elim (cases_Bool (eqb x.1 (length m))) [
      | inl is ↦ rw is (subst (λ (a : ℕ). MessageAt m x.0 a) (eqb-true x.1 (length m) is) h)
      | inr not ↦ rw not (trailing h (let no = eqb-false x.1 (length m) not in omega (arith, message_within h)))
    ]

pub message_read-match : (m : List ℕ) → MatchResult (message_read m) (λ v. SpelledMessage m v) (λ e. MessageFails m e)
unfolding message_read
message_read-match m =
    elim (cases_Bool (ltb (length m) 12)) [
      | inl few ↦ rw few (short_header (ltb-true (length m) 12 few))
      | inr enough ↦ rw enough (whole_found m (sections_read m) (sections_found m (ltb-false (length m) 12 enough)))
    ]

-- ---- what an answer says of the octets

message_found : (m : List ℕ) (v : Message) → message_read m ≡ Ok v → SpelledMessage m v
message_found m v e = rw e at (message_read-match m)

fault_found : (m : List ℕ) (fault : WireFault) → message_read m ≡ Err fault → MessageFails m fault
fault_found m fault e = rw e at (message_read-match m)

told : {m : List ℕ} (fault : WireFault) → Gives {A = Message} (Err fault) (message_read m) → UnlessMemory fault (MessageFails m fault)
told {m} Short e = inr (fault_found m Short (e (λ is. cc)))
told {m} (BadName at) e = inr (fault_found m (BadName at) (e (λ is. cc)))
told {m} (BadPointer at) e = inr (fault_found m (BadPointer at) (e (λ is. cc)))
told {m} (BadData at) e = inr (fault_found m (BadData at) (e (λ is. cc)))
told {m} Trailing e = inr (fault_found m Trailing (e (λ is. cc)))
told NoMemory e = inl refl

pub spelled_or_fails : (m : List ℕ) → ((v : Message) × SpelledMessage m v) ⊎ ((fault : WireFault) × MessageFails m fault)
spelled_or_fails m = either (message_read m) (message_read-match m)
  where
    either : (r : Result Message WireFault) → MatchResult r (λ v. SpelledMessage m v) (λ e. MessageFails m e) → ((v : Message) × SpelledMessage m v) ⊎ ((fault : WireFault) × MessageFails m fault)
    either (Ok v) h = inl (v, h)
    either (Err fault) h = inr (fault, h)

pub never_both : (m : List ℕ) (fault : WireFault) → MessageFails m fault → IsUnspelled m
never_both m fault f = λ v h. (let e = sym (message_read-spelled h) ∙ message_read-fails f in cc)

pub spelled_once : (m : List ℕ) (v w : Message) → SpelledMessage m v → SpelledMessage m w → v ≡ w
spelled_once m v w h k = let e = sym (message_read-spelled h) ∙ message_read-spelled k in cc

pub fails_once : (m : List ℕ) (fault other : WireFault) → MessageFails m fault → MessageFails m other → fault ≡ other
fails_once m fault other h k = let e = sym (message_read-fails h) ∙ message_read-fails k in cc

pub answer_spelled : (m : List ℕ) (r : Result Message WireFault) → Gives r (message_read m) → IfOk r (λ v. SpelledMessage m v)
answer_spelled m (Ok v) e = message_found m v e
answer_spelled m (Err fault) e = tt

pub answer_fault : (m : List ℕ) (r : Result Message WireFault) → Gives r (message_read m) → IfErr r (λ fault. UnlessMemory fault (MessageFails m fault))
answer_fault m (Ok v) e = tt
answer_fault m (Err fault) e = told fault e

pub answer_unspelled : (m : List ℕ) (r : Result Message WireFault) → Gives r (message_read m) → IfErr r (λ fault. UnlessMemory fault (IsUnspelled m))
answer_unspelled m (Ok v) e = tt
answer_unspelled m (Err fault) e = elim (told fault e) [
  | inl memory ↦ inl memory
  | inr f ↦ inr (never_both m fault f)
]

pub answer_read : (m : List ℕ) (r : Result Message WireFault) → Gives r (message_read m) → (v : Message) → SpelledMessage m v → Gives r (Ok v)
answer_read m r e v h = rw (message_read-spelled h) at e

pub answer_trailing : (m : List ℕ) (r : Result Message WireFault) → Gives r (message_read m) → HasTrailing m → Gives r (Err Trailing)
answer_trailing m r e h = rw (message_read-fails (trailing h.stands h.more)) at e
