-- A message (RFC 1035, section 4.1): a header, then the questions and the records that it counts.
use Rattle.std.specs.Prelude.{◌≡◌, ℕ, ◌<◌, ◌≤◌, List, length, Result, Ok, Err, nat_lt, ◌==◌, if◌then◌else◌}
use Rattle.dns_text.specs.declared.record.Question.{Question}
use Rattle.dns_text.specs.declared.record.Record.{Record}
use Rattle.dns_wire.specs.declared.limits.TheConstants.{HEADER_OCTETS}
use Rattle.dns_wire.specs.declared.fault.WireFault.{WireFault}
use Rattle.dns_wire.specs.declared.fault.WireFault.TheVariants.{Short, Trailing}
use Rattle.dns_wire.specs.declared.message.Classed.{Classed}
use Rattle.dns_wire.specs.declared.message.Message.{Message}
use Rattle.dns_wire.specs.Read.Header.{head_in, question_count, answer_count, authority_count, additional_count}
use Rattle.dns_wire.specs.Read.Question.{QuestionAt, QuestionFails, question_read}
use Rattle.dns_name.specs.Results.{◌>>=◌}
use Rattle.dns_wire.specs.Read.Record.{RecordAt, RecordFails, record_read}
use Rattle.dns_wire.specs.Read.Section.{SectionAt, SectionFails, section_read}

-- ---- the message that octets spell

-- At a place begin this many questions, and `after` is the place after them.
abbrev pub QuestionsAt : List ℕ → ℕ → ℕ → List (Classed Question) → ℕ → Type 0
QuestionsAt m count at questions after = SectionAt (QuestionAt m) count at questions after

-- At a place begin this many records, and `after` is the place after them.
abbrev pub RecordsAt : List ℕ → ℕ → ℕ → List (Classed Record) → ℕ → Type 0
RecordsAt m count at records after = SectionAt (RecordAt m) count at records after

-- The octets begin with this message, and `after` is the place after it.
pub record MessageAt (m : List ℕ) (v : Message) (after : ℕ) : Type 0 where
  pub header : HEADER_OCTETS ≤ length m
  pub head : v.head ≡ head_in m
  pub answer_place : ℕ
  pub authority_place : ℕ
  pub additional_place : ℕ
  pub questions : QuestionsAt m (question_count m) HEADER_OCTETS v.questions answer_place
  pub answer : RecordsAt m (answer_count m) answer_place v.answer authority_place
  pub authority : RecordsAt m (authority_count m) authority_place v.authority additional_place
  pub additional : RecordsAt m (additional_count m) additional_place v.additional after

-- The octets are this message, all of them.
abbrev pub SpelledMessage : List ℕ → Message → Type 0
SpelledMessage m v = MessageAt m v (length m)

-- ---- the first fault of octets that are no message

-- The questions at a place have this first fault.
abbrev pub QuestionsFail : List ℕ → ℕ → ℕ → WireFault → Type 0
QuestionsFail m count at fault = SectionFails (QuestionAt m) (QuestionFails m) count at fault

-- The records at a place have this first fault.
abbrev pub RecordsFail : List ℕ → ℕ → ℕ → WireFault → Type 0
RecordsFail m count at fault = SectionFails (RecordAt m) (RecordFails m) count at fault

-- The octets are no message: this is their first fault, and everything before it is valid.
pub data MessageFails (m : List ℕ) : WireFault → Type 0 where
  short_header : length m < HEADER_OCTETS → MessageFails m Short
  bad_questions : {fault : WireFault} → HEADER_OCTETS ≤ length m → QuestionsFail m (question_count m) HEADER_OCTETS fault → MessageFails m fault
  bad_answer : {fault : WireFault} {at : ℕ} {questions : List (Classed Question)}
      → HEADER_OCTETS ≤ length m → QuestionsAt m (question_count m) HEADER_OCTETS questions at → RecordsFail m (answer_count m) at fault → MessageFails m fault
  bad_authority : {fault : WireFault} {answer_place at : ℕ} {questions : List (Classed Question)} {answer : List (Classed Record)}
      → HEADER_OCTETS ≤ length m → QuestionsAt m (question_count m) HEADER_OCTETS questions answer_place
      → RecordsAt m (answer_count m) answer_place answer at → RecordsFail m (authority_count m) at fault → MessageFails m fault
  bad_additional : {fault : WireFault} {answer_place authority_place at : ℕ} {questions : List (Classed Question)} {answer authority : List (Classed Record)}
      → HEADER_OCTETS ≤ length m → QuestionsAt m (question_count m) HEADER_OCTETS questions answer_place
      → RecordsAt m (answer_count m) answer_place answer authority_place
      → RecordsAt m (authority_count m) authority_place authority at → RecordsFail m (additional_count m) at fault → MessageFails m fault
  trailing : {v : Message} {after : ℕ} → MessageAt m v after → after < length m → MessageFails m Trailing

-- ---- reading

-- this many questions from a place on, and the place after them
abbrev pub questions_read : List ℕ → ℕ → ℕ → Result (List (Classed Question) × ℕ) WireFault
questions_read m count at = section_read (λ i. question_read m i) count at

-- this many records from a place on, and the place after them
abbrev pub records_read : List ℕ → ℕ → ℕ → Result (List (Classed Record) × ℕ) WireFault
records_read m count at = section_read (λ i. record_read m i) count at

-- the sections after a header, and the place after them
unfoldable pub sections_read : List ℕ → Result (Message × ℕ) WireFault
sections_read m = do
  questions ← questions_read m (question_count m) HEADER_OCTETS
  answer ← records_read m (answer_count m) questions.1
  authority ← records_read m (authority_count m) answer.1
  additional ← records_read m (additional_count m) authority.1
  Ok (record { head = head_in m; questions = questions.0; answer = answer.0; authority = authority.0; additional = additional.0 }, additional.1)

-- the message, if no octets follow it
abbrev pub whole : List ℕ → Message × ℕ → Result Message WireFault
whole m found = if found.1 == length m then Ok found.0 else Err Trailing

-- the message after a whole header
abbrev pub message_behind : List ℕ → Result Message WireFault
message_behind m = sections_read m >>= whole m

-- the message that octets are, or their first fault
unfoldable pub message_read : List ℕ → Result Message WireFault
message_read m = if nat_lt (length m) HEADER_OCTETS then Err Short else message_behind m
