-- The steps of reading: one part after another.
use Rattle.std.proofs.Common.{◌≡◌, ◌≢◌, ℕ, suc, ◌+◌, ◌-◌, ◌*◌, ◌/◌, ◌%◌, ◌<◌, ◌≤◌, Bool, List, [], ◌∷◌, length, drop, Option, Some, None, Result, Ok, Err, refl, subst, arith, unwrap_or, inl, inr, ap, ◌⊎◌, ◌∙◌}
use Rattle.std.specs.Prelude.{◌&&◌, ◌==◌, ◌^◌, IsErr, IsErrAnd, nat_le, nat_lt, slice_get}
use Rattle.std.proofs.Math.Seq.{drop-cons}
use Rattle.std.proofs.lemmas.Bool.{cases_Bool, le-ltb, leb-true, leb-false, lt-ltb, ne_eqb}
use Rattle.std.proofs.lemmas.Bool.Decides.{nat_tests}
use Rattle.std.proofs.lemmas.Option.{get_or_from_slice_get, slice_get_within}
use Rattle.replies.specs.declared.dear.Stop.{Stop}
use Rattle.replies.specs.declared.dear.Stop.TheVariants.{Dear, Faulty}
use Rattle.replies.specs.declared.dear.TheConstants.{RESPONSE_MARK}
use Rattle.replies.specs.declared.limits.TheConstants.{MOST_STEPS}
use Rattle.dns_wire.specs.declared.limits.TheConstants.{HEADER_OCTETS}
use Rattle.dns_wire.specs.declared.message.TheConstants.{CLASS_IN}
use Rattle.dns_wire.specs.declared.read.place.Next.TheVariants.{Finish, Label, Pointer, Reserved, Cut}
use Rattle.dns_text.specs.declared.kind.Form.{Form}
use Rattle.dns_text.specs.declared.kind.Form.TheVariants.{A, Aaaa, Opaque}
use Rattle.dns_text.specs.Kind.{form_of}
use Rattle.dns_wire.specs.Read.Header.{head_in, question_count}
use Rattle.dns_wire.specs.Read.Number.{u16_at}
use Rattle.dns_wire.specs.Read.Place.{next_at}
use Rattle.dns_wire.specs.Read.Rdata.{form_in}
use Rattle.dns_wire.specs.Read.Record.{data_begin, data_end, form_at}
use Rattle.replies.specs.Dear.{Come, Behind, Ended, Onward, Takes, Then, both, first_ended, first_on, Nothing, Times, no_parts, more_parts, part_ended, part_on, Read, read, stopped, wanting, behind}
use Rattle.replies.specs.Dear.{DataTakes, RestTakes, record_whole, IsQuick, MessageTakes, parts, QuestionTakes, RecordTakes, is_known, records_in}

-- ---- what is at a place

pub next_none : (m : List ℕ) (at : ℕ) → slice_get m at ≡ None → next_at m at ≡ Cut
next_none m at is = rw is refl

pub next_zero : (m : List ℕ) (at : ℕ) → slice_get m at ≡ Some 0 → next_at m at ≡ Finish
next_zero m at is = rw is refl

pub next_label : (m : List ℕ) (at n : ℕ) → slice_get m at ≡ Some n → 0 < n → n < 64 → next_at m at ≡ Label n
next_label m at n is some few = rw is (rw (ne_eqb n 0 (λ e. omega arith), lt-ltb n 64 few) refl)

pub next_reserved : (m : List ℕ) (at n : ℕ) → slice_get m at ≡ Some n → 64 ≤ n → n < 192 → next_at m at ≡ Reserved
next_reserved m at n is many few = rw is (rw (ne_eqb n 0 (λ e. omega arith), le-ltb n 64 many, lt-ltb n 192 few) refl)

pub next_half : (m : List ℕ) (at n : ℕ) → slice_get m at ≡ Some n → 192 ≤ n → slice_get m (at + 1) ≡ None → next_at m at ≡ Cut
next_half m at n is many none = rw is (rw (ne_eqb n 0 (λ e. omega arith), le-ltb n 64 (omega arith), le-ltb n 192 many, none) refl)

pub next_pointer : (m : List ℕ) (at n low : ℕ) → slice_get m at ≡ Some n → 192 ≤ n → slice_get m (at + 1) ≡ Some low → next_at m at ≡ Pointer ((n - 192) * 256 + low)
next_pointer m at n low is many is_low = rw is (rw (ne_eqb n 0 (λ e. omega arith), le-ltb n 64 (omega arith), le-ltb n 192 many, is_low) refl)

octet_front : (m : List ℕ) (at b : ℕ) → slice_get m at ≡ Some b → drop at m ≡ b ∷ drop (at + 1) m
octet_front m at b h =
    let next : suc at ≡ at + 1 = omega arith in
    drop-cons m at b (slice_get_within m at b h) ∙ rw (get_or_from_slice_get m at b b h, next) refl

pub number_here : (m : List ℕ) (at high low : ℕ) → slice_get m at ≡ Some high → slice_get m (at + 1) ≡ Some low → high * 256 + low ≡ u16_at m at
unfolding u16_at
number_here m at high low is_high is_low = rw (octet_front m at high is_high, octet_front m (at + 1) low is_low) (omega arith)

-- how far reading has come in a name, if a pointer of it ended at a place
abbrev pub settle : Option ℕ → Come → Come
settle after (Behind place) = Behind (unwrap_or after place)
settle after Ended = Ended
settle after Onward = Onward

pub settle_behind : (after : Option ℕ) (place : ℕ) (come : Come) → settle after (behind place come) ≡ settle (Some (unwrap_or after place)) come
settle_behind after place (Behind end) = refl
settle_behind after place Ended = refl
settle_behind after place Onward = refl

pub nil_of : (xs : List ℕ) → length xs ≡ 0 → xs ≡ []
nil_of [] none = refl
nil_of (x ∷ xs) none = absurd (omega arith)

-- ---- an error that is handed on

pub fails : (takes : Takes) (left left' : ℕ) (result : Result ℕ Stop) (stop : Stop) → IsErr result × IsErrAnd result (λ other. other ≡ stop)
    → Read takes left left' (Err stop) → Read takes left left' result
fails takes left left' (Ok place) stop is failed = absurd is.1
fails takes left left' (Err other) stop is failed = rw is.1 failed

-- ---- one part after another

-- The first part was read, and the next one came so far.
pub then_next : (first : Takes) (next : ℕ → Takes) {place left mid left' : ℕ} {result : Result ℕ Stop} → Read first left mid (Ok place) → Read (next place) mid left' result
    → Read (Then first next) left left' result
then_next first next (read is takes) (read is' takes') = read (omega arith) (both takes takes' refl)
then_next first next (read is takes) (stopped few takes') = stopped (omega arith) (both takes takes' refl)
then_next first next (read is takes) (wanting many takes') = wanting (omega arith) (both takes takes' refl)

-- The first part was not read.
pub then_stop : (first : Takes) (next : ℕ → Takes) {left left' : ℕ} {stop : Stop} → Read first left left' (Err stop) → Read (Then first next) left left' (Err stop)
then_stop first next (stopped few takes) = stopped few (first_ended takes)
then_stop first next (wanting many takes) = wanting many (first_on takes)

pub nothing : (place left : ℕ) → Read (Nothing place) left left (Ok place)
nothing place left = read {n = 0} (omega arith) (refl, refl)

-- ---- so many parts

-- So many parts were read, and reading stands at a place.
pub record Passes (part : ℕ → Takes) (count start counter at left0 left : ℕ) : Type 0 where
  pub spent : ℕ
  pub is_spent : spent + left ≡ left0
  pub leads : (k n : ℕ) (come : Come) → Times part (count - counter) at k come → n ≡ spent + k → Times part count start n come

pub passes_none : (part : ℕ → Takes) (count start left : ℕ) → Passes part count start 0 start left left
passes_none part count start left = record {
  spent = 0;
  is_spent = omega arith;
  leads = λ k n come takes is.
      let steps : k ≡ n = omega arith in
      let all : count - 0 ≡ count = omega arith in
      subst (λ (c : ℕ). Times part c start n come) all (subst (λ (s : ℕ). Times part (count - 0) start s come) steps takes);
}

pub passes_more : (part : ℕ → Takes) (count start counter at next left0 left left' : ℕ) → counter < count → Passes part count start counter at left0 left
    → Read (part at) left left' (Ok next) → Passes part count start (counter + 1) next left0 left'
passes_more part count start counter at next left0 left left' fewer before (read {n = m} is takes) = record {
  spent = before.spent + m;
  is_spent = omega (arith, before.is_spent);
  leads = λ k n come rest sum.
      let one : suc (count - (counter + 1)) ≡ count - counter = omega arith in
      before.leads (m + k) n come (subst (λ (c : ℕ). Times part c at (m + k) come) one (more_parts takes rest refl)) (omega arith);
}

pub passes_stop : (part : ℕ → Takes) (count start counter at left0 left left' : ℕ) → counter < count → Passes part count start counter at left0 left
    → (stop : Stop) → Read (part at) left left' (Err stop) → Read (Times part count start) left0 left' (Err stop)
passes_stop part count start counter at left0 left left' fewer before Faulty (stopped {n = m} few takes) =
    let one : suc (count - (counter + 1)) ≡ count - counter = omega arith in
    stopped (omega (arith, before.is_spent)) (before.leads m (before.spent + m) Ended (subst (λ (c : ℕ). Times part c at m Ended) one (part_ended takes)) refl)
passes_stop part count start counter at left0 left left' fewer before Dear (wanting {n = m} many takes) =
    let one : suc (count - (counter + 1)) ≡ count - counter = omega arith in
    wanting (omega (arith, before.is_spent)) (before.leads m (before.spent + m) Onward (subst (λ (c : ℕ). Times part c at m Onward) one (part_on takes)) refl)

pub passes_all : (part : ℕ → Takes) (count start counter at left0 left : ℕ) → count ≤ counter → Passes part count start counter at left0 left
    → Read (Times part count start) left0 left (Ok at)
passes_all part count start counter at left0 left all before =
    let none : 0 ≡ count - counter = omega arith in
    read (omega (arith, before.is_spent)) (before.leads 0 before.spent (Behind at) (subst (λ (c : ℕ). Times part c at 0 (Behind at)) none no_parts) (omega arith))

-- ---- records and messages

pub form_here : (class kind : ℕ) → class ≡ CLASS_IN → form_of kind ≡ form_in class kind
form_here class kind is = rw is refl

pub form_elsewhere : (class kind : ℕ) → class ≢ CLASS_IN → Opaque ≡ form_in class kind
form_elsewhere class kind other = grind (arith, nat_tests)

pub rest_read : (m : List ℕ) (known : Bool) (at : ℕ) {left left' : ℕ} {result : Result ℕ Stop} → data_end m at ≤ length m
    → Read (DataTakes m known (form_at m at) (data_begin at) (data_end m at)) left left' result → Read (RestTakes m known at) left left' result
rest_read m known at fits (read is takes) = read is (record_whole fits takes)
rest_read m known at fits (stopped few takes) = stopped few (record_whole fits takes)
rest_read m known at fits (wanting many takes) = wanting many (record_whole fits takes)

pub no_parts_read : (m : List ℕ) (known : Bool) (form : Form) (begin end left : ℕ) → (form ≡ A) ⊎ ((form ≡ Aaaa) ⊎ (form ≡ Opaque)) → Read (DataTakes m known form begin end) left left (Ok end)
no_parts_read m known form begin end left (inl is) = rw is (nothing end left)
no_parts_read m known form begin end left (inr (inl is)) = rw is (nothing end left)
no_parts_read m known form begin end left (inr (inr is)) = rw is (nothing end left)

flags_test : (flags : ℕ) → flags < 2 ^ 16 → nat_le RESPONSE_MARK flags ≡ (flags / 32768 % 2 == 1)
flags_test flags small =
    elim (cases_Bool (nat_le RESPONSE_MARK flags)) [
      | inl more ↦ let bit : flags / 32768 % 2 ≡ 1 = omega (arith, leb-true RESPONSE_MARK flags more) in more ∙ rw bit refl
      | inr less ↦ let bit : flags / 32768 % 2 ≡ 0 = omega (arith, leb-false RESPONSE_MARK flags less) in less ∙ rw bit refl
    ]

some_test : (questions : ℕ) (bit : Bool) → 0 < questions → bit ≡ (nat_lt 0 questions && bit)
some_test questions bit some = rw (lt-ltb 0 questions some) refl

pub known_if : (m : List ℕ) (questions flags : ℕ) (known : Bool) → questions ≡ question_count m → flags ≡ u16_at m 2 → flags < 2 ^ 16 → 0 < questions → known ≡ nat_le RESPONSE_MARK flags
    → known ≡ is_known m
known_if m questions flags known questions_is flags_is small some is =
    is ∙ flags_test flags small ∙ ap (λ (word : ℕ). word / 32768 % 2 == 1) flags_is ∙ some_test (question_count m) (head_in m).qr (omega arith)

no_test : (questions : ℕ) (bit : Bool) → questions ≡ 0 → nat_lt 0 questions ≡ (nat_lt 0 questions && bit)
no_test questions bit none = rw none refl

pub unknown_if : (m : List ℕ) (questions : ℕ) (known : Bool) → questions ≡ question_count m → questions ≤ 0 → known ≡ nat_lt 0 questions → known ≡ is_known m
unknown_if m questions known questions_is none is =
    is ∙ ap (λ (count : ℕ). nat_lt 0 count) questions_is ∙ no_test (question_count m) (head_in m).qr (omega arith)

pub message_read : (m : List ℕ) {left left' : ℕ} {result : Result ℕ Stop} → HEADER_OCTETS ≤ length m
    → Read (Then (Times (QuestionTakes m) (question_count m) HEADER_OCTETS) (λ at. Times (RecordTakes m (is_known m)) (records_in m) at)) left left' result
    → Read (MessageTakes m) left left' result
message_read m fits (read is takes) = read is (parts fits takes)
message_read m fits (stopped few takes) = stopped few (parts fits takes)
message_read m fits (wanting many takes) = wanting many (parts fits takes)

pub quick_read : (m : List ℕ) {left place : ℕ} → Read (MessageTakes m) MOST_STEPS left (Ok place) → IsQuick m
quick_read m (read {place = end} {n = steps} is takes) = (steps, omega arith, inr (end, takes))
