-- What a call of what lies under the lock says of its answer.
use Rattle.std.proofs.Common.{◌≡◌, ℕ, Bool, ◌+◌, ◌≤◌, List, length, refl, sym, ◌∙◌, ap, subst, arith, inl, inr}
use Rattle.std.specs.Prelude.{◌⊎◌, Result, Ok, Err, IfOk, IfErr, IsErrOf}
use Rattle.history.specs.declared.event.Event.{Event}
use Rattle.history.specs.declared.event.Reply.{Reply}
use Rattle.history.specs.declared.event.Reply.TheVariants.{Swept}
use Rattle.history.specs.declared.desk.DeskFault.{DeskFault}
use Rattle.history.specs.declared.event.Settings.{Settings}
use Rattle.history.specs.declared.book.StepFault.{StepFault}
use Rattle.history.specs.declared.book.StepFault.TheVariants.{BadMoment, CountEnded, Full, NoMemory}
use Rattle.history.specs.declared.limits.TheConstants.{MOST_EVENTS}
use Rattle.history.specs.Answers.{Answers, IsTimely}
use Rattle.history.specs.Desk.{IsStep as IsBookStep}
use Rattle.history.specs.History.{past_of}
use Rattle.history.specs.Reply.{reply_of}
use Rattle.shared_book.specs.declared.fault.CallFault.{CallFault}
use Rattle.shared_book.specs.declared.fault.CallFault.TheVariants.{Step, Behind}
use Rattle.shared_book.specs.Pass.{PassState, after_call}
use Rattle.shared_book.specs.Kept.{KeptState, IsKept, IsKeptAs, IsStep, IsTaken, HasNoRoom, IsCalled, HasFreeRoom, IsFreeCall, IsSweepThere}
use Rattle.shared_book.specs.Record.{receipt_for}
use Rattle.shared_book.specs.Calling.{IsReason, IsCallReply, IsFaultOf, IsCall, IsLocked, IsReceiptOf, SeatCall, SweepsOn, answer_at_desk, turns_for}
use Rattle.shared_book.proofs.RecordLaws.{all_events, as_many}

-- a fault that a history explains has its reason
reason : (settings made_with : Settings) (h : List Event) (event : Event) (fault : StepFault) → made_with ≡ settings → Answers made_with h event (Err fault) → IsReason settings event fault
reason settings made_with h event BadMoment same answers = answers
reason settings made_with h event CountEnded same answers = answers.0
reason settings made_with h event (Full n) same answers = (answers.1, answers.2 ∙ ap (λ (s : Settings). s.cells) same)
reason settings made_with h event NoMemory same answers = tt

-- a call is told no more than the step of its book
pub same_fault : {A C : Type 0} (fault : StepFault) → IsErrOf {T = A} (Err (Step fault)) (Step NoMemory) → IsErrOf {T = C} (Err fault) NoMemory
same_fault fault is = (cc)

-- a step of an equal book that found no memory
pub step_alike : {B : Type 0} (stands_for : B → List Event → Type 0) (made_with : B → Settings) (stored : B → ℕ) (event : Event) (answer : Result Reply StepFault) {before other : B} (after : B)
    → other ≡ before → IsErrOf answer NoMemory → IsBookStep stands_for made_with stored other event answer after → IsBookStep stands_for made_with stored before event (Err NoMemory) after
step_alike stands_for made_with stored event (Ok reply) after same is step = (cc)
step_alike stands_for made_with stored event (Err NoMemory) after same is step = subst (λ b. IsBookStep stands_for made_with stored b event (Err NoMemory) after) same step
step_alike stands_for made_with stored event (Err BadMoment) after same is step = (cc)
step_alike stands_for made_with stored event (Err CountEnded) after same is step = (cc)
step_alike stands_for made_with stored event (Err (Full n)) after same is step = (cc)

module _ {B : Type 0} (stands_for : B → List Event → Type 0) (made_with : B → Settings) (stored : B → ℕ) where
  -- what a step under the lock may answer
  answers_of : (before after : KeptState B) (pass pass' : PassState) (event : Event) (answer : Result Reply StepFault) (kept : IsKept stands_for made_with before)
      → IsStep stands_for made_with stored before pass event answer after pass' → Answers (made_with before.book) (all_events stands_for made_with before kept) event answer
  answers_of before after pass pass' event answer kept step =
      let history : List Event = all_events stands_for made_with before kept in
      elim step.taken [
        | inl taken ↦
            let book : IsBookStep stands_for made_with stored before.book event answer after.book
            = subst (λ (b : B). IsBookStep stands_for made_with stored b event answer after.book) step.moves.same_book taken.book in
            book.answers history kept.stands
        | inr full ↦
            let many : step.between.total ≡ length history = step.moves.same_total ∙ sym (as_many stands_for made_with before kept) in
            subst (λ (a : Result Reply StepFault). Answers (made_with before.book) history event a) (sym full.1.told) (subst (λ n. IsTimely n event) many full.1.timely)
      ]

  -- a reply is the book's
  called_by : (between after : KeptState B) (pass pass' : PassState) (event : Event) (reply : Reply)
      → IsTaken stands_for made_with stored between pass event (Ok reply) after pass' ⊎ HasNoRoom between pass event (Ok reply) after pass' → IsCalled between after pass event reply pass'
  called_by between after pass pass' event reply (inl taken) = taken.called
  called_by between after pass pass' event reply (inr full) = let never : Ok reply ≡ Err NoMemory = full.1.told in absurd (cc)

  -- a pass stays after a fault
  pass_stays : (between after : KeptState B) (pass pass' : PassState) (event : Event) (fault : StepFault)
      → IsTaken stands_for made_with stored between pass event (Err fault) after pass' ⊎ HasNoRoom between pass event (Err fault) after pass' → pass' ≡ pass
  pass_stays between after pass pass' event fault (inl taken) = taken.same_pass
  pass_stays between after pass pass' event fault (inr full) = full.1.same_pass

  ended : (before after : KeptState B) (pass pass' : PassState) (event : Event) (answer : Result Reply CallFault) → IsKept stands_for made_with before
      → IsCall stands_for made_with stored before pass event answer after pass' → IsErrOf answer (Step CountEnded) → MOST_EVENTS ≤ before.total
  ended before after pass pass' event (Ok reply) kept call is = (cc)
  ended before after pass pass' event (Err (Step BadMoment)) kept call is = (cc)
  ended before after pass pass' event (Err (Step CountEnded)) kept call is =
      let answers = answers_of before after pass pass' event (Err CountEnded) kept call.1 in
      omega (arith, answers.1, as_many stands_for made_with before kept)
  ended before after pass pass' event (Err (Step (Full n))) kept call is = (cc)
  ended before after pass pass' event (Err (Step NoMemory)) kept call is = (cc)
  ended before after pass pass' event (Err (Behind at)) kept call is = (cc)

  -- such a call as a caller knows of it, who does not know what lay there
  pub locked : (is_free : B → Event → Type 0) (settings : Settings) (before after : KeptState B) (pass pass' : PassState) (event : Event) (answer : Result Reply CallFault) → IsKeptAs stands_for made_with settings before
      → IsCall stands_for made_with stored before pass event answer after pass'
      → (IsFreeCall is_free before event → ¬ (IsErrOf answer (Step NoMemory)))
      → (HasFreeRoom is_free before → IsErrOf answer (Step NoMemory) → IsBookStep stands_for made_with stored before.book event (Err NoMemory) after.book) → IsLocked stands_for made_with stored is_free settings pass event answer pass'
  locked is_free settings before after pass pass' event answer there call free own =
      record { before = before; after = after; there = there; call = call; ended = ended before after pass pass' event answer there.kept call; free = free; own = own }

  replied_by : (settings : Settings) (before after : KeptState B) (pass pass' : PassState) (event : Event) (reply : Reply) → IsKeptAs stands_for made_with settings before
      → IsCall stands_for made_with stored before pass event (Ok reply) after pass' → IsCallReply settings pass event reply pass'
  replied_by settings before after pass pass' event reply there call =
      let history : List Event = all_events stands_for made_with before there.kept in
      let step : IsStep stands_for made_with stored before pass event (Ok reply) after pass' = call.1 in
      let called : IsCalled step.between after pass event reply pass' = called_by step.between after pass pass' event reply step.taken in
      let answers : Answers (made_with before.book) history event (Ok reply) = answers_of before after pass pass' event (Ok reply) there.kept step in
      let seen : pass'.seen ≡ after.total = ap (λ (p : PassState). p.seen) called.counted in
      let many : length history ≡ before.total = as_many stands_for made_with before there.kept in
      let place : pass'.seen ≡ length history + 1 = omega (arith, seen, called.total, step.moves.same_total, many) in
      record {
        counted = called.counted ∙ ap (after_call pass) (sym seen);
        later = omega (arith, call.0, place, many);
        justified = record {
          history = history;
          place = place;
          timely = answers.0;
          reply_is = subst (λ (s : Settings). reply ≡ reply_of s (past_of s.journal history) event) there.same_settings answers.1;
        };
      }

  -- what a caller knows of its reply
  pub replied : (settings : Settings) (before after : KeptState B) (pass pass' : PassState) (event : Event) (answer : Result Reply CallFault) → IsKeptAs stands_for made_with settings before
      → IsCall stands_for made_with stored before pass event answer after pass' → IfOk answer (λ reply. IsCallReply settings pass event reply pass')
  replied settings before after pass pass' event (Ok reply) there call = replied_by settings before after pass pass' event reply there call
  replied settings before after pass pass' event (Err fault) there call = tt

  -- what a caller knows of a fault
  pub refused : (settings : Settings) (before after : KeptState B) (pass pass' : PassState) (event : Event) (answer : Result Reply CallFault) → IsKeptAs stands_for made_with settings before
      → IsCall stands_for made_with stored before pass event answer after pass' → IfErr answer (λ fault. IsFaultOf settings pass event fault pass')
  refused settings before after pass pass' event (Ok reply) there call = tt
  refused settings before after pass pass' event (Err (Step fault)) there call =
      let history : List Event = all_events stands_for made_with before there.kept in
      record { reason = reason settings (made_with before.book) history event fault there.same_settings (answers_of before after pass pass' event (Err fault) there.kept call.1); same = pass_stays call.1.between after pass pass' event fault call.1.taken }
  refused settings before after pass pass' event (Err (Behind at)) there call = record { reason = omega (arith, call.0, call.1); same = call.3 }

  -- a caller who gets no receipt knows as much as from its receipt
  seat_answer : (is_free : B → Event → Type 0) (settings : Settings) (pass pass' : PassState) (event : Event) (answer : Result Reply CallFault)
      → IfOk answer (λ reply. IsCallReply settings pass event reply pass') → IfErr answer (λ fault. IsFaultOf settings pass event fault pass')
      → IsLocked stands_for made_with stored is_free settings pass event answer pass' → SeatCall stands_for made_with stored is_free settings pass event (answer_at_desk answer) pass'
  seat_answer is_free settings pass pass' event (Ok reply) ok err locked =
      let got : IsReceiptOf pass event (receipt_for pass'.seen pass.caller event reply) pass' = record { caller = refl; event_is = refl; later = ok.later; counted = ok.counted } in
      (receipt_for pass'.seen pass.caller event reply, refl, got, ok.justified, inr locked)
  seat_answer is_free settings pass pass' event (Err (Step fault)) ok err locked = (err.same, err.reason, inr locked)
  seat_answer is_free settings pass pass' event (Err (Behind at)) ok err locked = (err.same, err.reason, inr locked)

  pub seat_call : (is_free : B → Event → Type 0) (settings : Settings) (pass pass' : PassState) (event : Event) (answer : Result Reply CallFault) (told : Result Reply DeskFault)
      → told ≡ answer_at_desk answer → IfOk answer (λ reply. IsCallReply settings pass event reply pass') → IfErr answer (λ fault. IsFaultOf settings pass event fault pass')
      → IsLocked stands_for made_with stored is_free settings pass event answer pass' → SeatCall stands_for made_with stored is_free settings pass event told pass'
  seat_call is_free settings pass pass' event answer told is ok err locked =
      subst (λ (t : Result Reply DeskFault). SeatCall stands_for made_with stored is_free settings pass event t pass') (sym is)
      (seat_answer is_free settings pass pass' event answer ok err locked)

-- a sweep at a seat goes on
pub sweeps_on : {B : Type 0} (stands_for : B → List Event → Type 0) (made_with : B → Settings) (stored unswept : B → ℕ) (settings : Settings) (whole : Bool) (reply : Reply)
    → (reply ≡ Swept → IsSweepThere stands_for made_with stored unswept settings whole (turns_for whole)) → SweepsOn stands_for made_with stored unswept settings whole (Ok reply)
sweeps_on stands_for made_with stored unswept settings whole Swept goes = goes refl
sweeps_on stands_for made_with stored unswept settings whole reply goes = tt
