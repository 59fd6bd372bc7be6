-- What octets ask for is one thing.
use Rattle.std.proofs.Common.{◌≡◌, ℕ, ◌<◌, ◌≤◌, List, length, refl, sym, ap, ◌∙◌, arith}
use Rattle.std.specs.Prelude.{Bool, true, false}
use Rattle.dns_text.specs.declared.record.Question.{Question}
use Rattle.dns_wire.specs.declared.message.Classed.{Classed}
use Rattle.dns_wire.specs.declared.server.query.Asked.{Asked}
use Rattle.dns_wire.specs.Server.Asking.{IsMalformed, other_count, no_message, pointer, AsksQuestion, IsAnswerable, AsksFor, no_header, reply, other_opcode, malformed, unanswerable, good, SameAsked}
use Rattle.dns_wire.proofs.AskingLaws.{true_differs}
use Rattle.dns_wire.proofs.QuestionLaws.{question_read-stands}

-- ---- what excludes what

cut_header : (n : ℕ) → n < 12 → ¬ (12 ≤ n)
cut_header n few enough = omega (arith, few, enough)

not_both : {b : Bool} → b ≡ true → ¬ (b ≡ false)
not_both h k = true_differs (sym h ∙ k)

well_formed : {m : List ℕ} {q : Classed Question} {after : ℕ} → IsMalformed m → ¬ (AsksQuestion m q after)
well_formed (other_count not) h = not h.one
well_formed (no_message none) h = none h.message h.spelled
well_formed (pointer p) h = h.whole p

-- One question is there, and it ends at one place.
record Same (q r : Classed Question) (after end : ℕ) : Type 0 where
  question : q ≡ r
  place : after ≡ end

same_question : {m : List ℕ} {q r : Classed Question} {after end : ℕ} → 12 ≤ length m → AsksQuestion m q after → AsksQuestion m r end → Same q r after end
same_question {m} {q} {r} {after} {end} header h k =
    let e = sym (question_read-stands header h.question) ∙ question_read-stands header k.question in
    let x : Classed Question × ℕ = (q, after) in
    let y : Classed Question × ℕ = (r, end) in
    let f : x ≡ y = cc in
    record { question = ap (λ z. z.0) f; place = ap (λ z. z.1) f }

answerable : {m : List ℕ} {q r : Classed Question} {after end : ℕ} → 12 ≤ length m → AsksQuestion m q after → ¬ (IsAnswerable q) → AsksQuestion m r end → ¬ (IsAnswerable r)
answerable header h not k is = not (rw (same_question header h k).question is)

-- ---- one thing

pub asked_once : {m : List ℕ} {a b : Asked} → AsksFor m a → AsksFor m b → SameAsked a b
asked_once (no_header few) (no_header less) = tt
asked_once (no_header few) (reply h is) = tt
asked_once (no_header few) (other_opcode h is not) = absurd (cut_header _ few h)
asked_once (no_header few) (malformed s bad) = absurd (cut_header _ few s.header)
asked_once (no_header few) (unanswerable s k not) = absurd (cut_header _ few s.header)
asked_once (no_header few) (good s k is of) = absurd (cut_header _ few s.header)
asked_once (reply h is) (no_header few) = tt
asked_once (reply h is) (reply h' is') = tt
asked_once (reply h is) (other_opcode h' is' not) = absurd (not_both is is')
asked_once (reply h is) (malformed s bad) = absurd (not_both is s.request)
asked_once (reply h is) (unanswerable s k not) = absurd (not_both is s.request)
asked_once (reply h is) (good s k can of) = absurd (not_both is s.request)
asked_once (other_opcode h is not) (no_header few) = absurd (cut_header _ few h)
asked_once (other_opcode h is not) (reply h' is') = absurd (not_both is' is)
asked_once (other_opcode h is not) (other_opcode h' is' not') = refl
asked_once (other_opcode h is not) (malformed s bad) = absurd (not s.standard)
asked_once (other_opcode h is not) (unanswerable s k not') = refl
asked_once (other_opcode h is not) (good s k can of) = absurd (not s.standard)
asked_once (malformed s bad) (no_header few) = absurd (cut_header _ few s.header)
asked_once (malformed s bad) (reply h is) = absurd (not_both is s.request)
asked_once (malformed s bad) (other_opcode h is not) = absurd (not s.standard)
asked_once (malformed s bad) (malformed s' bad') = refl
asked_once (malformed s bad) (unanswerable s' k not) = absurd (well_formed bad k)
asked_once (malformed s bad) (good s' k can of) = absurd (well_formed bad k)
asked_once (unanswerable s h not) (no_header few) = absurd (cut_header _ few s.header)
asked_once (unanswerable s h not) (reply h' is) = absurd (not_both is s.request)
asked_once (unanswerable s h not) (other_opcode h' is not') = refl
asked_once (unanswerable s h not) (malformed s' bad) = absurd (well_formed bad h)
asked_once (unanswerable s h not) (unanswerable s' k not') = refl
asked_once (unanswerable s h not) (good s' k can of) = absurd (answerable s.header h not k can)
asked_once (good s h can of) (no_header few) = absurd (cut_header _ few s.header)
asked_once (good s h can of) (reply h' is) = absurd (not_both is s.request)
asked_once (good s h can of) (other_opcode h' is not) = absurd (not s.standard)
asked_once (good s h can of) (malformed s' bad) = absurd (well_formed bad h)
asked_once (good s h can of) (unanswerable s' k not) = absurd (answerable s.header k not h can)
asked_once (good s h can of) (good s' k can' of') =
    let same = same_question s.header h k in
    (of.id ∙ sym of'.id, of.rd ∙ sym of'.rd, of.question ∙ ap (λ q. q.item) same.question ∙ sym of'.question, of.octets ∙ rw same.place (sym of'.octets))
