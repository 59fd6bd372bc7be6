-- Reading a question gives the one that is there, and the first fault where none does.
use Rattle.std.proofs.Common.{◌≡◌, ℕ, ◌+◌, ◌≤◌, List, length, Result, Ok, Err, refl, inl, inr, ltb, arith}
use Rattle.std.specs.Prelude.{MatchResult}
use Rattle.std.proofs.lemmas.Bool.{cases_Bool, le-ltb, lt-ltb, ltb-true, ltb-false}
use Rattle.dns_name.specs.Labels.{Labels}
use Rattle.dns_text.specs.declared.record.Question.{Question}
use Rattle.dns_wire.specs.declared.fault.WireFault.{WireFault}
use Rattle.dns_wire.specs.declared.message.Classed.{Classed}
use Rattle.dns_wire.specs.Read.Name.{SpelledName, UnspelledName, name_read}
use Rattle.dns_wire.specs.Read.Question.{QuestionAt, QuestionFails, bad_owner, short, question_behind, question_read}
use Rattle.dns_name.specs.Results.{◌>>=◌}
use Rattle.dns_wire.proofs.NameLaws.{name_read-match, name_read-spelled, name_read-unspelled}

-- what is there is read
pub question_read-stands : {m : List ℕ} {at after : ℕ} {q : Classed Question} → at ≤ length m → QuestionAt m at q after → question_read m at ≡ Ok (q, after)
unfolding question_read
question_read-stands {m} {at} {after} {q} within h =
    let owner = name_read-spelled m at h.fixed q.item.owner within h.owner in
    rw (owner, le-ltb (length m) (h.fixed + 4) (omega (arith, h.ends, h.within)), ← h.kind, ← h.class, ← h.ends) refl

-- the first fault is told
pub question_read-fails : {m : List ℕ} {at : ℕ} {fault : WireFault} → at ≤ length m → QuestionFails m at fault → question_read m at ≡ Err fault
unfolding question_read
question_read-fails {m} {at} {fault} within (bad_owner h) = rw (name_read-unspelled m at fault within h) refl
question_read-fails {m} {at} within (short {fixed = fixed} {name = name} h few) =
    rw (name_read-spelled m at fixed name within h, lt-ltb (length m) (fixed + 4) few) refl

behind_match : (m : List ℕ) (at : ℕ) (r : Result (Labels × ℕ) WireFault) → MatchResult r (λ x. SpelledName m at x.1 x.0) (λ e. UnspelledName m at e) → MatchResult (r >>= question_behind m) (λ x. QuestionAt m at x.0 x.1) (λ e. QuestionFails m at e)
behind_match m at (Err e) h = bad_owner h
behind_match m at (Ok x) h =
    elim (cases_Bool (ltb (length m) (x.1 + 4))) [
      | inl few ↦ rw few (short h (ltb-true (length m) (x.1 + 4) few))
      | inr enough ↦ rw enough (record { fixed = x.1; owner = h; kind = refl; class = refl; ends = refl; within = ltb-false (length m) (x.1 + 4) enough })
    ]

-- what is read is there, and a fault is the first
pub question_read-match : (m : List ℕ) (at : ℕ) → at ≤ length m → MatchResult (question_read m at) (λ x. QuestionAt m at x.0 x.1) (λ e. QuestionFails m at e)
unfolding question_read
question_read-match m at within = behind_match m at (name_read m at) (name_read-match m at within)
