use Rattle.std.proofs.Common.{◌≡◌, ◌+◌, ℕ, Bool, Ok, Err, subst, arith}
use Rattle.dns_wire.specs.declared.limits.TheConstants.{HEADER_OCTETS}
use Rattle.replies.specs.Dear.{QuestionTakes, Read, RecordTakes, Times, is_known, no_header, records_in, stopped}
use Rattle.replies.proofs.Dearness.{fails, known_if, message_read, unknown_if, then_next, then_stop}
use Rattle.replies.proofs.dear.pass_message.Goals as goal
use Rattle.replies.proofs.dear.pass_message.Goals.{then-questions-gt0, else-questions-gt0}

pub returns-in_err-questions : goal.returns-in_err-questions
returns-in_err-questions c =
    let stops = c.in_err-questions.ensures.err in
    fails _ _ _ _ _ c.from_residual.ensures (rw stops.0 (stopped {n = 0} (omega arith) (no_header (omega (arith, stops.1)))))

pub returns-in_err-number_at : goal.returns-in_err-number_at
returns-in_err-number_at c =
    let stops = c.in_err-number_at.ensures.err in
    fails _ _ _ _ _ c.from_residual-in_err-number_at.ensures (rw stops.0 (stopped {n = 0} (omega arith) (no_header (omega (arith, stops.1)))))

pub returns-in_err-number_at-2 : goal.returns-in_err-number_at-2
returns-in_err-number_at-2 c =
    let stops = c.in_err-number_at-2.ensures.err in
    fails _ _ _ _ _ c.from_residual-in_err-number_at-2.ensures (rw stops.0 (stopped {n = 0} (omega arith) (no_header (omega (arith, stops.1)))))

pub returns-in_err-number_at-3 : goal.returns-in_err-number_at-3
returns-in_err-number_at-3 c =
    let stops = c.in_err-number_at-3.ensures.err in
    fails _ _ _ _ _ c.from_residual-in_err-number_at-3.ensures (rw stops.0 (stopped {n = 0} (omega arith) (no_header (omega (arith, stops.1)))))

pub returns-in_err-at : goal.returns-in_err-at
returns-in_err-at c =
    let m = c.args.octets.now in
    let questions = subst (λ (count : ℕ). Read (Times (QuestionTakes m) count HEADER_OCTETS) c.args.left.now c.pass_questions.new.left (Err c.in_err-at.field-0.0)) c.in_ok-questions.ensures.ok c.in_err-at.ensures in
    fails _ _ _ _ _ c.from_residual-in_err-at.ensures (message_read m (omega (arith, c.in_ok-number_at-3.ensures.within)) (then_stop _ _ questions))

pub returns : goal.returns
returns c =
    let m = c.args.octets.now in
    let at = c.in_ok-at.at in
    let mid = c.pass_questions.new.left in
    let left' = c.pass_records.new.left in
    let result = c.pass_records.result in
    let questions = subst (λ (count : ℕ). Read (Times (QuestionTakes m) count HEADER_OCTETS) c.args.left.now mid (Ok at)) c.in_ok-questions.ensures.ok c.in_ok-at.ensures in
    let known : c.if-questions-gt0.copies ≡ is_known m = elim c.if-questions-gt0.branch [
      | then-questions-gt0 w ↦ known_if m _ _ _ c.in_ok-questions.ensures.ok c.in_ok-flags.ensures.ok (omega arith) w.if-questions-gt0.true w.copies-is
      | else-questions-gt0 w ↦ unknown_if m _ _ c.in_ok-questions.ensures.ok w.if-questions-gt0.false w.copies-is
    ] in
    let count : c.from.result + c.from-2.result + c.from-3.result ≡ records_in m = omega (
      arith,
      c.from.ensures,
      c.from-2.ensures,
      c.from-3.ensures,
      c.in_ok-number_at.ensures.ok,
      c.in_ok-number_at-2.ensures.ok,
      c.in_ok-number_at-3.ensures.ok,
    )
    in
    let records = subst (λ (known : Bool). Read (Times (RecordTakes m known) (records_in m) at) mid left' result) known
    (subst (λ (count : ℕ). Read (Times (RecordTakes m c.if-questions-gt0.copies) count at) mid left' result) count c.pass_records.ensures)
    in
    message_read m (omega (arith, c.in_ok-number_at-3.ensures.within)) (then_next _ _ questions records)
