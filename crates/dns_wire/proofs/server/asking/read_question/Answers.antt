use Rattle.std.proofs.Common.{sym, ap, ◌∙◌}
use Rattle.dns_wire.specs.Server.Asking.{no_header, reply, other_opcode, malformed, unanswerable, good, IsGood}
use Rattle.dns_text.specs.Kind.{is_excluded}
use Rattle.dns_wire.proofs.AskingLaws.{asks_question, if_err, true_differs}
use Rattle.dns_wire.proofs.server.asking.read_question.Goals.{then-u16_at-ne-CLASS_IN-via-then-u16_at-ne-CLASS_IN, then-u16_at-ne-CLASS_IN-via-else-u16_at-ne-CLASS_IN+then-is_excluded}
use Rattle.dns_wire.proofs.server.asking.read_question.Goals as goal

pub returns-then-octets-lt-HEADER_OCTETS-clause-asked : goal.returns-then-octets-lt-HEADER_OCTETS-clause-asked
returns-then-octets-lt-HEADER_OCTETS-clause-asked c = no_header c.if-octets-lt-HEADER_OCTETS.true

pub returns-then-head-clause-asked : goal.returns-then-head-clause-asked
returns-then-head-clause-asked c = reply c.if-octets-lt-HEADER_OCTETS.false (rw c.head_in-head.ensures at c.if-head.true)

pub returns-then-not-is_query-clause-asked : goal.returns-then-not-is_query-clause-asked
returns-then-not-is_query-clause-asked c =
    other_opcode c.if-octets-lt-HEADER_OCTETS.false (rw c.head_in-head.ensures at c.if-head.false) (λ h. true_differs (sym ((rw c.head_in-head.ensures at c.is_query.ensures).1 h) ∙ c.if-not-is_query.true))

pub returns-in_default-clause-asked : goal.returns-in_default-clause-asked
returns-in_default-clause-asked c =
    let is = c.head_in-head.ensures in
    malformed (record { header = c.if-octets-lt-HEADER_OCTETS.false; request = rw is at c.if-head.false; standard = (rw is at c.is_query.ensures).0 c.if-not-is_query.false }) c.in_default.ensures

pub returns-then-u16_at-ne-CLASS_IN-clause-asked : goal.returns-then-u16_at-ne-CLASS_IN-clause-asked
returns-then-u16_at-ne-CLASS_IN-clause-asked c =
    let is = c.head_in-head.ensures in
    unanswerable (record { header = c.if-octets-lt-HEADER_OCTETS.false; request = rw is at c.if-head.false; standard = (rw is at c.is_query.ensures).0 c.if-not-is_query.false })
    (asks_question c.in-Some.ensures.1) (elim c.then-u16_at-ne-CLASS_IN.branch [
      | then-u16_at-ne-CLASS_IN-via-then-u16_at-ne-CLASS_IN w ↦ λ h. w.if-u16_at-ne-CLASS_IN.true (c.u16_at.ensures ∙ h.class)
      | then-u16_at-ne-CLASS_IN-via-else-u16_at-ne-CLASS_IN+then-is_excluded w ↦ λ h. true_differs (w.if-is_excluded.ensures ∙ ap (λ k. is_excluded k) w.u16_at-else-u16_at-ne-CLASS_IN.ensures ∙ h.kind)
    ])

pub returns-in_err-query_of-clause-memory : goal.returns-in_err-query_of-clause-memory
returns-in_err-query_of-clause-memory c =
    let is = c.head_in-head.ensures in
    let asks : IsGood c.args.octets.now = record {
      query = record { header = c.if-octets-lt-HEADER_OCTETS.false; request = rw is at c.if-head.false; standard = (rw is at c.is_query.ensures).0 c.if-not-is_query.false };
      q = _;
      after = _;
      question = asks_question c.in-Some.ensures.1;
      answerable = record { class = sym c.u16_at.ensures ∙ c.if-u16_at-ne-CLASS_IN.false; kind = ap (λ k. is_excluded k) (sym c.u16_at-else-u16_at-ne-CLASS_IN.ensures) ∙ sym c.is_excluded.ensures ∙ c.if-is_excluded.false };
    } in
    if_err _ asks

pub returns-clause-asked : goal.returns-clause-asked
returns-clause-asked c =
    let is = c.head_in-head.ensures in
    good (record { header = c.if-octets-lt-HEADER_OCTETS.false; request = rw is at c.if-head.false; standard = (rw is at c.is_query.ensures).0 c.if-not-is_query.false })
    (asks_question c.in-Some.ensures.1) (record { class = sym c.u16_at.ensures ∙ c.if-u16_at-ne-CLASS_IN.false; kind = ap (λ k. is_excluded k) (sym c.u16_at-else-u16_at-ne-CLASS_IN.ensures) ∙ sym c.is_excluded.ensures ∙ c.if-is_excluded.false }) (c.in_ok-query_of.ensures c.in-Some.ensures.0 c.in-Some.ensures.1)
