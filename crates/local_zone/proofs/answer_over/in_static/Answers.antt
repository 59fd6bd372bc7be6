use Rattle.std.proofs.Common.{sym, ◌∙◌, arith}
use Rattle.local_zone.proofs.AnswerOverLaws.{static_none, static_some}
use Rattle.local_zone.proofs.answer_over.in_static.Goals as goal

pub returns-then-count_of-gt0-clause-ok : goal.returns-then-count_of-gt0-clause-ok
returns-then-count_of-gt0-clause-ok c =
    static_some c.args.side.now c.args.asked.now c.args.zone.now c.requires (sym c.in_default.is ∙ c.in_ok-set.ensures.ok) c.in_ok-soa.soa c.in_ok-soa.ensures.ok
    (omega (arith, c.count_of.ensures, c.if-count_of-gt0.true))

pub returns-else-count_of-gt0-clause-ok : goal.returns-else-count_of-gt0-clause-ok
returns-else-count_of-gt0-clause-ok c =
    static_none c.args.side.now c.args.asked.now c.args.zone.now c.requires (sym c.in_default.is ∙ c.in_ok-set.ensures.ok) c.in_ok-soa.soa c.in_ok-soa.ensures.ok
    (omega (arith, c.count_of.ensures, c.if-count_of-gt0.false))
