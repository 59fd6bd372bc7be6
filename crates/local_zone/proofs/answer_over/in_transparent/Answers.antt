use Rattle.std.proofs.Common.{sym, ◌∙◌}
use Rattle.local_zone.proofs.AnswerOverLaws.{transparent_none, transparent_some}
use Rattle.local_zone.proofs.answer_over.in_transparent.Goals as goal

pub returns-in_ok-first_soa-clause-ok : goal.returns-in_ok-first_soa-clause-ok
returns-in_ok-first_soa-clause-ok c =
    transparent_some c.args.side.now.records c.args.asked.now c.args.zone.now (sym c.in_default.is ∙ c.in_ok-set.ensures.ok) c.in_ok-first_soa.field-0 c.in_ok-first_soa.ensures.ok
    (sym c.has.ensures ∙ c.if-has.true)

pub returns-else-has-clause-ok : goal.returns-else-has-clause-ok
returns-else-has-clause-ok c =
    transparent_none c.args.side.now.records c.args.asked.now c.args.zone.now (sym c.in_default.is ∙ c.in_ok-set.ensures.ok)
    (sym c.has.ensures ∙ c.if-has.false)
