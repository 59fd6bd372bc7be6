use Rattle.std.proofs.Common.{inl, inr, sym, ◌∙◌}
use Rattle.std.proofs.lemmas.Bool.{false≢true}
use Rattle.dns_query.specs.Verdict.{IsAnswer}
use Rattle.dns_query.proofs.VerdictLaws.{answer_in, not_telling}
use Rattle.dns_query.proofs.judging.says.Goals as goal

pub returns-then-is_answer : goal.returns-then-is_answer
returns-then-is_answer c = answer_in _ _ _ _ c.args.question.now c.requires.finds c.requires.passing (c.is_answer.ensures.0 c.if-is_answer.true)

pub returns-then-message : goal.returns-then-message
returns-then-message c =
    let no_answer : ¬ (IsAnswer c.args.zone.now c.args.question.now c.args.message.now) =
    λ h. false≢true (sym c.if-is_answer.false ∙ c.is_answer.ensures.1 (answer_in _ _ _ _ c.args.question.now (sym c.requires.finds) (sym c.requires.passing) h)) in
    c.in_ok-says.ensures c.args.port (record { authoritative = c.if-message.true; no_set = λ has. no_answer (inl has); no_alias = λ has. no_answer (inr has) })

pub returns-in-None : goal.returns-in-None
returns-in-None c =
    let no_answer : ¬ (IsAnswer c.args.zone.now c.args.question.now c.args.message.now) =
    λ h. false≢true (sym c.if-is_answer.false ∙ c.is_answer.ensures.1 (answer_in _ _ _ _ c.args.question.now (sym c.requires.finds) (sym c.requires.passing) h)) in
    not_telling no_answer c.if-message.false (rw c.in-None.is at c.in_ok-referral_of.ensures)
