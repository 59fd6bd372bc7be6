use Rattle.std.proofs.Common.{sym, ◌∙◌}
use Rattle.std.proofs.lemmas.Bool.{false≢true}
use Rattle.dns_query.proofs.VerdictLaws.{not_meeting}
use Rattle.dns_query.proofs.judging.judged.Goals as goal

pub returns-then-not-meets : goal.returns-then-not-meets
returns-then-not-meets c = λ octets r. not_meeting r c.args.over (λ m. false≢true (sym c.if-not-meets.true ∙ c.meets.ensures.1 m))

pub returns : goal.returns
returns c = λ octets r. c.heard.ensures c.args.over c.args.id octets r (c.meets.ensures.0 c.if-not-meets.false)
