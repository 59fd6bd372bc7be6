use Rattle.std.proofs.Common.{sym}
use Rattle.dns_text.proofs.StringLaws.{quote_ends, other_ends}
use Rattle.dns_text.proofs.string.before_last_quote.Goals as goal

pub returns-then-last-eq34 : goal.returns-then-last-eq34
returns-then-last-eq34 c = sym (quote_ends _ _ _ c.in_ok-last.ensures.cases.0 c.if-last-eq34.true)

pub returns-else-last-eq34 : goal.returns-else-last-eq34
returns-else-last-eq34 c = sym (other_ends _ _ _ c.in_ok-last.ensures.cases.0 c.if-last-eq34.false)
