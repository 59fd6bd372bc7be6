use Rattle.dns_text.proofs.Ipv6Laws.{cut_colon}
use Rattle.dns_text.proofs.ipv6.cut_at_colon.Goals as goal

pub returns-clause-cut : goal.returns-clause-cut
returns-clause-cut c = cut_colon c.args.text.now c.cut_at.result c.cut_at.ensures.value
