use Rattle.dns_query.proofs.VerdictLaws.{nothing_told}
use Rattle.dns_query.proofs.judging.heard.Goals as goal

pub returns-in-None : goal.returns-in-None
returns-in-None c = λ over id octets r meets. nothing_told r over c.requires.whole (rw c.in-None.is at c.in_ok-says.ensures)
