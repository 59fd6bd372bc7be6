use Rattle.dns_query.proofs.judging.judge.Goals as goal

pub returns-in-None : goal.returns-in-None
returns-in-None c = λ v response. absurd ((rw c.in-None.is at c.in_ok-read.ensures) v response.spelled)
