use Rattle.dns_wire.proofs.VerdictLaws.{asked_once}
use Rattle.dns_wire.proofs.server.asking.one_verdict.Goals as goal

pub returns : goal.returns
returns c = λ m a b h k. asked_once h k
