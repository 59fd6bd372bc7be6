use Rattle.dns_wire.proofs.ReplyLaws.{head_spelled}
use Rattle.dns_wire.proofs.server.replying.fault_reply.Goals as goal

pub returns-clause-spelled : goal.returns-clause-spelled
returns-clause-spelled c =
    rw (c.header_of.ensures.value, c.head_in-query.ensures) (head_spelled _ (rw c.head_in-query.ensures at c.header_of.ensures.fits))
