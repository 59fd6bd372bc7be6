use Rattle.dns_wire.specs.Read.Header.{head_in}
use Rattle.dns_wire.proofs.ReplyLaws.{cut_spelled}
use Rattle.dns_wire.proofs.server.replying.cut_for_udp.Goals as goal

pub returns-then-len-gt-MOST_UDP_OCTETS-clause-spelled : goal.returns-then-len-gt-MOST_UDP_OCTETS-clause-spelled
returns-then-len-gt-MOST_UDP_OCTETS-clause-spelled c =
    let m = c.args.reply.now.items in
    let q = c.args.query.now in
    λ more. rw c.cut_to_question.ensures.cut (cut_spelled (head_in m) q.question q.octets c.cut_to_question.ensures.head c.cut_to_question.ensures.name q.spelled)
