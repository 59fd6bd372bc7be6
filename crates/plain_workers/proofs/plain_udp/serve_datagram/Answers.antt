use Rattle.std.specs.Prelude.{Some, None}
use Rattle.std.proofs.Common.{refl}
use Rattle.replies.specs.Reply.{fault_octets}
use Rattle.plain_workers.specs.UdpWorking.{served, unserved, too_long, too_long_reply}
use Rattle.plain_workers.proofs.Headers.{unserved_header}
use Rattle.plain_workers.proofs.plain_udp.serve_datagram.Goals as goal

pub returns-then-wants_reply-clause-answered : goal.returns-then-wants_reply-clause-answered
returns-then-wants_reply-clause-answered g c =
    (Some (fault_octets c.args.octets.now 1), too_long c.if-octets-gt-MOST_DATAGRAM.true c.if-wants_reply.ensures refl, c.give_fault.ensures.given)

pub returns-else-wants_reply-clause-answered : goal.returns-else-wants_reply-clause-answered
returns-else-wants_reply-clause-answered g c = (None, too_long_reply c.if-octets-gt-MOST_DATAGRAM.true c.if-wants_reply.ensures, refl)

pub give_fault-requires-in-Err : goal.give_fault-requires-in-Err
give_fault-requires-in-Err g c = unserved_header c.in-Err.ensures.unserved

pub returns-in-Ok-None-clause-answered : goal.returns-in-Ok-None-clause-answered
returns-in-Ok-None-clause-answered g c =
    (None, served c.if-octets-gt-MOST_DATAGRAM.false (rw c.in-Ok-None.field-0-is at c.in-Ok-None.ensures.serves), refl)

pub returns-in-Ok-Some-clause-answered : goal.returns-in-Ok-Some-clause-answered
returns-in-Ok-Some-clause-answered g c = (
  Some c.in-Ok-Some.reply.items,
  served c.if-octets-gt-MOST_DATAGRAM.false (rw c.in-Ok-Some.field-0-is at c.in-Ok-Some.ensures.serves),
  rw c.deref.ensures.value at c.give.ensures.given,
)

pub returns-in-Err-clause-answered : goal.returns-in-Err-clause-answered
returns-in-Err-clause-answered g c =
    (Some (fault_octets c.args.octets.now 2), unserved c.if-octets-gt-MOST_DATAGRAM.false c.in-Err.ensures.unserved refl, c.give_fault-in-Err.ensures.given)
