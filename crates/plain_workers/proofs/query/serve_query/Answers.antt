use Rattle.std.proofs.Common.{length}
use Rattle.plain_workers.specs.Serves.{dropped, faulty, too_dear, unread}
use Rattle.replies.proofs.Asked.{dear_is_long, fault_header, fault_is_told, good_is_read}
use Rattle.plain_workers.proofs.Headers.{undropped_header}
use Rattle.plain_workers.proofs.Failing.{failing}
use Rattle.plain_workers.proofs.query.serve_query.Goals as goal

pub returns-in_err-read_question-clause-unserved : goal.returns-in_err-read_question-clause-unserved
returns-in_err-read_question-clause-unserved g c = failing c.from_residual-in_err-read_question.result _ (unread (good_is_read c.in_err-read_question.ensures.memory))

pub returns-in-Drop-clause-serves : goal.returns-in-Drop-clause-serves
returns-in-Drop-clause-serves g c = dropped (rw c.in-Drop.is at c.in_ok-read_question.ensures.asked)

pub write_fault-requires : goal.write_fault-requires
write_fault-requires g c = undropped_header c.args.octets.now c.if-wants_reply.ensures

pub returns-in_err-write_fault-clause-unserved : goal.returns-in_err-write_fault-clause-unserved
returns-in_err-write_fault-clause-unserved g c = failing c.from_residual.result _ (unread c.if-wants_reply.ensures)

pub returns-then-wants_reply-clause-serves : goal.returns-then-wants_reply-clause-serves
returns-then-wants_reply-clause-serves g c =
    too_dear (dear_is_long c.is_dear.result 4096 (length c.args.octets.now) c.is_dear.ensures.short c.if-is_dear.true) c.if-wants_reply.ensures c.in_ok-write_fault.ensures.octets

pub write_fault-requires-in-Fault : goal.write_fault-requires-in-Fault
write_fault-requires-in-Fault g c = fault_header (rw c.in-Fault.is at c.in_ok-read_question.ensures.asked)

pub returns-in_err-write_fault-in-Fault-clause-unserved : goal.returns-in_err-write_fault-in-Fault-clause-unserved
returns-in_err-write_fault-in-Fault-clause-unserved g c =
    failing c.from_residual-in_err-write_fault-in-Fault.result _ (unread (fault_is_told (rw c.in-Fault.is at c.in_ok-read_question.ensures.asked)))

pub returns-in_ok-write_fault-in-Fault-clause-serves : goal.returns-in_ok-write_fault-in-Fault-clause-serves
returns-in_ok-write_fault-in-Fault-clause-serves g c =
    faulty (rw c.in-Fault.is at c.in_ok-read_question.ensures.asked) c.in_ok-write_fault-in-Fault.ensures.octets
