use Rattle.std.proofs.Common.{◌∙◌, refl, inl, arith}
use Rattle.plain_workers.specs.Working.{begins, handled, found_no_memory, failed}
use Rattle.plain_workers.proofs.Counting.{raised, kept, forgotten}
use Rattle.plain_workers.proofs.tcp_worker.work_tcp.Goals as goal

pub loop-init : goal.loop-init
loop-init g c = record { port_kept = refl; so_far = begins; few = omega arith; counted = inl (omega arith) }

pub loop-preserved-in-Ok-Some : goal.loop-preserved-in-Ok-Some
loop-preserved-in-Ok-Some g c =
    let before = c.loop.invariant in
    let accepted = rw c.in-Ok-Some.field-0-is at c.in-Ok-Some.ensures.accepted in
    let one = rw before.port_kept at c.serve_connection.ensures.streamed in
    record {
      port_kept = c.serve_connection.ensures.server_port ∙ before.port_kept;
      so_far = handled before.so_far accepted (one, refl);
      few = omega arith;
      counted = forgotten _ _ _ _ _ before.counted c.in-Ok-Some.ensures.counted (omega arith);
    }

pub loop-preserved-in-Err-NoMemory : goal.loop-preserved-in-Err-NoMemory
loop-preserved-in-Err-NoMemory g c =
    let before = c.loop.invariant in
    let accepted = rw c.in-Err-NoMemory.field-0-is at c.in-Err-NoMemory.ensures.accepted in
    record {
      port_kept = before.port_kept;
      so_far = found_no_memory before.so_far accepted;
      few = before.few;
      counted = kept _ _ _ _ before.counted (rw c.in-Err-NoMemory.field-0-is at c.in-Err-NoMemory.ensures.counted);
    }

pub loop-preserved : goal.loop-preserved
loop-preserved g c =
    let before = c.loop.invariant in
    let accepted = rw c.in-Err-Device.field-0-is at c.in-Err-Device.ensures.accepted in
    record {
      port_kept = before.port_kept;
      so_far = failed before.so_far accepted;
      few = omega arith;
      counted = raised _ _ _ _ before.counted (rw c.in-Err-Device.field-0-is at c.in-Err-Device.ensures.counted);
    }

pub returns-in-Ok-None-clause-works : goal.returns-in-Ok-None-clause-works
returns-in-Ok-None-clause-works g c = (_, _, c.loop.invariant.so_far, rw c.in-Ok-None.field-0-is at c.in-Ok-None.ensures.accepted)

pub returns-then-failed-eq-MOST_FAILURES-clause-works : goal.returns-then-failed-eq-MOST_FAILURES-clause-works
returns-then-failed-eq-MOST_FAILURES-clause-works g c =
    let accepted = rw c.in-Err-Device.field-0-is at c.in-Err-Device.ensures.accepted in
    let worked = failed c.loop.invariant.so_far accepted in
    rw c.if-failed-eq-MOST_FAILURES.true at worked

pub returns-then-failed-eq-MOST_FAILURES-clause-failing : goal.returns-then-failed-eq-MOST_FAILURES-clause-failing
returns-then-failed-eq-MOST_FAILURES-clause-failing g c =
    let counted = raised _ _ _ _ c.loop.invariant.counted (rw c.in-Err-Device.field-0-is at c.in-Err-Device.ensures.counted) in
    λ _. rw c.if-failed-eq-MOST_FAILURES.true at counted
