use Rattle.std.proofs.Common.{ap, arith}
use Rattle.flight.specs.Waiting.{since_of}
use Rattle.flight.proofs.Ages.{timely_then}
use Rattle.flight.proofs.Queueing.{empty_queue, first_of, none_due, none_queued}
use Rattle.flight.proofs.table.Table.next_due.Goals as goal

pub returns-in_err-wait-clause-none : goal.returns-in_err-wait-clause-none
returns-in_err-wait-clause-none g c = λ none key since here.
    let table = c.args.self.now in
    absurd (none_queued table.jobs.slots table.waits.items table.latest table.queue (empty_queue _ c.in_err-wait.ensures.item.3) key since here)

pub returns-in_err-wait-clause-timely : goal.returns-in_err-wait-clause-timely
returns-in_err-wait-clause-timely g c = λ none key exchange here.
    let table = c.args.self.now in
    absurd (none_queued table.jobs.slots table.waits.items table.latest table.queue (empty_queue _ c.in_err-wait.ensures.item.3) key exchange.since (ap since_of here))

pub returns-then-saturating_sub-lt-PATIENCE-clause-none : goal.returns-then-saturating_sub-lt-PATIENCE-clause-none
returns-then-saturating_sub-lt-PATIENCE-clause-none g c = λ none.
    let table = c.args.self.now in
    let wait = c.in_ok-wait.field-0.now in
    let first = first_of table.waits.items wait c.in_ok-wait.ensures.item.3.0 c.in_ok-wait.ensures.lookup in
    none_due table.jobs.slots table.waits.items table.latest table.queue c.args.now 2000 wait first.rest first.is (omega (arith, c.saturating_sub.ensures))

pub returns-then-saturating_sub-lt-PATIENCE-clause-timely : goal.returns-then-saturating_sub-lt-PATIENCE-clause-timely
returns-then-saturating_sub-lt-PATIENCE-clause-timely g c = λ none.
    let table = c.args.self.now in
    let wait = c.in_ok-wait.field-0.now in
    let first = first_of table.waits.items wait c.in_ok-wait.ensures.item.3.0 c.in_ok-wait.ensures.lookup in
    timely_then c.args.now table.jobs.slots table.in_time
    (none_due table.jobs.slots table.waits.items table.latest table.queue c.args.now 2000 wait first.rest first.is (omega (arith, c.saturating_sub.ensures)))
