use Rattle.std.proofs.Common.{◌+◌, arith, inl, inr}
use Rattle.std.proofs.lemmas.Bool.{cases_lt}
use Rattle.flight.proofs.Queueing.{empty_queue, first_began, first_of, idle_queue}
use Rattle.flight.proofs.table.Table.next_expiry.Goals as goal

pub returns-in_err-wait-clause-idle : goal.returns-in_err-wait-clause-idle
returns-in_err-wait-clause-idle g c = λ none.
    let table = c.args.self.now in
    idle_queue table.jobs.slots table.waits.items table.latest table.queue (empty_queue _ c.in_err-wait.ensures.item.3)

pub returns-clause-soon : goal.returns-clause-soon
returns-clause-soon g c =
    let table = c.args.self.now in
    let wait = c.in_ok-wait.wait.now in
    let first = first_of table.waits.items wait c.in_ok-wait.ensures.item.3.0 c.in_ok-wait.ensures.lookup in
    elim (cases_lt c.args.now (wait.since + 2000)) [
      | inl left ↦ inr (λ key since here.
          let order = first_began table.jobs.slots table.waits.items table.latest table.queue wait first.rest first.is key since here in
          omega (arith, c.saturating_sub.ensures, c.saturating_sub-2.ensures))
      | inr over ↦ inl (omega (arith, c.saturating_sub.ensures, c.saturating_sub-2.ensures))
    ]
