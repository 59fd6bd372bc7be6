use Rattle.std.proofs.Common.{rules, ◌≡◌, ◌∙◌, ap, arith, subst, sym}
use Rattle.flight.specs.Waiting.{FlightState, outstanding}
use Rattle.front_workers.specs.Accounts.{KeepsTime, WorkerState}
use Rattle.front_workers.proofs.Accounting.{followed, failed, none_yet, not_failed, failed_more, time_on, time_then}
use Rattle.front_workers.specs.Begun.{goes_on, none_in_flight, stays}
use Rattle.front_workers.proofs.Beginning.{rests, runs_then}
use Rattle.front_workers.proofs.udp_worker.fly_udp.Goals as goal

pub loop-preserved-in-Ok : goal.loop-preserved-in-Ok
loop-preserved-in-Ok g c =
    let before = c.loop.invariant in
    let within = c.turn-turned.ensures.goes_on.keeps.within (omega (arith, before.within, before.limit)) in
    record {
      so_far = followed _ _ _ _ _ _ before.so_far c.turn-turned.ensures.goes_on.accounts;
      ran = runs_then before.ran c.turn-turned.ensures.runs;
      time = time_then _ _ _ _ _ _ before.time c.turn-turned.ensures.goes_on.keeps.time;
      within = omega (arith, within, before.limit);
      bounded = c.turn-turned.ensures.goes_on.keeps.bounded before.bounded;
      limit = c.turn-turned.ensures.goes_on.keeps.limit ∙ before.limit;
      few = omega arith;
      asks = c.turn-turned.ensures.goes_on.keeps.asking ∙ before.asks;
      counted = not_failed _ _ _ _ before.counted c.turn-turned.ensures.goes_on.keeps.failures;
      sent = λ none. c.turn-turned.ensures.sent (before.sent none);
    }

pub returns-then-failed-eq-MOST_FAILURES-clause-accounts :
    goal.returns-then-failed-eq-MOST_FAILURES-clause-accounts
returns-then-failed-eq-MOST_FAILURES-clause-accounts g c =
    let before = c.loop.invariant in
    let within = c.turn-turned.ensures.goes_on.keeps.within (omega (arith, before.within, before.limit)) in
    let turned = followed _ _ _ _ _ _ before.so_far c.turn-turned.ensures.goes_on.accounts in
    (outstanding c.turn-turned.new.questions, omega (arith, within, before.limit), failed _ _ _ _ _ turned c.count_failure.ensures.taken c.count_failure.ensures.counts c.count_failure.ensures.outbox)

pub returns-then-failed-eq-MOST_FAILURES-clause-asks :
    goal.returns-then-failed-eq-MOST_FAILURES-clause-asks
returns-then-failed-eq-MOST_FAILURES-clause-asks g c = c.count_failure.ensures.asks ∙ c.turn-turned.ensures.goes_on.keeps.asking ∙ c.loop.invariant.asks

pub returns-then-failed-eq-MOST_FAILURES-clause-failing :
    goal.returns-then-failed-eq-MOST_FAILURES-clause-failing
returns-then-failed-eq-MOST_FAILURES-clause-failing g c =
    λ _. rw (← c.if-failed-eq-MOST_FAILURES.true) (failed_more _ _ _ _ _ c.loop.invariant.counted c.turn-turned.ensures.goes_on.keeps.failures c.count_failure.ensures.failures)

pub returns-then-failed-eq-MOST_FAILURES-clause-runs :
    goal.returns-then-failed-eq-MOST_FAILURES-clause-runs
returns-then-failed-eq-MOST_FAILURES-clause-runs g c =
    (_, goes_on (runs_then c.loop.invariant.ran c.turn-turned.ensures.runs) (rests _ _ _ c.count_failure.ensures.outbox c.count_failure.ensures.taken), c.turn-turned.ensures.goes_on.keeps.bounded c.loop.invariant.bounded, rw c.count_failure.ensures.clock (time_then _ _ _ _ _ _ c.loop.invariant.time c.turn-turned.ensures.goes_on.keeps.time))

pub loop-preserved : goal.loop-preserved
loop-preserved g c =
    let before = c.loop.invariant in
    let within = c.turn-turned.ensures.goes_on.keeps.within (omega (arith, before.within, before.limit)) in
    let turned = followed _ _ _ _ _ _ before.so_far c.turn-turned.ensures.goes_on.accounts in
    record {
      so_far = failed _ _ _ _ _ turned c.count_failure.ensures.taken c.count_failure.ensures.counts c.count_failure.ensures.outbox;
      ran = goes_on (runs_then before.ran c.turn-turned.ensures.runs) (rests _ _ _ c.count_failure.ensures.outbox c.count_failure.ensures.taken);
      time = rw c.count_failure.ensures.clock (time_then _ _ _ _ _ _ before.time c.turn-turned.ensures.goes_on.keeps.time);
      within = omega (arith, within, before.limit);
      bounded = c.turn-turned.ensures.goes_on.keeps.bounded before.bounded;
      limit = c.turn-turned.ensures.goes_on.keeps.limit ∙ before.limit;
      few = omega (arith, before.few, c.if-failed-eq-MOST_FAILURES.false);
      asks = c.count_failure.ensures.asks ∙ c.turn-turned.ensures.goes_on.keeps.asking ∙ before.asks;
      counted = failed_more _ _ _ _ _ before.counted c.turn-turned.ensures.goes_on.keeps.failures c.count_failure.ensures.failures;
      sent = λ none. rw c.count_failure.ensures.outbox (c.turn-turned.ensures.sent (before.sent none));
    }

pub loop-init : goal.loop-init
loop-init g c =
    let same : c.worker.inside.turns ≡ c.args.worker.now = search rules in
    let none = none_in_flight c.args.limit in
    let start = c.args.worker.now.clock in
    let clock = c.worker.inside.turns.clock in
    let on = time_on none start clock (omega (arith, ap (λ (worker : WorkerState _). worker.clock.last) same)) in
    record {
      so_far = none_yet _ _ _ (search rules) (search rules);
      ran = search (rules, stays);
      time = subst (λ (flight : FlightState). KeepsTime start none clock flight) (sym c.new-questions.ensures) on;
      within = search rules;
      bounded = search rules;
      limit = search rules;
      few = search rules;
      asks = search rules;
      counted = search rules;
      sent = search rules;
    }
