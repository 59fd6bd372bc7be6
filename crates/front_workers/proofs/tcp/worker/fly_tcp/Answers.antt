use Rattle.std.proofs.Common.{◌≡◌, ◌∙◌, ℕ, ap, arith, rules, subst, sym}
use Rattle.flight.specs.Waiting.{FlightState}
use Rattle.plain_workers.specs.Working.{HasFailed}
use Rattle.front_workers.specs.Accounts.{KeepsTime}
use Rattle.front_workers.specs.Begun.{none_in_flight}
use Rattle.front_workers.specs.Streaming.{StreamWorker, stays, tends}
use Rattle.front_workers.proofs.Accounting.{failed_more, not_failed, time_on, time_then}
use Rattle.front_workers.proofs.Flowing.{accounts_then, runs_on}
use Rattle.front.proofs.Serving.{tends_none}
use Rattle.front_workers.proofs.tcp.worker.fly_tcp.Goals as goal

pub loop-init : goal.loop-init
loop-init g c =
    let same : c.worker.inside.turns ≡ c.args.worker.now = search rules in
    let none = none_in_flight c.args.limit in
    let start = c.args.worker.now.clock in
    let clock = c.worker.inside.turns.clock in
    let on = time_on none start clock (omega (arith, ap (λ (worker : StreamWorker _). worker.clock.last) same)) in
    record {
      so_far = search rules;
      ran = search (rules, stays);
      time = subst (λ (flight : FlightState). KeepsTime start none clock flight) (sym c.new-questions.ensures) on;
      within = search rules;
      bounded = search rules;
      limit = search rules;
      few = search rules;
      asks = search rules;
      counted = search rules;
    }

pub loop-preserved-in-Ok : goal.loop-preserved-in-Ok
loop-preserved-in-Ok g c =
    let before = c.loop.invariant in
    let goes_on = c.turn.ensures.goes_on in
    let within = goes_on.keeps.within (omega (arith, before.within, before.limit)) in
    record {
      so_far = accounts_then _ _ _ _ _ _ _ _ _ before.so_far goes_on.accounts;
      ran = runs_on before.ran goes_on.runs;
      time = time_then _ _ _ _ _ _ before.time goes_on.keeps.time;
      within = omega (arith, within, before.limit);
      bounded = goes_on.keeps.bounded before.bounded;
      limit = goes_on.keeps.limit ∙ before.limit;
      few = omega arith;
      asks = goes_on.keeps.asking ∙ before.asks;
      counted = not_failed _ _ _ _ before.counted goes_on.keeps.failures;
    }

pub loop-preserved-then-lacks_descriptors : goal.loop-preserved-then-lacks_descriptors
loop-preserved-then-lacks_descriptors g c =
    let before = c.loop.invariant in
    let goes_on = c.turn.ensures.goes_on in
    let within = goes_on.keeps.within (omega (arith, before.within, before.limit)) in
    record {
      so_far = accounts_then _ _ _ _ _ _ _ _ _ before.so_far goes_on.accounts;
      ran = runs_on before.ran goes_on.runs;
      time = time_then _ _ _ _ _ _ before.time goes_on.keeps.time;
      within = omega (arith, within, before.limit);
      bounded = goes_on.keeps.bounded before.bounded;
      limit = goes_on.keeps.limit ∙ before.limit;
      few = before.few;
      asks = goes_on.keeps.asking ∙ before.asks;
      counted = subst (λ (n : ℕ). HasFailed c.loop.failed c.args.worker.now.failures n) (sym goes_on.keeps.failures) before.counted;
    }

pub returns-then-failed-eq-MOST_FAILURES-clause-runs : goal.returns-then-failed-eq-MOST_FAILURES-clause-runs
returns-then-failed-eq-MOST_FAILURES-clause-runs g c =
    let before = c.loop.invariant in
    let goes_on = c.turn.ensures.goes_on in
    let counted = c.count_failure.ensures in
    let within = goes_on.keeps.within (omega (arith, before.within, before.limit)) in
    let accounts = accounts_then _ _ _ _ _ _ _ _ _ before.so_far goes_on.accounts in (
      c.turn.new.questions,
      tends (runs_on before.ran goes_on.runs) (tends_none counted.connections) counted.taken,
      omega (arith, within, before.limit),
      goes_on.keeps.bounded before.bounded,
      rw (counted.taken, counted.counts) accounts,
      rw counted.clock (time_then _ _ _ _ _ _ before.time goes_on.keeps.time),
    )

pub returns-then-failed-eq-MOST_FAILURES-clause-asks : goal.returns-then-failed-eq-MOST_FAILURES-clause-asks
returns-then-failed-eq-MOST_FAILURES-clause-asks g c = c.count_failure.ensures.asks ∙ c.turn.ensures.goes_on.keeps.asking ∙ c.loop.invariant.asks

pub returns-then-failed-eq-MOST_FAILURES-clause-failing : goal.returns-then-failed-eq-MOST_FAILURES-clause-failing
returns-then-failed-eq-MOST_FAILURES-clause-failing g c =
    λ _. rw (← c.if-failed-eq-MOST_FAILURES.true) (failed_more _ _ _ _ _ c.loop.invariant.counted c.turn.ensures.goes_on.keeps.failures c.count_failure.ensures.failures)

pub loop-preserved : goal.loop-preserved
loop-preserved g c =
    let before = c.loop.invariant in
    let goes_on = c.turn.ensures.goes_on in
    let counted = c.count_failure.ensures in
    let within = goes_on.keeps.within (omega (arith, before.within, before.limit)) in
    let accounts = accounts_then _ _ _ _ _ _ _ _ _ before.so_far goes_on.accounts in
    record {
      so_far = rw (counted.taken, counted.counts) accounts;
      ran = tends (runs_on before.ran goes_on.runs) (tends_none counted.connections) counted.taken;
      time = rw counted.clock (time_then _ _ _ _ _ _ before.time goes_on.keeps.time);
      within = omega (arith, within, before.limit);
      bounded = goes_on.keeps.bounded before.bounded;
      limit = goes_on.keeps.limit ∙ before.limit;
      few = omega (arith, before.few, c.if-failed-eq-MOST_FAILURES.false);
      asks = counted.asks ∙ goes_on.keeps.asking ∙ before.asks;
      counted = failed_more _ _ _ _ _ before.counted goes_on.keeps.failures counted.failures;
    }
