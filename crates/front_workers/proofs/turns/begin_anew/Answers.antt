use Rattle.std.proofs.Common.{◌∙◌, arith, refl}
use Rattle.front_workers.proofs.Accounting.{accounted_on, latest_on, same_counts}
use Rattle.flight.proofs.Leaving.{ends_behind, ends_then, none_ends}
use Rattle.front_workers.proofs.Outboxes.{as_one, goes_as}
use Rattle.front_workers.proofs.Relieving.{patient_more, timely_more}
use Rattle.front_workers.proofs.turns.begin_anew.Goals as goal

pub loop-init : goal.loop-init
loop-init g c = record {
  so_far = record { accounted = same_counts _ _; ends = none_ends 0 _ _ refl (omega arith); no_more = omega arith; bounded = λ few. few; limit = refl };
  joins = λ test. omega arith;
  patient = c.requires.patient;
  timely = c.requires.timely;
  latest = omega arith;
}

pub returns-in_default-clause-go_on : goal.returns-in_default-clause-go_on
returns-in_default-clause-go_on g c =
    goes_as _ _ _ _ _ _ _ _ c.next_permitted.ensures.counts (as_one _ _ _ _ c.next_permitted.ensures.kept c.next_permitted.ensures.asks) c.loop.invariant.so_far

pub loop-preserved : goal.loop-preserved
loop-preserved g c =
    let before = c.loop.invariant in
    let loses = c.look.ensures.loses_none in
    record {
      so_far = record {
        accounted = accounted_on _ _ _ _ _ _ before.so_far.accounted (rw c.next_permitted.ensures.counts at loses.accounted);
        ends = ends_then before.so_far.ends (ends_behind (as_one _ _ _ _ c.next_permitted.ensures.kept c.next_permitted.ensures.asks) loses.ends);
        no_more = omega (arith, loses.no_more, before.so_far.no_more);
        bounded = λ few. loses.bounded (before.so_far.bounded few);
        limit = loses.limit ∙ before.so_far.limit;
      };
      joins = λ test. omega (arith, loses.joins_none test, before.joins test);
      patient = patient_more c.args.now c.loop.questions c.look.new.self loses.begins before.patient;
      timely = timely_more 10000 c.args.now c.loop.questions c.look.new.self loses.origins before.timely;
      latest = omega (arith, before.latest, latest_on c.args.now c.loop.questions c.look.new.self loses.begins);
    }
