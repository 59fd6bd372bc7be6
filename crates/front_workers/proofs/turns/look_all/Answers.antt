use Rattle.std.proofs.Common.{◌∙◌, ap, arith, refl, rules}
use Rattle.flight.specs.declared.counts.Counts.{Counts}
use Rattle.front_workers.proofs.Accounting.{accounted_on, latest_on, same_counts, time_at, time_on, time_then}
use Rattle.flight.proofs.Leaving.{ends_behind, ends_then, none_ends}
use Rattle.front_workers.specs.Patience.{once_more, unread}
use Rattle.front_workers.proofs.Outboxes.{as_one}
use Rattle.front_workers.proofs.Reading.{onward_by}
use Rattle.front_workers.proofs.Watching.{seen_on}
use Rattle.front_workers.proofs.turns.look_all.Goals as goal

pub loop-event-init : goal.loop-event-init
loop-event-init g c =
    record {
      so_far = record { accounted = same_counts _ _; ends = none_ends 0 _ _ refl (omega arith); no_more = omega arith; bounded = λ few. few; limit = refl };
      in_time = refl;
      read = unread;
      looked = (refl, refl);
      time = time_on _ _ _ (omega arith);
    }

pub loop-event-preserved-then-ne : goal.loop-event-preserved-then-ne
loop-event-preserved-then-ne g c =
    let before = c.loop-event.invariant in
    let loses = c.look.ensures.loses_none in
    record {
      so_far = record {
        accounted = accounted_on _ _ _ _ _ _ before.so_far.accounted (rw c.set_now.ensures.counts at loses.accounted);
        ends = ends_then before.so_far.ends (ends_behind (as_one _ _ _ _ c.set_now.ensures.kept c.set_now.ensures.asks) loses.ends);
        no_more = omega (arith, loses.no_more, before.so_far.no_more);
        bounded = λ few. loses.bounded (before.so_far.bounded few);
        limit = loses.limit ∙ before.so_far.limit;
      };
      in_time = c.look.ensures.unexpired ∙ ap (λ (counts : Counts). counts.expired) c.set_now.ensures.counts ∙ before.in_time;
      read = once_more before.read c.millis-now.ensures.read;
      looked = seen_on (λ event. event.now) _ _ _ _ _ _ _ _ before.looked (record { listens = λ _. rw c.token-token.ensures at (rw c.set_now.ensures.counts at c.look.ensures.listens); others = rw c.token-token.ensures at c.look.ensures.others; unexpired = c.look.ensures.unexpired ∙ ap (λ (counts : Counts). counts.expired) c.set_now.ensures.counts });
      time = time_then _ _ _ _ _ _ before.time (time_then _ _ _ _ _ _ (time_on c.loop-event.questions c.loop-event.clock c.millis-now.new.self (onward_by _ _ c.millis-now.ensures.read))
          (time_at c.millis-now.result c.loop-event.questions c.look.new.self c.millis-now.new.self (omega (arith, c.millis-now.ensures.millis)) (latest_on c.millis-now.result c.loop-event.questions c.look.new.self loses.begins)));
    }

pub loop-event-preserved : goal.loop-event-preserved
loop-event-preserved g c =
    let before = c.loop-event.invariant in
    record {
      so_far = before.so_far;
      in_time = before.in_time;
      read = before.read;
      looked = seen_on (λ event. event.now) _ _ _ _ _ _ _ _ before.looked (record { listens = λ differs. absurd (search rules); others = λ other since differs here. here; unexpired = refl });
      time = before.time;
    }
