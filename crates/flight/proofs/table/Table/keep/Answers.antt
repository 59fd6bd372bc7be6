use Rattle.std.proofs.Common.{◌∙◌, Some, ap, sym, arith}
use Rattle.flight.specs.Waiting.{UnderWay, since_of}
use Rattle.flight.proofs.Ages.{in_time_with}
use Rattle.flight.proofs.Bounds.{one_kept, within_with}
use Rattle.flight.proofs.Places.{one_counted}
use Rattle.flight.proofs.Queueing.{queue_grown}
use Rattle.flight.proofs.table.Table.keep.Goals as goal

pub invariant_of-self : goal.invariant_of-self
invariant_of-self g c =
    let old = c.args.self.now in
    let updates = c.insert_reserved-key.ensures.updates in
    record {
      queue = rw c.push_back_reserved.ensures.items
          (queue_grown old.jobs.slots old.waits.items old.latest old.queue _ c.insert_reserved-key.result c.job.inside.since
          (ap since_of updates.changed ∙ sym (ap (λ (job : UnderWay). since_of (Some job)) c.job.view_is)) (λ other differs. ap since_of (updates.others other differs))
          (omega (arith, c.requires.later, ap (λ (job : UnderWay). job.since) c.job.view_is)));
      in_time = in_time_with old.jobs.slots _ _ old.in_time updates.others c.args.job updates.changed c.requires.in_time;
      within = within_with old.jobs.slots _ c.insert_reserved-key.result c.args.job updates.others old.kept c.kept.result old.within c.insert_reserved-key.ensures.was_vacant updates.changed c.requires.small c.kept.ensures;
    }

pub returns-clause-one_more : goal.returns-clause-one_more
returns-clause-one_more g c =
    let updates = c.insert_reserved-key.ensures.updates in
    record {
      updates = rw c.insert_reserved-key.ensures.key at updates;
      len = c.insert_reserved-key.ensures.len;
      counts = λ test. one_counted test c.args.self.now.jobs.slots c.insert_reserved-key.new.self.slots c.insert_reserved-key.result c.args.job c.insert_reserved-key.ensures.was_vacant updates.changed updates.others;
      kept = one_kept c.args.self.now.jobs.slots c.insert_reserved-key.new.self.slots c.insert_reserved-key.result c.args.job updates.others c.insert_reserved-key.ensures.was_vacant updates.changed;
    }
