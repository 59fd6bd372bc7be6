use Rattle.flight.proofs.Ages.{in_time_with}
use Rattle.flight.proofs.Bounds.{one_kept, within_with}
use Rattle.flight.proofs.Places.{one_counted}
use Rattle.flight.proofs.table.Table.put_back.Goals as goal

pub returns-clause-one_more : goal.returns-clause-one_more
returns-clause-one_more g c =
    let updates = c.insert_reserved.ensures.updates in
    record {
      updates = rw c.insert_reserved.ensures.key at updates;
      len = c.insert_reserved.ensures.len;
      counts = λ test. one_counted test c.args.self.now.jobs.slots c.insert_reserved.new.self.slots c.insert_reserved.result c.args.job c.insert_reserved.ensures.was_vacant updates.changed updates.others;
      kept = one_kept c.args.self.now.jobs.slots c.insert_reserved.new.self.slots c.insert_reserved.result c.args.job updates.others c.insert_reserved.ensures.was_vacant updates.changed;
    }

pub invariant_of-self-clause-in_time : goal.invariant_of-self-clause-in_time
invariant_of-self-clause-in_time g c =
    let old = c.args.self.now in
    let updates = c.insert_reserved.ensures.updates in
    in_time_with old.jobs.slots _ _ old.in_time updates.others c.args.job updates.changed c.requires.in_time

pub invariant_of-self-clause-within : goal.invariant_of-self-clause-within
invariant_of-self-clause-within g c =
    let old = c.args.self.now in
    let updates = c.insert_reserved.ensures.updates in
    within_with old.jobs.slots _ c.insert_reserved.result c.args.job updates.others old.kept c.kept.result old.within c.insert_reserved.ensures.was_vacant updates.changed c.requires.small c.kept.ensures
