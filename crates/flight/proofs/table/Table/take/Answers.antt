use Rattle.std.proofs.Common.{arith, sym}
use Rattle.flight.proofs.Ages.{in_time_without}
use Rattle.flight.proofs.Bounds.{no_more_than_all, within_without}
use Rattle.flight.proofs.table.Table.take.Goals as goal

pub overflow_sub-self : goal.overflow_sub-self
overflow_sub-self g c =
    let old = c.args.self.now in
    omega (arith, c.kept.ensures, no_more_than_all old.jobs.slots c.args.key old.kept c.in_ok-job.job.now old.within (sym c.in_ok-job.ensures))

pub invariant_of-self-clause-in_time : goal.invariant_of-self-clause-in_time
invariant_of-self-clause-in_time g c =
    let old = c.args.self.now in
    let updates = c.try_remove.ensures.updates in
    in_time_without old.jobs.slots _ _ old.in_time updates.others updates.changed

pub invariant_of-self-clause-within : goal.invariant_of-self-clause-within
invariant_of-self-clause-within g c =
    let old = c.args.self.now in
    let updates = c.try_remove.ensures.updates in
    within_without old.jobs.slots _ c.args.key c.in_ok-job.job.now updates.others old.kept c.kept.result old.within (sym c.in_ok-job.ensures) updates.changed c.kept.ensures
