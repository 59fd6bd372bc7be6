use Rattle.std.proofs.Common.{◌∙◌, Option, IfSome, ap, arith, subst, sym}
use Rattle.flight.specs.Table.{CountsOneMore}
use Rattle.flight.specs.Waiting.{UnderWay, since_of}
use Rattle.flight.proofs.Ages.{in_time_without}
use Rattle.flight.proofs.Bounds.{no_more_than_all, within_without}
use Rattle.flight.proofs.Places.{one_counted}
use Rattle.flight.proofs.Queueing.{passed_early, passed_none, passed_taken}
use Rattle.flight.proofs.table.Table.pass.Goals as goal

pub invariant_of-self : goal.invariant_of-self
invariant_of-self g c =
    let old = c.args.self.now in
    record { queue = passed_none old.jobs.slots old.waits.items old.latest old.queue _ c.args.wait c.requires.first c.pop_front.ensures.rest (ap since_of c.in_err-job.ensures); in_time = old.in_time; within = old.within }

pub invariant_of-self-then-saturating_sub-lt-PATIENCE : goal.invariant_of-self-then-saturating_sub-lt-PATIENCE
invariant_of-self-then-saturating_sub-lt-PATIENCE g c =
    let old = c.args.self.now in
    record {
      queue = passed_early old.jobs.slots old.waits.items old.latest old.queue _ c.args.wait c.requires.first c.pop_front.ensures.rest c.in_ok-job.job.now.since (ap since_of c.in_ok-job.ensures)
          (omega (arith, c.requires.due, c.saturating_sub.ensures, ap (λ (job : UnderWay). job.since) c.job.view_is));
      in_time = old.in_time;
      within = old.within;
    }

pub invariant_of-self-2 : goal.invariant_of-self-2
invariant_of-self-2 g c =
    let old = c.args.self.now in
    let updates = c.try_remove.ensures.updates in
    record {
      queue = passed_taken old.jobs.slots old.waits.items old.latest old.queue _ c.args.wait c.requires.first c.pop_front.ensures.rest _ (ap since_of updates.changed) (λ other differs. ap since_of (updates.others other differs));
      in_time = in_time_without old.jobs.slots _ _ old.in_time updates.others updates.changed;
      within = within_without old.jobs.slots _ c.args.wait.key c.in_ok-job.job.now updates.others old.kept c.kept.result old.within (sym c.in_ok-job.ensures) updates.changed c.kept.ensures;
    }

pub overflow_sub-self : goal.overflow_sub-self
overflow_sub-self g c =
    let old = c.args.self.now in
    omega (arith, c.kept.ensures, no_more_than_all old.jobs.slots c.args.wait.key old.kept c.in_ok-job.job.now old.within (sym c.in_ok-job.ensures))

pub returns-clause-counts : goal.returns-clause-counts
returns-clause-counts g c =
    let old = c.args.self.now.jobs in
    let new = c.try_remove.new.self in
    let updates = c.try_remove.ensures.updates in
    let job = c.in_ok-job.job.now in
    let counts : CountsOneMore new old job = λ test. one_counted test new.slots old.slots c.args.wait.key job updates.changed (sym c.in_ok-job.ensures) (λ other differs. sym (updates.others other differs)) in
    subst (λ (found : Option UnderWay). IfSome found (λ job. CountsOneMore new old job)) (c.in_ok-job.ensures ∙ sym c.try_remove.ensures.value) counts
