use Rattle.std.proofs.Common.{ℕ, ap, arith, subst, sym}
use Rattle.flight.specs.Bounds.{EachKeepsAtMost}
use Rattle.flight.specs.Waiting.{UnderWay}
use Rattle.flight.proofs.Answering.{is_good}
use Rattle.flight.proofs.Relieving.{ends_one}
use Rattle.flight.proofs.telling.give_up.Goals as goal

pub keeps_most-cause-requires-clause-sends : goal.keeps_most-cause-requires-clause-sends
keeps_most-cause-requires-clause-sends g c = (g.L.InFlight.asked c.job.inside.line, c.job.invariant.1)

pub keeps_most-cause-requires-clause-much : goal.keeps_most-cause-requires-clause-much
keeps_most-cause-requires-clause-much g c = omega (arith, c.requires.much, ap (λ (job : UnderWay). job.kept) c.job.view_is)

pub keeps_most-cause-requires-clause-most : goal.keeps_most-cause-requires-clause-most
keeps_most-cause-requires-clause-most g c = subst (λ (kept : ℕ). EachKeepsAtMost kept c.args.table.now.jobs.slots) (sym (ap (λ (job : UnderWay). job.kept) c.job.view_is)) c.requires.most

pub fail-requires-clause-own : goal.fail-requires-clause-own
fail-requires-clause-own g c = rw (c.keeps_most-cause.ensures.client, c.as_slice.ensures) c.job.invariant.0.own

pub fail-requires-clause-good : goal.fail-requires-clause-good
fail-requires-clause-good g c = rw c.as_slice.ensures (is_good c.job.invariant.0.good)

pub returns-clause-ends : goal.returns-clause-ends
returns-clause-ends g c = ends_one c.job.inside.octets c.job.invariant.0.own c.abandon.ensures.keeps (rw c.keeps_most-cause.ensures.client at c.fail.ensures)
