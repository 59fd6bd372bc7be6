use Rattle.std.proofs.Common.{◌∙◌, refl}
use Rattle.front_workers.specs.Begun.{goes_on, stays, takes_batch}
use Rattle.front_workers.proofs.Accounting.{gone_on, stayed}
use Rattle.front_workers.proofs.Beginning.{rests}
use Rattle.front_workers.proofs.Posting.{endings_none}
use Rattle.front.proofs.Sending.{posts_none}
use Rattle.front_workers.proofs.Reading.{onward_by}
use Rattle.front_workers.proofs.turns.Turns.take_datagrams.Goals as goal

pub loop-init : goal.loop-init
loop-init g c = rw (← c.self.view_is)
    (record { so_far = stayed _ _ _ (endings_none (posts_none refl) refl) refl refl refl refl (onward_by _ _ c.millis-begun.ensures.read); ran = goes_on stays (rests _ _ _ refl refl); sent = λ none. none; reported = refl })

pub returns-in_err-take_batch-clause-goes_on : goal.returns-in_err-take_batch-clause-goes_on
returns-in_err-take_batch-clause-goes_on g c = gone_on _ _ _ _ _ _ c.loop.invariant.so_far c.take_batch.ensures.goes_on

pub returns-in_err-take_batch-clause-runs : goal.returns-in_err-take_batch-clause-runs
returns-in_err-take_batch-clause-runs g c = takes_batch c.loop.invariant.ran c.take_batch.ensures.begun

pub returns-then-not-branch-clause-goes_on : goal.returns-then-not-branch-clause-goes_on
returns-then-not-branch-clause-goes_on g c = gone_on _ _ _ _ _ _ c.loop.invariant.so_far c.take_batch.ensures.goes_on

pub returns-then-not-branch-clause-runs : goal.returns-then-not-branch-clause-runs
returns-then-not-branch-clause-runs g c = takes_batch c.loop.invariant.ran c.take_batch.ensures.begun

pub returns-then-saturating_sub-ge-MOST_TAKING-clause-goes_on :
    goal.returns-then-saturating_sub-ge-MOST_TAKING-clause-goes_on
returns-then-saturating_sub-ge-MOST_TAKING-clause-goes_on g c =
    let more = rw (← c.self-in-loop.view_is) at c.take_batch.ensures.goes_on in
    gone_on _ _ _ _ _ _ c.loop.invariant.so_far (gone_on _ _ _ _ _ _ more (stayed _ _ _ (endings_none (posts_none refl) refl) refl refl refl refl (onward_by _ _ c.millis-now.ensures.read)))

pub returns-then-saturating_sub-ge-MOST_TAKING-clause-runs :
    goal.returns-then-saturating_sub-ge-MOST_TAKING-clause-runs
returns-then-saturating_sub-ge-MOST_TAKING-clause-runs g c =
    let more = rw (← c.self-in-loop.view_is) at c.take_batch.ensures.begun in
    goes_on (takes_batch c.loop.invariant.ran more) (rests _ _ _ refl refl)

pub loop-preserved : goal.loop-preserved
loop-preserved g c =
    let more = rw (← c.self-in-loop.view_is) at c.take_batch.ensures.goes_on in
    let begun = rw (← c.self-in-loop.view_is) at c.take_batch.ensures.begun in
    let sent = rw (← c.self-in-loop.view_is) at c.take_batch.ensures.sent in
    record {
      so_far = gone_on _ _ _ _ _ _ c.loop.invariant.so_far (gone_on _ _ _ _ _ _ more (stayed _ _ _ (endings_none (posts_none refl) refl) refl refl refl refl (onward_by _ _ c.millis-now.ensures.read)));
      ran = goes_on (takes_batch c.loop.invariant.ran begun) (rests _ _ _ refl refl);
      sent = λ _. sent;
      reported = (rw (← c.self-in-loop.view_is) at c.take_batch.ensures.reported) ∙ c.loop.invariant.reported;
    }
