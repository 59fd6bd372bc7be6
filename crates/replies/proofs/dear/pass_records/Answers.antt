use Rattle.replies.proofs.Dearness.{fails, passes_all, passes_more, passes_stop}
use Rattle.replies.proofs.dear.pass_records.Goals as goal

pub returns-in_err-at : goal.returns-in_err-at
returns-in_err-at c = fails _ _ _ _ _ c.from_residual.ensures (passes_stop _ _ _ _ _ _ _ _ c.loop-test.true c.loop.invariant _ c.in_err-at.ensures)

pub loop-preserved : goal.loop-preserved
loop-preserved c = passes_more _ _ _ _ _ _ _ _ _ c.loop-test.true c.loop.invariant c.in_ok-at.ensures

pub returns : goal.returns
returns c = passes_all _ _ _ _ _ _ _ c.loop-test.false c.loop.invariant
