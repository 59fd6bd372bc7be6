use Rattle.shared_book.proofs.RecordLaws.{untimely}
use Rattle.shared_book.proofs.kept.Kept.step_by_copy.Goals as goal

pub returns-in-Err-clause-step : goal.returns-in-Err-clause-step
returns-in-Err-clause-step g c = c.in-Err.ensures.err c.args.pass.now

pub returns-in-Err-clause-free : goal.returns-in-Err-clause-free
returns-in-Err-clause-free g c = λ free. untimely c.in-Err.fault c.in-Err.ensures.untimely

pub returns-in-Err-clause-own : goal.returns-in-Err-clause-own
returns-in-Err-clause-own g c = λ room is. absurd (untimely c.in-Err.fault c.in-Err.ensures.untimely is)
