use Rattle.shared_book.proofs.CallLaws.{same_fault}
use Rattle.shared_book.proofs.kept.Kept.call.Goals as goal

pub returns-in-Err-clause-free : goal.returns-in-Err-clause-free
returns-in-Err-clause-free g c = λ free is. c.in-Err.ensures.free free (same_fault c.in-Err.fault is)

pub returns-in-Err-clause-own : goal.returns-in-Err-clause-own
returns-in-Err-clause-own g c = λ room is. c.in-Err.ensures.own room (same_fault c.in-Err.fault is)
