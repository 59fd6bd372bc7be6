use Rattle.iterate.proofs.admitting.admitted.Goals as goal

pub returns-in-Admit : goal.returns-in-Admit
returns-in-Admit g c = rw c.in-Admit.is c.handed.ensures

pub returns-in-Sweep : goal.returns-in-Sweep
returns-in-Sweep g c = rw c.in-Sweep.is c.swept.ensures

pub returns-in-Again : goal.returns-in-Again
returns-in-Again g c = rw c.in-Again.is c.handed_again.ensures

pub returns-in-Oldest : goal.returns-in-Oldest
returns-in-Oldest g c = rw c.in-Oldest.is c.oldest_came.ensures

pub returns-in-Forget : goal.returns-in-Forget
returns-in-Forget g c = rw c.in-Forget.is c.forgotten.ensures

pub returns-in-Last : goal.returns-in-Last
returns-in-Last g c = rw c.in-Last.is c.handed_last.ensures
