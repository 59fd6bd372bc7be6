use Rattle.iterate.proofs.admitting.admit.Goals as goal

pub returns-clause-goes : goal.returns-clause-goes
returns-clause-goes g c = λ question log left h anew few less. c.hand.ensures.goes question log left h (λ find handed. anew) few (λ early. less)

pub returns-clause-hands : goal.returns-clause-hands
returns-clause-hands g c = c.hand.ensures.hands
