use Rattle.std.proofs.Common.{arith}
use Rattle.shared_book.proofs.opening.sweep_one.Goals as goal

pub returns-then-sweep_some-clause-more : goal.returns-then-sweep_some-clause-more
returns-then-sweep_some-clause-more g c = λ yes. omega (arith, c.sweep_some.ensures.more c.if-sweep_some.true)
