use Rattle.std.proofs.Common.{arith}
use Rattle.store.specs.World.{shelved}
use Rattle.store.specs.WorldLaws.{row_swept}
use Rattle.store.proofs.PairLaws.{needed_there}
use Rattle.store.proofs.world.ShelfWorldWorld.sweep_some.Goals as goal

pub returns-clause-row : goal.returns-clause-row
returns-clause-row c = rw (← c.self.view_is) (λ kept h.
    row_swept (shelved c.self.inside.shelf) (shelved c.sweep_some.new.self) kept c.args.moment h c.sweep_some.ensures.loses.flushes.0 c.sweep_some.ensures.faces)

pub returns-clause-counts : goal.returns-clause-counts
returns-clause-counts c = rw (← c.self.view_is) ((
  omega (arith, c.sweep_some.ensures.loses.flushes.1),
  c.sweep_some.ensures.loses.stored,
  c.sweep_some.ensures.loses.flushes.2,
  λ pair has. c.sweep_some.ensures.loses.pairs pair has,
))

pub returns-clause-more : goal.returns-clause-more
returns-clause-more c = rw (← c.self.view_is) (c.sweep_some.ensures.more)

pub returns-clause-needed : goal.returns-clause-needed
returns-clause-needed c = λ none. needed_there c.sweep_some.new.self c.args.moment (c.sweep_some.ensures.alive none).1

pub returns-clause-short : goal.returns-clause-short
returns-clause-short c = rw (← c.self.view_is) (λ early. c.sweep_some.ensures.short (omega (arith, early)))
