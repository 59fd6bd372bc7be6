use Rattle.std.proofs.Common.{arith}
use Rattle.store.specs.World.{shelved}
use Rattle.store.specs.WorldLaws.{row_swept}
use Rattle.store.proofs.PairLaws.{needed_there}
use Rattle.store.proofs.world.ShelfWorldWorld.sweep.Goals as goal

pub returns-clause-row : goal.returns-clause-row
returns-clause-row c = rw (← c.self.view_is) (λ kept h.
    row_swept (shelved c.self.inside.shelf) (shelved c.sweep.new.self) kept c.args.moment h c.sweep.ensures.loses.flushes.0 c.sweep.ensures.faces)

pub returns-clause-counts : goal.returns-clause-counts
returns-clause-counts c = rw (← c.self.view_is) ((
  omega (arith, c.sweep.ensures.loses.flushes.1),
  c.sweep.ensures.loses.stored,
  c.sweep.ensures.loses.flushes.2,
  λ pair has. c.sweep.ensures.loses.pairs pair has,
))

pub returns-clause-none : goal.returns-clause-none
returns-clause-none c = c.sweep.ensures.none.1

pub returns-clause-needed : goal.returns-clause-needed
returns-clause-needed c = needed_there c.sweep.new.self c.args.moment c.sweep.ensures.alive.1
