use Rattle.std.proofs.Common.{arith}
use Rattle.store.specs.World.{shelved}
use Rattle.store.specs.WorldLaws.{row_oldest, row_cleared}
use Rattle.store.proofs.world.FlushChangeChange.settle.Goals as goal

pub returns-clause-oldest : goal.returns-clause-oldest
returns-clause-oldest c = rw (← c.world.view_is) (λ ticket later h.
    row_oldest (shelved c.world.inside.shelf) (shelved c.settle.new.self) ticket c.args.saved later c.world.invariant.ascending h c.settle.ensures.gone.kept c.settle.ensures.gone.faces)

pub returns-clause-cleared : goal.returns-clause-cleared
returns-clause-cleared c = rw (← c.world.view_is) (λ earlier ticket later h.
    row_cleared (shelved c.world.inside.shelf) (shelved c.settle.new.self) earlier ticket c.args.saved later c.world.invariant.ascending h c.settle.ensures.gone.kept c.settle.ensures.gone.faces)

pub returns-clause-counts : goal.returns-clause-counts
returns-clause-counts c = rw (← c.world.view_is) ((
  omega (arith, c.settle.ensures.gone.top),
  c.settle.ensures.gone.stored,
  c.settle.ensures.gone.limit,
  λ pair has. c.settle.ensures.gone.pairs pair has,
))
