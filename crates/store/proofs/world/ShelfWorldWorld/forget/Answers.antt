use Rattle.std.proofs.Common.{arith}
use Rattle.store.specs.World.{shelved}
use Rattle.store.specs.WorldLaws.{row_forgot}
use Rattle.store.proofs.OldestLaws.{ending_back}
use Rattle.store.proofs.PairLaws.{none_of}
use Rattle.store.proofs.world.ShelfWorldWorld.forget.Goals as goal

pub returns-clause-row : goal.returns-clause-row
returns-clause-row c = rw (← c.self.view_is) (λ kept h.
    row_forgot (shelved c.self.inside.shelf) (shelved c.forget.new.self) kept c.args.owner.now h c.forget.ensures.loses.flushes.0 c.forget.ensures.faces)

pub returns-clause-counts : goal.returns-clause-counts
returns-clause-counts c = rw (← c.self.view_is) ((
  omega (arith, c.forget.ensures.loses.flushes.1),
  c.forget.ensures.loses.stored,
  c.forget.ensures.loses.flushes.2,
  λ pair has. c.forget.ensures.loses.pairs pair has,
))

pub returns-clause-gone : goal.returns-clause-gone
returns-clause-gone c = none_of c.args.owner.now c.forget.new.self c.forget.ensures.gone

pub returns-clause-fewer : goal.returns-clause-fewer
returns-clause-fewer c = rw (← c.self.view_is) (λ kept t end h is.
    c.forget.ensures.fewer t end (ending_back c.self.inside.shelf kept t c.args.owner.now end is))
