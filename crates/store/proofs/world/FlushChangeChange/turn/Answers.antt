use Rattle.std.proofs.Common.{arith}
use Rattle.store.proofs.PairLaws.{same_owners}
use Rattle.change_law.specs.Choice.{turned}
use Rattle.store.specs.World.{shelved}
use Rattle.store.specs.WorldLaws.{row_turned}
use Rattle.store.proofs.world.FlushChangeChange.turn.Goals as goal

pub returns-clause-row : goal.returns-clause-row
returns-clause-row c = rw (← c.world.view_is) (λ earlier ticket later at.
    row_turned c.args.from (turned c.args.from) (shelved c.world.inside.shelf) (shelved c.turn_flush.new.shelf) earlier ticket c.args.saved.now later c.world.invariant.ascending at.kept c.turn_flush.ensures.turns.kept c.turn_flush.ensures.turns.faces)

pub returns-clause-counts : goal.returns-clause-counts
returns-clause-counts c = rw (← c.world.view_is) ((
  omega (arith, c.turn_flush.ensures.turns.top),
  omega (arith, c.turn_flush.ensures.turns.stored),
  c.turn_flush.ensures.turns.limit,
  same_owners c.world.inside.shelf c.turn_flush.new.shelf c.turn_flush.ensures.turns.owners,
))
