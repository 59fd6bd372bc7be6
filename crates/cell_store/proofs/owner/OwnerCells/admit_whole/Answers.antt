use Rattle.std.proofs.Common.{arith}
use Rattle.cell_store.proofs.OwnLaws.{empty_upto}
use Rattle.cell_store.proofs.owner.OwnerCells.admit_whole.Goals as goal

pub returns-clause-upto : goal.returns-clause-upto
returns-clause-upto c = empty_upto c.args.top _ (omega arith) c.requires.scope c.new.ensures.items
