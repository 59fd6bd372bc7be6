use Rattle.cell_store.proofs.OwnLaws.{empty_upto}
use Rattle.cell_store.proofs.owner.OwnerCells.new.Goals as goal

pub returns-clause-upto : goal.returns-clause-upto
returns-clause-upto c = λ top. empty_upto top _ tt tt c.new.ensures.items
