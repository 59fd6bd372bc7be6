use Rattle.cell_store.proofs.OpenLaws.{opens_none}
use Rattle.cell_store.proofs.owner.OwnerCells.place_for.Goals as goal

pub returns-in-Some-clause-opens : goal.returns-in-Some-clause-opens
returns-in-Some-clause-opens c = opens_none c.args.top c.args.self.now c.requires.upto
