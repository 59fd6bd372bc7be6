use Rattle.iterate.proofs.following.alias_hop.Goals as goal

pub returns-in-Some : goal.returns-in-Some
returns-in-Some c = c.hop_by.ensures c.args.harvest.now c.args.name.now (rw c.in-Some.is at c.in_ok-told.ensures)

pub returns-in-None : goal.returns-in-None
returns-in-None c = rw c.in-None.is at c.in_ok-told.ensures
