use Rattle.iterate.proofs.FollowTurns.{has_target}
use Rattle.iterate.proofs.following.hop_by.Goals as goal

pub returns-in-Some : goal.returns-in-Some
returns-in-Some c = λ harvest name told. (told, rw c.in-Some.is at c.in_ok-to.ensures)

pub returns-in-None : goal.returns-in-None
returns-in-None c = λ harvest name told.
    let none = rw c.in-None.is at c.in_ok-to.ensures in
    let leads = has_target harvest name c.args.told told in
    absurd (none leads.0 leads.1)
