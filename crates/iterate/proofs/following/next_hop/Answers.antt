use Rattle.std.proofs.lemmas.Result.{IfOk-weaker}
use Rattle.iterate.proofs.FollowTurns.{hop_along}
use Rattle.iterate.proofs.following.next_hop.Goals as goal

pub returns-in-Some : goal.returns-in-Some
returns-in-Some c = rw c.in-Some.is at c.in_ok-told.ensures.exact

pub returns-in-None : goal.returns-in-None
returns-in-None c =
    let none = rw c.in-None.is at c.in_ok-told.ensures.exact in
    IfOk-weaker c.alias_hop.result _ _ (λ hop along. hop_along c.args.harvest.now c.args.last.now hop none along) c.alias_hop.ensures
