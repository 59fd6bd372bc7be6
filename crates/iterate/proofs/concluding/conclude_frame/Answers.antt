use Rattle.std.proofs.Common.{◌<◌, sym, subst}
use Rattle.std.proofs.lemmas.Result.{IfOk-weaker}
use Rattle.iterate.specs.declared.path.Path.{Path}
use Rattle.iterate.specs.Known.{servers_referred}
use Rattle.iterate.proofs.Asking.{asks_fresh, referred_hunt}
use Rattle.iterate.proofs.Coming.{from_less}
use Rattle.iterate.proofs.concluding.conclude_frame.Goals as goal

pub returns-clause-goes : goal.returns-clause-goes
returns-clause-goes g c = λ question log allowed h.
    let k = c.in_ok-after.ensures.smaller question log allowed h in
    IfOk-weaker c.go_on.result _ _ (λ t goes. from_less k.falls goes) (c.go_on.ensures.goes c.args.port question log k.is_search k.orderly)

pub returns-clause-refers : goal.returns-clause-refers
returns-clause-refers g c = λ referral says few.
    let after = c.in_ok-after.after in
    let fresh = referred_hunt c.args.search.frames.items after.frames.items (servers_referred referral) after.base (c.in_ok-after.ensures.refers referral says) in
    let few_there = subst (λ (p : Path). p.sent < 64) (sym c.in_ok-after.ensures.path) few in
    asks_fresh (servers_referred referral) after c.go_on.result fresh (λ server rest is. c.go_on.ensures.asks server rest is few_there)
