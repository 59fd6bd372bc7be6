use Rattle.std.proofs.Common.{List, subst, rules}
use Rattle.dns_text.specs.declared.addr.Addr.{Addr}
use Rattle.iterate.specs.declared.search.Hunt.{Hunt}
use Rattle.iterate.specs.Hunting.{IsAt}
use Rattle.iterate.proofs.search.choose.Goals as goal

pub returns-in-Some : goal.returns-in-Some
returns-in-Some c =
    subst (λ (h : Hunt). IsAt h.addrs.items h.asked c.in-Some.server) c.hunt-hunt.ensures (subst (λ (xs : List Addr). IsAt xs c.hunt-hunt.result.now.asked c.in-Some.server) c.deref.ensures.value c.in-Some.ensures)

pub returns-else-may_seek : goal.returns-else-may_seek
returns-else-may_seek c =
    let at = subst (λ (h : Hunt). IsAt h.servers.missing h.sought c.in-Some-next_missing.name.now) c.hunt-hunt.ensures c.in-Some-next_missing.ensures in
    (c.in-Some-next_missing.name.now, record { rest = at.0; next = at.1 }, λ may. (let t = c.may_seek.ensures.1 may in let e : ⊥ = cc in e), search rules)
