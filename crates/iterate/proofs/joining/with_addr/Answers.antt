use Rattle.std.proofs.Common.{List, sym, subst}
use Rattle.std.specs.List.{Contains}
use Rattle.dns_text.specs.declared.addr.Addr.{Addr}
use Rattle.iterate.specs.Searching.{AreDistinct}
use Rattle.iterate.proofs.Lists.{distinct_push}
use Rattle.iterate.proofs.joining.with_addr.Goals as goal

pub returns-clause-distinct : goal.returns-clause-distinct
returns-clause-distinct c = λ distinct.
    subst (λ (xs : List Addr). AreDistinct xs) (sym c.in_ok-push.ensures.items)
    (distinct_push c.args.addrs.items c.args.addr.now distinct (λ is. let t = c.is_listed.ensures.1 (subst (λ (xs : List Addr). Contains xs c.args.addr.now) (sym c.deref.ensures.value) is) in let e : ⊥ = cc in e))
