use Rattle.std.proofs.Common.{◌≡◌, false, List, sym, subst}
use Rattle.dns_text.specs.declared.addr.Addr.{Addr}
use Rattle.iterate.specs.Joining.{has_addr}
use Rattle.iterate.specs.Searching.{AreDistinct}
use Rattle.iterate.proofs.Joined.{lacks, newly}
use Rattle.iterate.proofs.Lists.{distinct_push}
use Rattle.iterate.proofs.joining.with_noted.Goals as goal

pub returns-clause-distinct : goal.returns-clause-distinct
returns-clause-distinct c = λ distinct.
    let new : has_addr c.args.seen.now c.args.addr.now ≡ false = newly c.in_ok-added.added (has_addr c.args.seen.now c.args.addr.now) c.if-not-added.false c.in_ok-added.ensures.told in
    subst (λ (xs : List Addr). AreDistinct xs) (sym c.in_ok-push.ensures.items)
    (distinct_push c.args.addrs.items c.args.addr.now distinct (lacks c.args.seen.now c.args.addrs.items c.args.addr.now new c.requires))
