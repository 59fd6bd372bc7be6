use Rattle.std.proofs.Common.{List, sym, subst}
use Rattle.std.proofs.lemmas.List.{take_more}
use Rattle.dns_text.specs.declared.addr.Addr.{Addr}
use Rattle.iterate.specs.Joining.{AreAmong}
use Rattle.iterate.proofs.Joined.{noted_new}
use Rattle.iterate.proofs.joining.set_of.Goals as goal

pub loop-addr-preserved : goal.loop-addr-preserved
loop-addr-preserved c =
    let addrs = c.args.addrs.now in
    subst (λ (xs : List Addr). AreAmong c.note.new.seen xs) (sym (take_more addrs c.loop-addr.addr-index _ c.loop-addr-test.true))
    (noted_new c.loop-addr.seen c.note.new.seen _ _ c.loop-addr.invariant c.in_ok-note.ensures.adds)
