use Rattle.std.proofs.lemmas.List.{take_more}
use Rattle.iterate.proofs.Supplying.{join_more, joined_all}
use Rattle.iterate.proofs.joining.join_many.Goals as goal

pub loop-addr-preserved : goal.loop-addr-preserved
loop-addr-preserved c =
    let added = c.in_ok-addrs.ensures in
    record {
      joined = join_more c.args.known.items c.loop-addr.addrs.items c.in_ok-addrs.addrs.items c.args.others.now c.loop-addr.addr-index _ (take_more c.args.others.now c.loop-addr.addr-index _ c.loop-addr-test.true)
          c.loop-addr.invariant.joined added.first added.has added.only added.distinct;
      seen = added.seen;
    }

pub returns : goal.returns
returns c = joined_all c.args.known.items c.args.others.now c.loop-addr.addrs.items c.loop-addr.addr-index c.loop-addr-test.false c.loop-addr.invariant.joined
