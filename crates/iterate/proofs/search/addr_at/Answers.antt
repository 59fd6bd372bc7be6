use Rattle.std.proofs.Common.{suc, drop, arith}
use Rattle.std.proofs.Math.Seq.{drop-cons}
use Rattle.iterate.proofs.search.addr_at.Goals as goal

pub returns-then-place-addrs : goal.returns-then-place-addrs
returns-then-place-addrs c = (drop (suc c.args.place) c.args.addrs.now, drop-cons c.args.addrs.now c.args.place _ (omega arith))
