use Rattle.std.proofs.Common.{arith}
use Rattle.local_zone.proofs.InPlaceLaws.{length_rest}
use Rattle.local_zone.proofs.record_list.cut_out.Goals as goal

pub overflow_sub-stay : goal.overflow_sub-stay
overflow_sub-stay c = omega (arith, length_rest c.args.gaps.now c.args.list.now.items c.requires.within, c.args.list.now.ok.0)
