use Rattle.std.proofs.Common.{◌+◌, ◌-◌, arith}
use Rattle.local_zone.proofs.InPlaceLaws.{shifted}
use Rattle.local_zone.proofs.in_place.shift.Goals as goal

pub returns : goal.returns
returns c = shifted c.args.list.now c.rotate_left.new.self c.args.front c.args.count c.args.gap (c.args.front + c.args.count + c.args.gap - c.args.front) (omega arith) c.rotate_left.ensures.after
