use Rattle.std.proofs.Common.{◌+◌, ◌-◌, length, refl, arith}
use Rattle.local_zone.proofs.InPlaceLaws.{restored}
use Rattle.local_zone.proofs.in_place.restore.Goals as goal

pub returns-in-Some : goal.returns-in-Some
returns-in-Some c =
    let front = c.min-front.result in
    let moved = c.shift.new.list in
    restored c.args.gaps.now c.in-Some.first.now c.in-Some.more.now c.args.list.now moved _ c.spread.new.list c.args.left front (length moved - (front + 1)) c.in-Some.ensures.cases.0 c.requires (omega arith)
    c.shift.ensures refl refl c.spread.ensures
