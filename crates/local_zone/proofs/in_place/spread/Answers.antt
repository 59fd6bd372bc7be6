use Rattle.std.proofs.Common.{◌-◌, length, get_or, arith}
use Rattle.std.proofs.lemmas.List.{drop_more}
use Rattle.local_zone.proofs.InPlaceLaws.{spread_none, spread_more, spread_long}
use Rattle.local_zone.proofs.in_place.spread.Goals as goal

pub loop-done-init : goal.loop-done-init
loop-done-init c = spread_none c.args.gaps.now c.args.list.now c.requires

pub loop-done-preserved : goal.loop-done-preserved
loop-done-preserved c =
    spread_more c.args.gaps.now c.args.list.now c.loop-done.list c.shift.new.list c.loop-done.front c.loop-done.done (get_or c.args.gaps.now c.loop-done.done 0) (length c.args.gaps.now - c.loop-done.done) c.min-passed.result
    c.loop-done.invariant (drop_more c.args.gaps.now c.loop-done.done 0 (omega arith)) (omega arith) (omega arith)
    (omega (arith, spread_long c.args.gaps.now c.args.list.now c.loop-done.list c.loop-done.front c.loop-done.done c.loop-done.invariant)) c.shift.ensures
