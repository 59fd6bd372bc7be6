use Rattle.std.proofs.Common.{get_or, arith}
use Rattle.std.proofs.lemmas.List.{drop_more}
use Rattle.local_zone.proofs.InPlaceLaws.{gathered_none, gathered_more}
use Rattle.local_zone.proofs.in_place.gather.Goals as goal

pub loop-count-init : goal.loop-count-init
loop-count-init c = gathered_none c.args.gaps.now c.args.list.now c.requires

pub loop-count-preserved : goal.loop-count-preserved
loop-count-preserved c =
    gathered_more c.args.gaps.now c.args.list.now c.loop-count.list c.shift.new.list c.loop-count.front c.loop-count.count (get_or c.args.gaps.now c.loop-count.count 0) c.loop-count.invariant
    (drop_more c.args.gaps.now c.loop-count.count 0 (omega arith)) c.shift.ensures
