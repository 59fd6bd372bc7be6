use Rattle.std.proofs.Common.{ap, ◌∙◌, arith}
use Rattle.shelf.specs.Told.{without}
use Rattle.shelf.proofs.FaceLaws.{removed_here, removed_none}
use Rattle.shelf.proofs.flushing.remove_number.Goals as goal

pub returns-then-index-number : goal.returns-then-index-number
returns-then-index-number c =
    c.remove.ensures.items
    ∙ (removed_here c.args.number c.loop-place.place c.loop-place.kept.items c.index.result.now c.loop-place.invariant.1 (omega arith) c.index.ensures c.if-index-number.true
    ∙ ap (without c.args.number) c.loop-place.invariant.0)

pub returns : goal.returns
returns c = removed_none c.args.number c.loop-place.place c.loop-place.kept.items c.loop-place.invariant.1 (omega arith) ∙ ap (without c.args.number) c.loop-place.invariant.0
