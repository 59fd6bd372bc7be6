use Rattle.std.proofs.Common.{Ok, refl}
use Rattle.replies.specs.declared.limits.TheConstants.{ITEM_STEPS}
use Rattle.replies.specs.Dear.{ItemTakes, Read, both, first_on, read, so_far, wanting}
use Rattle.replies.proofs.Dearness.{fails, then_next, then_stop}
use Rattle.replies.proofs.dear.pass_record.Goals as goal

pub returns-in_err-take_steps : goal.returns-in_err-take_steps
returns-in_err-take_steps c =
    let stops = c.in_err-take_steps.ensures.err in
    fails _ _ _ _ _ c.from_residual.ensures (rw stops.0 (wanting {n = ITEM_STEPS} stops.1 (both (refl, refl) (first_on so_far) refl)))

pub returns-in_err-at : goal.returns-in_err-at
returns-in_err-at c =
    let item : Read (ItemTakes c.args.start) c.args.left.now c.take_steps.new.left (Ok c.args.start) = read {n = ITEM_STEPS} c.in_ok-take_steps.ensures.ok (refl, refl) in
    fails _ _ _ _ _ c.from_residual-in_err-at.ensures (then_next _ _ item (then_stop _ _ c.in_err-at.ensures.takes))

pub returns : goal.returns
returns c =
    let item : Read (ItemTakes c.args.start) c.args.left.now c.take_steps.new.left (Ok c.args.start) = read {n = ITEM_STEPS} c.in_ok-take_steps.ensures.ok (refl, refl) in
    then_next _ _ item (then_next _ _ c.in_ok-at.ensures.takes c.pass_rest.ensures)
