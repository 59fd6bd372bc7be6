use Rattle.std.proofs.Common.{◌≡◌, ◌+◌, ◌-◌, subst, arith}
use Rattle.shelf.specs.Settling.{IsReaching}
use Rattle.shelf.specs.Sweep.{EndNear}
use Rattle.shelf.proofs.SettlingLaws.{reach_none, reach_then}
use Rattle.shelf.proofs.LeftLaws.{near_none, near_then}
use Rattle.shelf.proofs.LosingLaws.{cells_twice, lose_no_cells}
use Rattle.shelf.proofs.settling.reach.Goals as goal

pub loop-place-init : goal.loop-place-init
loop-place-init c = record {
  low = omega arith;
  last = omega (arith, c.saturating_sub-last.ensures);
  reaching = λ top is. reach_none c.args.zone.now c.args.number top c.args.left c.args.owners.now is;
  lost = lose_no_cells c.args.owners.now c.args.stored.now c.args.ends.now c.requires.tallied.counted c.requires.tallied.size;
  ended = (near_none c.args.ends.now.moments c.args.left, (omega arith, λ low. low));
}

pub reach_at-requires : goal.reach_at-requires
reach_at-requires c =
    let top = c.requires.tallied.top in
    let is = c.loop-place.invariant in
    record { tallied = record { counted = is.lost.places.counted; top = (top.0, is.lost.places.gains.upto top.0 top.1); size = is.lost.size } }

pub loop-place-preserved : goal.loop-place-preserved
loop-place-preserved c =
    let was = c.loop-place.invariant in
    let before : c.loop-place.place - 1 + 1 ≡ c.loop-place.place = omega (arith, c.loop-place-test.true) in
    record {
      low = omega (arith, was.low);
      last = omega (arith, c.loop-place-test.true);
      reaching = λ top is.
          let so_far = was.reaching top is in
          reach_then c.args.zone.now c.args.number top c.args.left c.loop-place.place (c.loop-place.place - 1) c.args.owners.now c.loop-place.owners c.reach_at.new.owners so_far
          (subst (λ n. IsReaching c.args.zone.now c.args.number top n (c.loop-place.place - 1) c.loop-place.owners c.reach_at.new.owners) before (c.reach_at.ensures.reaching top so_far.upto));
      lost = cells_twice c.args.owners.now c.loop-place.owners c.reach_at.new.owners c.args.stored.now c.loop-place.stored c.reach_at.new.stored c.args.ends.now c.loop-place.ends c.reach_at.new.ends was.lost c.reach_at.ensures.lost;
      ended = (
        near_then c.args.ends.now.moments c.loop-place.ends.moments c.reach_at.new.ends.moments c.args.left c.loop-place.place (c.loop-place.place - 1) was.ended.0
            (subst (λ n. EndNear c.loop-place.ends.moments c.reach_at.new.ends.moments n (c.loop-place.place - 1)) before c.reach_at.ensures.ended.0),
        (
          omega (arith, was.ended.1.0, c.reach_at.ensures.ended.1.0),
          λ low. let here = was.ended.1.1 low in let there = c.reach_at.ensures.ended.1.1 (omega (arith, here, before)) in there,
        ),
      );
    }

pub loop-place-smaller : goal.loop-place-smaller
loop-place-smaller c = omega (arith, c.loop-place-test.true)

pub returns : goal.returns
returns c =
    let is = c.loop-place.invariant in
    record {
      reaching = is.reaching;
      lost = is.lost;
      left = omega (arith, is.last, c.loop-place-test.false, c.saturating_sub-last.ensures);
      ended = is.ended;
    }
