use Rattle.std.proofs.Common.{length, refl, arith}
use Rattle.shelf.specs.Settling.{steps_left}
use Rattle.shelf.proofs.SettlingLaws.{is_none, is_some, moved_same, moved_some}
use Rattle.shelf.proofs.LeftLaws.{first_length, near_none, near_some, stepped_left, stepped_none, stepped_some}
use Rattle.shelf.proofs.LosingLaws.{lose_no_cells}
use Rattle.shelf.proofs.UsefulLaws.{useful_stepped}
use Rattle.shelf.proofs.settling.reach_some.Goals as goal

pub returns-then-is_empty-clause-moved : goal.returns-then-is_empty-clause-moved
returns-then-is_empty-clause-moved c = λ top upto all. moved_same top c.args.settlings.now.items c.args.owners.now upto all

pub returns-then-is_empty-clause-lost : goal.returns-then-is_empty-clause-lost
returns-then-is_empty-clause-lost c = lose_no_cells c.args.owners.now c.args.stored.now c.args.ends.now c.requires.tallied.counted c.requires.tallied.size

pub returns-then-is_empty-clause-left : goal.returns-then-is_empty-clause-left
returns-then-is_empty-clause-left c = record {
  steps = stepped_none c.args.most c.args.settlings.now.items (is_none _ (length c.args.settlings.now.items) c.is_empty.result c.is_empty.ensures (omega arith) c.if-is_empty.true);
  ended = near_none c.args.ends.now.moments (steps_left c.args.settlings.now.items);
  doubt = λ few. few;
}

pub returns-then-is_empty-clause-room : goal.returns-then-is_empty-clause-room
returns-then-is_empty-clause-room c = record { size = omega arith; capacity = refl; useful = λ is. is }

pub reach-left-requires : goal.reach-left-requires
reach-left-requires c = record { tallied = c.requires.tallied }

pub returns-clause-moved : goal.returns-clause-moved
returns-clause-moved c = λ top upto all.
    moved_some top c.reach-left.result c.index-own.result.now c.args.settlings.now.items c.step_first.new.settlings.items c.args.owners.now c.reach-left.new.owners (is_some _ (length c.args.settlings.now.items) c.is_empty.result c.is_empty.ensures (omega arith) c.if-is_empty.false) c.index-own.ensures c.step_first.ensures.items
    (c.reach-left.ensures.reaching top upto) all

pub returns-clause-lost : goal.returns-clause-lost
returns-clause-lost c = c.reach-left.ensures.lost

pub returns-clause-room : goal.returns-clause-room
returns-clause-room c =
    let was = c.args.settlings.now.items in
    let now = c.step_first.new.settlings.items in
    record {
      size = first_length c.reach-left.result was now c.step_first.ensures.items;
      capacity = c.step_first.ensures.capacity;
      useful = useful_stepped c.reach-left.result was now c.step_first.ensures.items;
    }

pub returns-clause-left : goal.returns-clause-left
returns-clause-left c =
    let was = c.args.settlings.now.items in
    let now = c.step_first.new.settlings.items in
    let own = c.index-own.result.now in
    let some = is_some _ (length was) c.is_empty.result c.is_empty.ensures (omega arith) c.if-is_empty.false in
    record {
      steps = stepped_some c.args.most c.reach-left.result own was now some c.index-own.ensures c.step_first.ensures.items c.reach-left.ensures.left;
      ended = near_some c.reach-left.result own was now c.args.ends.now.moments c.reach-left.new.ends.moments some c.index-own.ensures c.step_first.ensures.items c.reach-left.ensures.ended.0;
      doubt = stepped_left own.left c.reach-left.result c.args.ends.now.left c.reach-left.new.ends.left was now own some c.index-own.ensures c.step_first.ensures.items refl c.reach-left.ensures.ended.1.0 c.reach-left.ensures.ended.1.1;
    }
