use Rattle.std.proofs.Common.{length, refl, arith}
use Rattle.shelf.specs.Settling.{doubting, without_outdone}
use Rattle.shelf.proofs.EndLaws.{ends_mixed}
use Rattle.shelf.proofs.SettlingLaws.{doubt_items, doubt_moved, doubt_versions, moved_same}
use Rattle.shelf.proofs.LeftLaws.{pushed_left}
use Rattle.shelf.proofs.UsefulLaws.{useful_joined}
use Rattle.shelf.proofs.settling.doubt_later.Goals as goal

pub returns-clause-doubt : goal.returns-clause-doubt
returns-clause-doubt c =
    let names = length c.args.owners.now.entries in
    record {
      ends = c.doubt_all.ensures.ends;
      left = omega (
        arith,
        c.doubt_all.ensures.left,
        pushed_left (doubting names) (without_outdone (doubting names).zone 0 c.args.settlings.now.items) c.settle_zone.new.settlings.items
            (doubt_items c.root.result names c.args.settlings.now.items c.settle_zone.new.settlings.items c.root.ensures c.settle_zone.ensures.items),
      );
    }

pub returns-clause-moved : goal.returns-clause-moved
returns-clause-moved c = λ top upto all. doubt_moved c.root.result top c.args.settlings.now.items c.settle_zone.new.settlings.items c.args.owners.now (c.settle_zone.ensures.moved top (omega arith) upto all)

pub returns-clause-room : goal.returns-clause-room
returns-clause-room c =
    let names = length c.args.owners.now.entries in
    record {
      more = c.settle_zone.ensures.room;
      useful = useful_joined (doubting names) c.args.settlings.now.items c.settle_zone.new.settlings.items
          (doubt_items c.root.result names c.args.settlings.now.items c.settle_zone.new.settlings.items c.root.ensures c.settle_zone.ensures.items);
    }

pub returns-clause-items : goal.returns-clause-items
returns-clause-items c = λ space.
    let names = length c.args.owners.now.entries in
    doubt_items c.root.result names c.args.settlings.now.items c.settle_zone.new.settlings.items c.root.ensures c.settle_zone.ensures.items

pub returns-clause-versions : goal.returns-clause-versions
returns-clause-versions c =
    let names = length c.args.owners.now.entries in
    doubt_versions names c.args.settlings.now.items c.settle_zone.new.settlings.items (doubt_items c.root.result names c.args.settlings.now.items c.settle_zone.new.settlings.items c.root.ensures c.settle_zone.ensures.items)

pub returns-then-len-capacity-clause-doubt : goal.returns-then-len-capacity-clause-doubt
returns-then-len-capacity-clause-doubt c = record {
  ends = λ kept more is. ends_mixed kept more c.args.owners.now.entries c.args.ends.now c.end_mixed.new.ends is (c.end_mixed.ensures.evened is.flags);
  left = omega (arith, c.end_mixed.ensures.left);
}

pub returns-then-len-capacity-clause-moved : goal.returns-then-len-capacity-clause-moved
returns-then-len-capacity-clause-moved c = λ top upto all. moved_same top c.args.settlings.now.items c.args.owners.now upto all

pub returns-then-len-capacity-clause-room : goal.returns-then-len-capacity-clause-room
returns-then-len-capacity-clause-room c = record { more = (omega arith, refl); useful = λ is. is }
