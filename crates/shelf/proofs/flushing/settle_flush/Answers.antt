use Rattle.std.proofs.Common.{length, arith}
use Rattle.shelf.specs.declared.settling.Settling.{Settling}
use Rattle.shelf.specs.Settling.{joining, without_outdone}
use Rattle.shelf.proofs.LeftLaws.{joining_left, pushed_left}
use Rattle.shelf.proofs.UsefulLaws.{useful_joined}
use Rattle.shelf.proofs.flushing.settle_flush.Goals as goal

pub settle_reach-requires : goal.settle_reach-requires
settle_reach-requires c = record {
  tallied = record { counted = c.requires.tallied.counted; top = c.requires.tallied.top; size = c.doubt_all.ensures.size c.requires.tallied.size };
  room = c.requires.room;
  settles = c.requires.settles;
}

pub returns-clause-moved : goal.returns-clause-moved
returns-clause-moved c = c.settle_reach.ensures.moved

pub returns-clause-lost : goal.returns-clause-lost
returns-clause-lost c = c.settle_reach.ensures.lost.places

pub returns-clause-doubt : goal.returns-clause-doubt
returns-clause-doubt c =
    let names = length c.args.owners.now.entries in
    let own : Settling = joining c.args.flush.reach c.args.flush.name c.args.number names in
    record {
      ends = λ kept more is. c.settle_reach.ensures.lost.ends more (c.doubt_all.ensures.ends kept more is);
      left = omega (arith, c.doubt_all.ensures.left, c.settle_reach.ensures.left, pushed_left own (without_outdone own.zone own.number c.args.settlings.now.items) c.settle_reach.new.settlings.items c.settle_reach.ensures.items, joining_left c.args.flush.reach c.args.flush.name c.args.number names);
    }

pub returns-clause-space : goal.returns-clause-space
returns-clause-space c = record {
  more = c.settle_reach.ensures.space;
  useful = useful_joined (joining c.args.flush.reach c.args.flush.name c.args.number (length c.args.owners.now.entries)) c.args.settlings.now.items c.settle_reach.new.settlings.items c.settle_reach.ensures.items;
}

pub returns-clause-items : goal.returns-clause-items
returns-clause-items c = c.settle_reach.ensures.items
