use Rattle.std.proofs.Common.{refl, arith}
use Rattle.shelf.proofs.FaceLaws.{settles_each}
use Rattle.shelf.proofs.LosingLaws.{tallied}
use Rattle.shelf.proofs.shelf.Shelf.reach_names.Goals as goal

pub reach_some-requires : goal.reach_some-requires
reach_some-requires c = record { tallied = tallied c.args.self.now c.requires.whole }

pub returns-clause-cells : goal.returns-clause-cells
returns-clause-cells c = (c.reach_some.ensures.moved c.args.self.now.top c.requires.whole.upto c.requires.whole.settling).cells

pub returns-clause-left : goal.returns-clause-left
returns-clause-left c = c.reach_some.ensures.left.steps

pub returns-clause-ended : goal.returns-clause-ended
returns-clause-ended c = c.reach_some.ensures.left.ended

pub returns-clause-loses : goal.returns-clause-loses
returns-clause-loses c =
    let self = c.args.self.now in
    let whole = c.requires.whole in
    let moved = c.reach_some.ensures.moved self.top whole.upto whole.settling in
    let lost = c.reach_some.ensures.lost in
    record {
      whole = record {
        upto = moved.upto;
        about = moved.about whole.about;
        numbers = whole.numbers;
        ascending = whole.ascending;
        settles = settles_each self.owners c.reach_some.new.owners self.kept.items lost.places.gains.settles whole.settles;
        counted = lost.places.counted;
        few = omega (arith, lost.places.fewer, whole.few);
        small = whole.small;
        room = whole.room;
        ends = lost.ends self.kept.items whole.ends;
        settling = moved.settling;
        space = omega (arith, c.reach_some.ensures.room.size, c.reach_some.ensures.room.capacity, whole.space);
        named = lost.places.named whole.named;
        useful = c.reach_some.ensures.room.useful whole.useful;
        doubt = c.reach_some.ensures.left.doubt whole.doubt;
      };
      flushes = (refl, refl, refl);
      stored = lost.places.fewer;
      pairs = lost.places.gains.pairs;
    }
