use Rattle.std.proofs.Common.{rules, arith, ◌≡◌, ◌≤◌, refl, ◌∙◌, length}
use Rattle.circular_buffer.specs.Buffer.{buffer}
use Rattle.undo_journal.proofs.RowLaws.{clearing_none, clearing_more, clearing_all}
use Rattle.undo_journal.proofs.settling.settle_undone.Goals as goal

pub loop-round-init : goal.loop-round-init
loop-round-init g c = record {
  clearing = clearing_none g.C.World.World.table g.C.World.World.keeps g.C.World.World.face c.args.world.now c.args.ring.now.items;
  capacity = refl;
  newest = omega arith;
  stored = omega arith;
  pairs = λ pair has. has;
  most = refl;
}

pub loop-round-preserved : goal.loop-round-preserved
loop-round-preserved g c =
    let so = c.loop-round.invariant in
    record {
      clearing = clearing_more g.C.World.World.table g.C.World.World.keeps g.C.World.World.face c.args.world.now c.args.ring.now.items c.loop-round.world c.loop-round.ring c.loop-round._round
          c.turn_first.new.world c.turn_first.new.ring so.clearing (omega (arith, c.loop-round-test.true, c.len-round-end.ensures.len)) c.turn_first.ensures.turned;
      capacity = c.turn_first.ensures.turned.capacity ∙ so.capacity;
      newest = omega (arith, so.newest, c.turn_first.ensures.counts.0);
      stored = omega (arith, so.stored, c.turn_first.ensures.counts.1);
      pairs = λ pair has. so.pairs pair (c.turn_first.ensures.counts.3 pair has);
      most = c.turn_first.ensures.counts.2 ∙ so.most;
    }

pub returns-clause-ring : goal.returns-clause-ring
returns-clause-ring g c =
    let so = c.loop-round.invariant in
    let all = clearing_all g.C.World.World.table g.C.World.World.keeps g.C.World.World.face c.args.world.now c.args.ring.now.items c.loop-round.world c.loop-round.ring.items c.loop-round._round so.clearing
    (omega (arith, c.loop-round-test.false, c.len-round-end.ensures.len)) in
    λ i. buffer (all.0 i) (so.capacity i)

pub returns-clause-row : goal.returns-clause-row
returns-clause-row g c =
    let so = c.loop-round.invariant in
    (clearing_all g.C.World.World.table g.C.World.World.keeps g.C.World.World.face c.args.world.now c.args.ring.now.items c.loop-round.world c.loop-round.ring.items c.loop-round._round so.clearing
    (omega (arith, c.loop-round-test.false, c.len-round-end.ensures.len))).1
