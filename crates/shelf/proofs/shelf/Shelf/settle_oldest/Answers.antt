use Rattle.std.proofs.Common.{◌≤◌, length, refl, ap, ◌∙◌, arith}
use Rattle.shelf.specs.declared.shelf.KeptFlush.{KeptFlush}
use Rattle.shelf.specs.Settling.{joined_by, settled_cell}
use Rattle.shelf.specs.Told.{cell_at, CanSettleFlush}
use Rattle.shelf.proofs.FaceLaws.{read_first, removed_face, removed_kept, all_removed, ascending_removed, all_first, settles_each}
use Rattle.shelf.proofs.LosingLaws.{tallied}
use Rattle.shelf.proofs.shelf.Shelf.settle_oldest.Goals as goal

pub settle_flush-requires : goal.settle_flush-requires
settle_flush-requires c =
    record {
      tallied = tallied c.args.self.now c.requires.whole;
      room = omega (arith, c.requires.whole.space);
      settles = all_first (λ own. CanSettleFlush c.args.self.now.owners own.number own.flush) c.args.self.now.kept.items c.remove-own.result (omega arith) c.remove-own.ensures.value c.requires.whole.settles;
    }

pub returns-clause-faces : goal.returns-clause-faces
returns-clause-faces c =
    let self = c.args.self.now in
    let older = all_first (λ own. own.number ≤ self.top) self.kept.items c.remove-own.result (omega arith) c.remove-own.ensures.value c.requires.whole.numbers in
    removed_face (cell_at self) (settled_cell c.settle_flush.new.settlings.items c.settle_flush.new.owners) self.kept.items c.remove-own.new.self.items c.remove-own.result c.requires.whole.ascending c.remove-own.ensures.value c.remove-own.ensures.items
    (c.settle_flush.ensures.moved self.top older c.requires.whole.upto c.requires.whole.settling).cells

pub returns-clause-kept : goal.returns-clause-kept
returns-clause-kept c = removed_kept c.args.self.now.kept.items c.remove-own.new.self.items c.remove-own.ensures.items

pub returns-clause-whole : goal.returns-clause-whole
returns-clause-whole c =
    let self = c.args.self.now in
    let whole = c.requires.whole in
    let older = all_first (λ own. own.number ≤ self.top) self.kept.items c.remove-own.result (omega arith) c.remove-own.ensures.value whole.numbers in
    let moved = c.settle_flush.ensures.moved self.top older whole.upto whole.settling in
    record {
      upto = moved.upto;
      about = moved.about whole.about;
      numbers = all_removed (λ own. own.number ≤ self.top) self.kept.items c.remove-own.new.self.items c.remove-own.ensures.items whole.numbers;
      ascending = ascending_removed self.kept.items c.remove-own.new.self.items c.remove-own.ensures.items whole.ascending;
      settles = settles_each self.owners c.settle_flush.new.owners c.remove-own.new.self.items c.settle_flush.ensures.lost.gains.settles
          (all_removed (λ own. CanSettleFlush self.owners own.number own.flush) self.kept.items c.remove-own.new.self.items c.remove-own.ensures.items whole.settles);
      counted = c.settle_flush.ensures.lost.counted;
      few = omega (arith, c.settle_flush.ensures.lost.fewer, whole.few);
      small = whole.small;
      room = omega (arith, c.remove-own.ensures.len, whole.room);
      ends = c.settle_flush.ensures.doubt.ends self.kept.items c.remove-own.new.self.items whole.ends;
      settling = moved.settling;
      space = omega (arith, c.settle_flush.ensures.space.more.0, c.settle_flush.ensures.space.more.1, c.remove-own.ensures.len, whole.space);
      named = c.settle_flush.ensures.lost.named whole.named;
      useful = c.settle_flush.ensures.space.useful whole.useful;
      doubt = c.settle_flush.ensures.doubt.left;
    }

pub returns-clause-settlings : goal.returns-clause-settlings
returns-clause-settlings c = λ own later is.
    let self = c.args.self.now in
    c.settle_flush.ensures.items
    ∙ ap (λ (k : KeptFlush). joined_by k.flush.reach k.flush.name k.number (length self.owners.entries) self.settlings.items)
    (read_first self.kept.items own c.remove-own.result later c.remove-own.ensures.value is)

pub returns-clause-bounds : goal.returns-clause-bounds
returns-clause-bounds c = (refl, refl, c.settle_flush.ensures.lost.fewer)

pub returns-clause-pairs : goal.returns-clause-pairs
returns-clause-pairs c = c.settle_flush.ensures.lost.gains.pairs
