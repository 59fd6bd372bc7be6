use Rattle.std.proofs.Common.{◌≡◌, ◌≤◌, ◌+◌, List, cond, sym, ap, ◌∙◌, subst, length, arith}
use Rattle.std.specs.List.{AllByRecursion}
use Rattle.shelf.specs.declared.shelf.KeptFlush.{KeptFlush}
use Rattle.cell_store.specs.Store.{cell_of}
use Rattle.shelf.specs.Settling.{doubted}
use Rattle.shelf.specs.Clean.{AreEnds}
use Rattle.shelf.specs.Told.{cell_at, chosen_version, IsAscending, CanSettleFlush}
use Rattle.shelf.proofs.FaceLaws.{all_without, ascending_without, chosen_without, less_without, same_without}
use Rattle.shelf.proofs.shelf.Shelf.settle_cleared.Goals as goal

pub returns-then-len-before-clause-faces : goal.returns-then-len-before-clause-faces
returns-then-len-before-clause-faces c = λ chosen off q.
    let self = c.args.self.now in
    ap (λ n. cell_of self.owners q n) (c.doubt_later.ensures.versions q.owner (chosen_version c.remove_number.new.kept.items q chosen))
    ∙ (ap (λ (l : List KeptFlush). cell_at self q (chosen_version l q chosen)) c.remove_number.ensures
    ∙ ap (cell_at self q) (chosen_without c.args.number self.kept.items q chosen off))

pub returns-then-len-before-clause-whole : goal.returns-then-len-before-clause-whole
returns-then-len-before-clause-whole c = λ is.
    let self = c.args.self.now in
    let kept = self.kept.items in
    let moved = c.doubt_later.ensures.moved self.top is.upto is.settling in
    let fewer : length c.remove_number.new.kept.items + 1 ≡ length kept = (less_without c.args.number kept c.remove_number.new.kept.items c.remove_number.ensures (omega (arith, c.len-before.ensures, c.len.ensures, c.if-len-before.true))).0 in
    record {
      upto = is.upto;
      about = is.about;
      numbers = subst (λ (l : List KeptFlush). AllByRecursion (λ own. own.number ≤ self.top) l) (sym c.remove_number.ensures) (all_without (λ own. own.number ≤ self.top) c.args.number kept is.numbers);
      ascending = subst (λ (l : List KeptFlush). IsAscending l) (sym c.remove_number.ensures) (ascending_without c.args.number kept is.ascending);
      settles = subst (λ (l : List KeptFlush). AllByRecursion (λ own. CanSettleFlush self.owners own.number own.flush) l) (sym c.remove_number.ensures)
          (all_without (λ own. CanSettleFlush self.owners own.number own.flush) c.args.number kept is.settles);
      counted = is.counted;
      few = is.few;
      small = is.small;
      room = omega (arith, fewer, is.room);
      ends = c.doubt_later.ensures.doubt.ends kept c.remove_number.new.kept.items is.ends;
      settling = moved.settling;
      space = omega (arith, fewer, c.doubt_later.ensures.room.more.0, c.doubt_later.ensures.room.more.1, is.space);
      named = is.named;
      useful = c.doubt_later.ensures.room.useful is.useful;
      doubt = c.doubt_later.ensures.doubt.left;
    }

pub returns-then-len-before-clause-settlings : goal.returns-then-len-before-clause-settlings
returns-then-len-before-clause-settlings c = λ is.
    let self = c.args.self.now in
    let kept = self.kept.items in
    let names = length self.owners.entries in
    let less = less_without c.args.number kept c.remove_number.new.kept.items c.remove_number.ensures (omega (arith, c.len-before.ensures, c.len.ensures, c.if-len-before.true)) in
    c.doubt_later.ensures.items (omega (arith, less.0, is.space)) ∙ ap (λ b. cond b (doubted names self.settlings.items) self.settlings.items) (sym less.1)

pub returns-else-len-before-clause-settlings : goal.returns-else-len-before-clause-settlings
returns-else-len-before-clause-settlings c = λ is.
    let self = c.args.self.now in
    let names = length self.owners.entries in
    let same = same_without c.args.number self.kept.items c.remove_number.new.kept.items c.remove_number.ensures (omega (arith, c.len-before.ensures, c.len.ensures, c.if-len-before.false)) in
    ap (λ b. cond b (doubted names self.settlings.items) self.settlings.items) (sym same.1)

pub returns-else-len-before-clause-faces : goal.returns-else-len-before-clause-faces
returns-else-len-before-clause-faces c = λ chosen off q.
    ap (λ (l : List KeptFlush). cell_at c.args.self.now q (chosen_version l q chosen)) c.remove_number.ensures
    ∙ ap (cell_at c.args.self.now q) (chosen_without c.args.number c.args.self.now.kept.items q chosen off)

pub returns-else-len-before-clause-whole : goal.returns-else-len-before-clause-whole
returns-else-len-before-clause-whole c = λ is.
    let self = c.args.self.now in
    let same = (same_without c.args.number self.kept.items c.remove_number.new.kept.items c.remove_number.ensures (omega (arith, c.len-before.ensures, c.len.ensures, c.if-len-before.false))).0 in
    record {
      upto = is.upto;
      about = is.about;
      numbers = subst (λ (l : List KeptFlush). AllByRecursion (λ own. own.number ≤ self.top) l) (sym same) is.numbers;
      ascending = subst (λ (l : List KeptFlush). IsAscending l) (sym same) is.ascending;
      settles = subst (λ (l : List KeptFlush). AllByRecursion (λ own. CanSettleFlush self.owners own.number own.flush) l) (sym same) is.settles;
      counted = is.counted;
      few = is.few;
      small = is.small;
      room = omega (arith, ap length same, is.room);
      ends = subst (λ (l : List KeptFlush). AreEnds l self.owners.entries self.ends) (sym same) is.ends;
      settling = is.settling;
      space = omega (arith, ap length same, is.space);
      named = is.named;
      useful = is.useful;
      doubt = is.doubt;
    }
