use Rattle.std.proofs.Common.{◌∙◌, ap, subst, sym, List, Option, arith}
use Rattle.cell_store.proofs.CountLaws.{count_settled, whole_less}
use Rattle.cell_store.specs.declared.owner.KindColumn.{KindColumn}
use Rattle.cell_store.specs.declared.owner.WholeFind.{WholeFind}
use Rattle.cell_store.specs.Owner.{column_of, column_held, IsSettled}
use Rattle.cell_store.specs.Walk.{IsEach}
use Rattle.cell_store.proofs.SettleLaws.{settled_cells, settled_upto, settled_settles}
use Rattle.cell_store.proofs.PlaceLaws.{kept_settled}
use Rattle.cell_store.proofs.owner.OwnerCells.settle_all.Goals as goal

pub returns-clause-cells : goal.returns-clause-cells
returns-clause-cells c = λ top is k v.
    let each = subst (λ (l : List KindColumn). IsEach (IsSettled c.args.number) c.args.self.now.kinds.items l) (sym c.settle_whole.ensures.kinds) c.settle_each.ensures in
    ap (λ (o : Option WholeFind). column_held o (column_of c.settle_whole.new.self.kinds.items k) v) c.settle_whole.ensures.whole
    ∙ settled_cells c.args.self.now.whole c.args.number c.args.self.now.kinds.items c.settle_whole.new.self.kinds.items each is.left k v

pub returns-clause-gains : goal.returns-clause-gains
returns-clause-gains c =
    let number = c.args.number in
    let old = c.args.self.now in
    let new = c.settle_whole.new.self in
    let whole = c.settle_whole.ensures.whole in
    let each = subst (λ (l : List KindColumn). IsEach (IsSettled number) old.kinds.items l) (sym c.settle_whole.ensures.kinds) c.settle_each.ensures in
    record {
      upto = λ top is. settled_upto number top old new whole each is;
      settles = λ n k settles. settled_settles number old.whole new.whole old.kinds.items new.kinds.items whole each n k settles;
      count = omega (arith, count_settled number old.kinds.items new.kinds.items each, whole_less number old.whole new.whole whole);
      places = kept_settled number old new whole each;
    }
