use Rattle.std.proofs.Common.{List, subst, sym, ap, ◌∙◌, arith}
use Rattle.cell_store.specs.declared.owner.KindColumn.{KindColumn}
use Rattle.cell_store.specs.Owner.{column_of, column_held, CanSettleColumn}
use Rattle.cell_store.specs.Count.{count_kinds}
use Rattle.cell_store.specs.Sweep.{alive_at}
use Rattle.cell_store.proofs.OwnerSweepLaws.{swept_whole_cell, swept_whole_upto, swept_whole_settles, swept_whole_count}
use Rattle.cell_store.proofs.PlaceLaws.{kept_swept, less_swept}
use Rattle.cell_store.proofs.owner.OwnerCells.sweep_whole.Goals as goal

pub returns-clause-cells : goal.returns-clause-cells
returns-clause-cells c = λ k v.
    ap (λ (l : List KindColumn). alive_at c.args.moment (column_held c.drop_dead.new.self.whole (column_of l k) v)) c.drop_dead.ensures.kinds
    ∙ swept_whole_cell c.args.moment c.args.self.now.whole c.drop_dead.new.self.whole c.args.self.now.kinds.items k v c.drop_dead.ensures.whole

pub returns-clause-lost : goal.returns-clause-lost
returns-clause-lost c =
    let moment = c.args.moment in
    let old = c.args.self.now in
    let new = c.drop_dead.new.self in
    let whole = c.drop_dead.ensures.whole in
    let kinds = c.drop_dead.ensures.kinds in
    record {
      gains = record {
        upto = λ top is. swept_whole_upto moment top old new whole kinds is;
        settles = λ n k settles.
            subst (λ (l : List KindColumn). CanSettleColumn n new.whole (column_of l k)) (sym kinds)
            (swept_whole_settles moment n old.whole new.whole (column_of old.kinds.items k) whole settles);
        count = omega (arith, swept_whole_count moment old.whole new.whole whole, ap count_kinds kinds);
        places = kept_swept moment old new whole kinds;
      };
      cells = less_swept moment old new whole kinds;
    }
