use Rattle.std.proofs.Common.{◌≤◌, List, refl, subst, sym, arith}
use Rattle.cell_store.specs.declared.owner.KindColumn.{KindColumn}
use Rattle.cell_store.specs.Owner.{IsPlaceOf}
use Rattle.cell_store.proofs.OwnerLaws.{all_at}
use Rattle.cell_store.proofs.CountLaws.{count_lost}
use Rattle.cell_store.proofs.OwnLaws.{own_swept}
use Rattle.cell_store.proofs.PlaceLaws.{kept_put, less_put, loses_none, lost_from}
use Rattle.cell_store.proofs.SettleLaws.{settles_put, left_put}
use Rattle.cell_store.proofs.OwnerSweepLaws.{swept_kind_cell, swept_kind_others, swept_kind_seen, same_kinds}
use Rattle.cell_store.proofs.owner.OwnerCells.sweep_kind.Goals as goal

pub returns-in-Some-clause-cells : goal.returns-in-Some-clause-cells
returns-in-Some-clause-cells c =
    let self = c.args.self.now in
    let is = subst (λ (l : List KindColumn). IsPlaceOf l c.args.kind c.in-Some.place) c.deref.ensures.value c.in-Some.ensures.some in
    swept_kind_cell self.whole self.kinds.items c.args.kind c.in-Some.place c.index_mut.result.now c.sweep.new.self c.args.numbers.now c.args.moment is c.index_mut.ensures.value c.sweep.ensures.places

pub returns-in-Some-clause-seen : goal.returns-in-Some-clause-seen
returns-in-Some-clause-seen c =
    let self = c.args.self.now in
    let is = subst (λ (l : List KindColumn). IsPlaceOf l c.args.kind c.in-Some.place) c.deref.ensures.value c.in-Some.ensures.some in
    swept_kind_seen self.whole self.kinds.items c.args.kind c.in-Some.place c.index_mut.result.now c.sweep.new.self c.args.numbers.now c.args.moment is c.index_mut.ensures.value c.sweep.ensures.places c.sweep.ensures.seen

pub returns-in-Some-clause-lost : goal.returns-in-Some-clause-lost
returns-in-Some-clause-lost c =
    let self = c.args.self.now in
    let lent = c.index_mut.result.now in
    let new = c.sweep.new.self in
    let there = c.index_mut.ensures.value in
    let is = subst (λ (l : List KindColumn). IsPlaceOf l c.args.kind c.in-Some.place) c.deref.ensures.value c.in-Some.ensures.some in
    record {
      others = swept_kind_others self.whole self.kinds.items c.args.kind c.in-Some.place lent new c.args.numbers.now c.args.moment is there c.sweep.ensures.places;
      kinds = same_kinds self.kinds.items c.in-Some.place lent new is.low there;
      whole = refl;
      lost = lost_from self _
          (λ top upto.
          let low = subst (λ (own : KindColumn). own.column.upto ≤ top) (sym there) (all_at (λ own. own.column.upto ≤ top) self.kinds.items c.in-Some.place lent upto.kinds is.low) in
          left_put top self _ c.args.kind c.in-Some.place lent new refl refl is.low there (omega (arith, c.sweep.ensures.upto, low)) c.sweep.ensures.left
          (own_swept lent.kind c.args.moment lent.column new c.sweep.ensures.less) upto)
          (λ n k settles. settles_put self.whole self.kinds.items c.args.kind c.in-Some.place lent new is there n k settles)
          (omega (arith, count_lost self.kinds.items c.in-Some.place lent new is.low there c.sweep.ensures.counted))
          (kept_put self.whole self.kinds.items _ c.args.kind c.in-Some.place lent new refl is there c.sweep.ensures.counted) (λ has. has)
          (less_put self.whole self.kinds.items _ c.args.kind c.in-Some.place lent new refl is there c.args.moment c.sweep.ensures.less);
    }

pub returns-in_default-clause-lost : goal.returns-in_default-clause-lost
returns-in_default-clause-lost c = loses_none c.args.kind c.args.self.now
