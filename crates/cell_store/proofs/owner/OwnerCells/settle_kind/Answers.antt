use Rattle.std.proofs.Common.{◌≡◌, ◌≤◌, true, refl, subst, sym, List, arith}
use Rattle.std.specs.Prelude.{is_some}
use Rattle.cell_store.proofs.CountLaws.{count_lost}
use Rattle.cell_store.specs.declared.owner.KindColumn.{KindColumn}
use Rattle.cell_store.specs.Owner.{IsPlaceOf}
use Rattle.cell_store.proofs.OwnerLaws.{all_at, settled_cell}
use Rattle.cell_store.proofs.OwnLaws.{own_settled, upto_put}
use Rattle.cell_store.proofs.PlaceLaws.{by_scope, gains_none, kept_put}
use Rattle.cell_store.proofs.SettleLaws.{left_settled, settles_put}
use Rattle.cell_store.proofs.owner.OwnerCells.settle_kind.Goals as goal

pub returns-in-Some-clause-cells : goal.returns-in-Some-clause-cells
returns-in-Some-clause-cells c = λ k v.
    let self = c.args.self.now in
    settled_cell self.whole self.kinds.items c.deref.result.now _ c.args.kind c.in-Some.place c.index_mut.result.now c.settle.new.self c.args.number c.in-Some.ensures.some c.deref.ensures.value c.index_mut.ensures.value refl c.settle.ensures.places k v

pub returns-in-Some-clause-gains : goal.returns-in-Some-clause-gains
returns-in-Some-clause-gains c =
    let self = c.args.self.now in
    let lent = c.index_mut.result.now in
    let new = c.settle.new.self in
    let there = c.index_mut.ensures.value in
    let is = subst (λ (l : List KindColumn). IsPlaceOf l c.args.kind c.in-Some.place) c.deref.ensures.value c.in-Some.ensures.some in
    let all : is_some self.whole ≡ true → is_some self.whole ≡ true = λ has. has in
    record {
      upto = λ top upto.
          let low = subst (λ (own : KindColumn). own.column.upto ≤ top) (sym there) (all_at (λ own. own.column.upto ≤ top) self.kinds.items c.in-Some.place lent upto.kinds is.low) in
          upto_put top self _ c.in-Some.place lent new refl refl is.low there (omega (arith, c.settle.ensures.upto, low))
          (left_settled self.whole c.args.number lent.column new c.settle.ensures.places) (own_settled lent.kind c.args.number lent.column new c.settle.ensures.places) upto;
      settles = λ n k settles. settles_put self.whole self.kinds.items c.args.kind c.in-Some.place lent new is there n k settles;
      count = omega (arith, count_lost self.kinds.items c.in-Some.place lent new is.low there c.settle.ensures.counted);
      places = by_scope _ (kept_put self.whole self.kinds.items _ c.args.kind c.in-Some.place lent new refl is there c.settle.ensures.counted) all;
    }

pub returns-in_default-clause-gains : goal.returns-in_default-clause-gains
returns-in_default-clause-gains c = gains_none c.args.self.now
