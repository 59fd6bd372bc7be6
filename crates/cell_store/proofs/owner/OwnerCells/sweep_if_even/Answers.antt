use Rattle.std.proofs.Common.{◌≡◌, ◌≤◌, None, [], List, Option, false, true, refl, ap, subst, sym, ◌∙◌, arith, inl}
use Rattle.std.specs.Prelude.{not}
use Rattle.std.specs.Option.{option_map_or}
use Rattle.ranked.specs.declared.find.Find.{Find}
use Rattle.cell_store.specs.declared.version.Place.{Place}
use Rattle.cell_store.specs.declared.owner.KindColumn.{KindColumn}
use Rattle.cell_store.specs.Column.{Cells}
use Rattle.cell_store.specs.Mixed.{is_mixed}
use Rattle.cell_store.specs.Owner.{column_of, IsPlaceOf}
use Rattle.cell_store.proofs.OwnerLaws.{all_at}
use Rattle.cell_store.proofs.CountLaws.{count_lost}
use Rattle.cell_store.proofs.OwnLaws.{own_swept}
use Rattle.cell_store.proofs.PlaceLaws.{kept_put, less_put, loses_none, lost_from, mixed_here}
use Rattle.cell_store.proofs.SettleLaws.{settles_put, left_put}
use Rattle.cell_store.proofs.SweepLaws.{left_of}
use Rattle.cell_store.proofs.OwnerSweepLaws.{swept_even_cell, swept_kind_others, swept_kind_even, swept_kind_first, swept_kind_none, same_kinds}
use Rattle.cell_store.proofs.owner.OwnerCells.sweep_if_even.Goals as goal

pub returns-then-is_mixed-clause-same : goal.returns-then-is_mixed-clause-same
returns-then-is_mixed-clause-same c = λ uneven.
    let self = c.args.self.now in
    let is = subst (λ (l : List KindColumn). IsPlaceOf l c.args.kind c.in-Some.place) c.deref.ensures.value c.in-Some.ensures.some in (
      refl,
      mixed_here self.kinds.items c.args.kind c.in-Some.place c.index.result.now true is c.index.ensures (sym c.is_mixed.ensures.value ∙ c.if-is_mixed.true),
    )

pub returns-then-is_mixed-clause-even : goal.returns-then-is_mixed-clause-even
returns-then-is_mixed-clause-even c =
    let self = c.args.self.now in
    let is = subst (λ (l : List KindColumn). IsPlaceOf l c.args.kind c.in-Some.place) c.deref.ensures.value c.in-Some.ensures.some in
    ap not (sym (mixed_here self.kinds.items c.args.kind c.in-Some.place c.index.result.now true is c.index.ensures (sym c.is_mixed.ensures.value ∙ c.if-is_mixed.true)))

pub returns-then-is_mixed-clause-lost : goal.returns-then-is_mixed-clause-lost
returns-then-is_mixed-clause-lost c = loses_none c.args.kind c.args.self.now

pub returns-else-is_mixed-clause-even : goal.returns-else-is_mixed-clause-even
returns-else-is_mixed-clause-even c =
    let self = c.args.self.now in
    let is = subst (λ (l : List KindColumn). IsPlaceOf l c.args.kind c.in-Some.place) c.deref.ensures.value c.in-Some.ensures.some in
    ap not (sym (mixed_here self.kinds.items c.args.kind c.in-Some.place c.index.result.now false is c.index.ensures (sym c.is_mixed.ensures.value ∙ c.if-is_mixed.false)))

pub returns-else-is_mixed-clause-swept : goal.returns-else-is_mixed-clause-swept
returns-else-is_mixed-clause-swept c = λ even.
    let self = c.args.self.now in
    let is = subst (λ (l : List KindColumn). IsPlaceOf l c.args.kind c.in-Some.place) c.deref.ensures.value c.in-Some.ensures.some in
    swept_kind_even self.whole self.kinds.items c.args.kind c.in-Some.place c.index_mut.result.now c.sweep_even.new.self [] c.args.moment is c.index_mut.ensures.value (λ v asked. c.sweep_even.ensures.places v) (c.sweep_even.ensures.places, c.sweep_even.ensures.upto)

pub returns-in-None-clause-even : goal.returns-in-None-clause-even
returns-in-None-clause-even c =
    let none = subst (λ (l : List KindColumn). column_of l c.args.kind ≡ None) c.deref.ensures.value c.in-None.ensures.none in
    ap (λ (o : Option Cells). not (option_map_or is_mixed o false)) (sym none)

pub returns-in-None-clause-swept : goal.returns-in-None-clause-swept
returns-in-None-clause-swept c = λ even.
    let none = subst (λ (l : List KindColumn). column_of l c.args.kind ≡ None) c.deref.ensures.value c.in-None.ensures.none in
    swept_kind_none c.args.moment _ none

pub returns-in-None-clause-lost : goal.returns-in-None-clause-lost
returns-in-None-clause-lost c = loses_none c.args.kind c.args.self.now

pub returns-else-is_mixed-clause-cells : goal.returns-else-is_mixed-clause-cells
returns-else-is_mixed-clause-cells c =
    let self = c.args.self.now in
    let is = subst (λ (l : List KindColumn). IsPlaceOf l c.args.kind c.in-Some.place) c.deref.ensures.value c.in-Some.ensures.some in
    swept_even_cell self.whole self.kinds.items c.args.kind c.in-Some.place c.index_mut.result.now c.sweep_even.new.self c.args.moment is c.index_mut.ensures.value c.sweep_even.ensures.places

pub returns-else-is_mixed-clause-seen : goal.returns-else-is_mixed-clause-seen
returns-else-is_mixed-clause-seen c = λ even.
    let self = c.args.self.now in
    let is = subst (λ (l : List KindColumn). IsPlaceOf l c.args.kind c.in-Some.place) c.deref.ensures.value c.in-Some.ensures.some in
    swept_kind_first self.whole self.kinds.items c.args.kind c.in-Some.place c.index_mut.result.now c.sweep_even.new.self [] c.args.moment is c.index_mut.ensures.value (λ v asked. c.sweep_even.ensures.places v) c.sweep_even.ensures.seen

pub returns-else-is_mixed-clause-lost : goal.returns-else-is_mixed-clause-lost
returns-else-is_mixed-clause-lost c =
    let self = c.args.self.now in
    let lent = c.index_mut.result.now in
    let new = c.sweep_even.new.self in
    let there = c.index_mut.ensures.value in
    let is = subst (λ (l : List KindColumn). IsPlaceOf l c.args.kind c.in-Some.place) c.deref.ensures.value c.in-Some.ensures.some in
    record {
      others = swept_kind_others self.whole self.kinds.items c.args.kind c.in-Some.place lent new [] c.args.moment is there (λ v asked. c.sweep_even.ensures.places v);
      kinds = same_kinds self.kinds.items c.in-Some.place lent new is.low there;
      whole = refl;
      lost = lost_from self _
          (λ top upto.
          let low = subst (λ (own : KindColumn). own.column.upto ≤ top) (sym there) (all_at (λ own. own.column.upto ≤ top) self.kinds.items c.in-Some.place lent upto.kinds is.low) in
          left_put top self _ c.args.kind c.in-Some.place lent new refl refl is.low there (omega (arith, c.sweep_even.ensures.upto, low))
          (λ v left. left_of c.args.moment _ (ap (λ (p : Place Find). p.left) (sym (c.sweep_even.ensures.places v)) ∙ left))
          (own_swept lent.kind c.args.moment lent.column new (λ v. inl (c.sweep_even.ensures.places v))) upto)
          (λ n k settles. settles_put self.whole self.kinds.items c.args.kind c.in-Some.place lent new is there n k settles)
          (omega (arith, count_lost self.kinds.items c.in-Some.place lent new is.low there c.sweep_even.ensures.counted))
          (kept_put self.whole self.kinds.items _ c.args.kind c.in-Some.place lent new refl is there c.sweep_even.ensures.counted) (λ has. has)
          (less_put self.whole self.kinds.items _ c.args.kind c.in-Some.place lent new refl is there c.args.moment (λ v. inl (c.sweep_even.ensures.places v)));
    }
