use Rattle.std.proofs.Common.{◌≡◌, ◌≤◌, Option, true, false, length, refl, ap, sym, ◌∙◌, subst, arith}
use Rattle.std.specs.Prelude.{◌==◌}
use Rattle.ranked.specs.declared.find.Find.{Find}
use Rattle.ranked.specs.Find.{admission_of}
use Rattle.ranked.specs.Cell.{turns_away}
use Rattle.cell_store.specs.declared.owner.KindColumn.{KindColumn}
use Rattle.cell_store.specs.declared.owner.WholeFind.{WholeFind}
use Rattle.cell_store.specs.Owner.{whole_cell}
use Rattle.cell_store.proofs.SettleLaws.{settles_put}
use Rattle.cell_store.specs.Count.{has_place, one_if}
use Rattle.std.specs.Prelude.{is_some, not}
use Rattle.ranked.specs.declared.find.Scope.TheVariants.{One, Whole}
use Rattle.cell_store.proofs.CountLaws.{count_admitted}
use Rattle.cell_store.proofs.EmptyLaws.{held_tidy, hold_counts}
use Rattle.cell_store.proofs.OwnLaws.{own_admitted, upto_put}
use Rattle.cell_store.proofs.PlaceLaws.{added_none, added_put, by_scope}
use Rattle.cell_store.proofs.OwnerLaws.{admitted_cell, all_at, either_cell, outranked_low}
use Rattle.cell_store.proofs.owner.OwnerCells.admit_kind.Goals as goal

pub hold-requires : goal.hold-requires
hold-requires c =
    record {
      upto = subst (λ (own : KindColumn). own.column.upto ≤ c.args.top) (sym c.index_mut.ensures.value)
          (all_at (λ own. own.column.upto ≤ c.args.top) c.place_for.new.self.kinds.items c.in_ok-place.place c.index_mut.result.now c.place_for.ensures.opens.upto.kinds c.in_ok-place.ensures.place.low);
      lower = λ out. outranked_low c.place_for.new.self.whole c.args.find c.args.moment
          (sym (c.turns_away-outranked.ensures ∙ ap (λ (f : Find). turns_away (whole_cell c.place_for.new.self.whole) (admission_of f f c.args.moment)) c.find-2.ensures) ∙ out);
    }

pub returns-clause-cells : goal.returns-clause-cells
returns-clause-cells c = λ k v low.
    admitted_cell c.place_for.new.self.whole c.place_for.new.self.kinds.items _ c.args.kind c.in_ok-place.place c.index_mut.result.now c.hold.new.self (admission_of c.args.find c.args.find c.args.moment) c.args.top c.turns_away-outranked.result
    c.in_ok-place.ensures.place c.index_mut.ensures.value refl
    (c.turns_away-outranked.ensures ∙ ap (λ (f : Find). turns_away (whole_cell c.place_for.new.self.whole) (admission_of f f c.args.moment)) c.find-2.ensures) c.hold.ensures.places k v low
    ∙ either_cell (c.args.kind == k) (admission_of c.args.find c.args.find c.args.moment) (c.place_for.ensures.opens.same.cells k v)

pub returns-clause-settles : goal.returns-clause-settles
returns-clause-settles c = λ n k settles.
    settles_put c.place_for.new.self.whole c.place_for.new.self.kinds.items c.args.kind c.in_ok-place.place c.index_mut.result.now c.hold.new.self c.in_ok-place.ensures.place c.index_mut.ensures.value n k (c.place_for.ensures.opens.same.settles n k settles)

pub returns-clause-adds : goal.returns-clause-adds
returns-clause-adds c =
    let mid = c.place_for.new.self in
    let old = c.args.self.now in
    let same = c.place_for.ensures.opens.same.places in
    let more = count_admitted c.place_for.new.self.kinds.items c.args.kind c.in_ok-place.place c.index_mut.result.now c.hold.new.self c.in_ok-place.ensures.place c.index_mut.ensures.value in
    let had = ap (λ b. one_if (not b)) (c.place_for.ensures.opens.same.places.places (One c.args.kind)) in
    let all : has_place mid Whole ≡ true → has_place c.args.self.now Whole ≡ true = λ has. sym (c.place_for.ensures.opens.same.places.places Whole) ∙ has in
    record {
      count = omega (arith, more, had, c.place_for.ensures.opens.same.places.count);
      places = by_scope _
          (added_put mid.whole mid.kinds.items _ c.args.kind c.in_ok-place.place c.index_mut.result.now c.hold.new.self refl c.in_ok-place.ensures.place c.index_mut.ensures.value
          (λ k. has_place c.args.self.now (One k)) (λ k. same.places (One k)))
          all;
      tidy = λ tidy none.
          let was = tidy (sym c.place_for.ensures.whole ∙ none) in
          let away : c.turns_away-outranked.result ≡ false =
          c.turns_away-outranked.ensures ∙ ap (λ (w : Option WholeFind). turns_away (whole_cell w) (admission_of c.find-2.result.now c.find-2.result.now c.args.moment)) none in
          let counts = hold_counts c.index_mut.result.now.column c.hold.new.self (admission_of c.args.find c.args.find c.args.moment) c.turns_away-outranked.result away (c.hold.ensures.places 0 (omega arith)) in
          let few = held_tidy mid.kinds.items c.args.kind c.in_ok-place.place (length old.kinds.items) c.index_mut.result.now c.hold.new.self (has_place old (One c.args.kind)) c.in_ok-place.ensures.place c.index_mut.ensures.value counts
          (c.place_for.ensures.opens.same.places.places (One c.args.kind)) (omega (arith, c.place_for.ensures.size)) (omega (arith, was, c.place_for.ensures.opens.same.places.count, ap (λ (w : Option WholeFind). one_if (is_some w)) none)) in
          omega (arith, few);
    }

pub returns-clause-upto : goal.returns-clause-upto
returns-clause-upto c =
    let place = c.in_ok-place.ensures.place in
    let lent = c.index_mut.result.now in
    let kind : lent.kind ≡ c.args.kind = ap (λ (own : KindColumn). own.kind) c.index_mut.ensures.value ∙ place.here lent in
    upto_put c.args.top c.place_for.new.self _ c.in_ok-place.place lent c.hold.new.self refl refl place.low c.index_mut.ensures.value (omega (arith, c.hold.ensures.upto))
    (λ was v here. was v (c.hold.ensures.left v here))
    (own_admitted lent.kind c.args.top lent.column c.hold.new.self (admission_of c.args.find c.args.find c.args.moment) c.turns_away-outranked.result (c.requires.scope ∙ ap (λ n. One n) (sym kind)) c.hold.ensures.places c.hold.ensures.upto)
    c.place_for.ensures.opens.upto

pub returns-in_err-place-clause-adds : goal.returns-in_err-place-clause-adds
returns-in_err-place-clause-adds c = record {
  count = omega (arith, c.place_for.ensures.opens.same.places.count);
  places = added_none (One c.args.kind) c.args.self.now c.place_for.new.self c.place_for.ensures.opens.same.places.places;
  tidy = λ tidy none.
      let was = tidy (sym c.place_for.ensures.whole ∙ none) in
      omega (arith, was, c.in_err-place.ensures.err, c.place_for.ensures.opens.same.places.count);
}
