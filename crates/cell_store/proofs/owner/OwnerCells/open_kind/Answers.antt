use Rattle.std.proofs.Common.{◌≡◌, ◌-◌, ◌++◌, ◌∷◌, [], List, length, false, refl, ap, sym, ◌∙◌, subst, arith}
use Rattle.std.specs.Prelude.{vec_len}
use Rattle.cell_store.specs.declared.owner.KindColumn.{KindColumn}
use Rattle.cell_store.specs.Owner.{column_of, column_held, IsPlaceOf, CanSettleColumn}
use Rattle.cell_store.proofs.SettleLaws.{settles_push}
use Rattle.cell_store.specs.Count.{is_counted, one_if, count_kinds, has_place}
use Rattle.std.specs.Prelude.{◌+◌, is_some}
use Rattle.std.specs.Option.{option_map_or}
use Rattle.ranked.specs.declared.find.Scope.TheVariants.{One, Whole}
use Rattle.ranked.specs.declared.find.Scope.{Scope}
use Rattle.cell_store.proofs.CountLaws.{count_push, place_push}
use Rattle.cell_store.proofs.OpenLaws.{opens_none, opens_same}
use Rattle.cell_store.proofs.OwnLaws.{upto_push}
use Rattle.cell_store.proofs.OwnerLaws.{held_push, push_place}
use Rattle.cell_store.proofs.owner.OwnerCells.open_kind.Goals as goal

pub returns-clause-opened : goal.returns-clause-opened
returns-clause-opened c =
    let items = c.push_reserved.ensures.items ∙ ap (λ (l : List KindColumn). l ++ record { kind = c.args.kind; column = c.in_ok-column.column } ∷ []) c.reserve_exact.ensures.items in
    let last : length c.args.self.now.kinds.items ≡ vec_len c.push_reserved.new.self - 1 = omega (arith, c.push_reserved.ensures.len, c.reserve_exact.ensures.len) in (
      omega (arith, c.push_reserved.ensures.len),
      subst (λ n. IsPlaceOf c.push_reserved.new.self.items c.args.kind n) last
          (subst (λ (l : List KindColumn). IsPlaceOf l c.args.kind (length c.args.self.now.kinds.items)) (sym items)
          (push_place c.args.self.now.kinds.items c.args.kind c.in_ok-column.column c.requires.fresh)),
    )

pub returns-clause-opens : goal.returns-clause-opens
returns-clause-opens c = record {
  same = record {
    cells = λ k v. ap (λ (l : List KindColumn). column_held c.args.self.now.whole (column_of l k) v) items
        ∙ held_push c.args.self.now.whole c.args.self.now.kinds.items c.args.kind c.in_ok-column.column c.requires.fresh c.in_ok-column.ensures.cells k v;
    places = record {
      count = ap (λ n. one_if (is_some c.args.self.now.whole) + n) (ap count_kinds items ∙ count_push c.args.self.now.kinds.items own c.in_ok-column.ensures.counted);
      places = split;
    };
    settles = λ n k settles.
        subst (λ (l : List KindColumn). CanSettleColumn n c.args.self.now.whole (column_of l k)) (sym items)
        (settles_push c.args.self.now.whole c.args.self.now.kinds.items c.args.kind c.in_ok-column.column c.requires.fresh n k settles);
  };
  upto = upto_push c.args.top c.args.self.now _ c.args.kind c.in_ok-column.column refl items c.requires.fresh c.in_ok-column.ensures.upto c.in_ok-column.ensures.left c.in_ok-column.ensures.counted c.requires.upto;
}
  where
    own : KindColumn
    own = record { kind = c.args.kind; column = c.in_ok-column.column }

    items : c.push_reserved.new.self.items ≡ c.args.self.now.kinds.items ++ own ∷ []
    items = c.push_reserved.ensures.items ∙ ap (λ (l : List KindColumn). l ++ own ∷ []) c.reserve_exact.ensures.items

    split : (scope : Scope) → has_place (record { alloc = c.args.self.now.alloc; whole = c.args.self.now.whole; kinds = c.push_reserved.new.self }) scope ≡ has_place c.args.self.now scope
    split (One k) =
        ap (λ (l : List KindColumn). option_map_or is_counted (column_of l k) false) items
        ∙ place_push c.args.self.now.whole c.args.self.now.kinds.items c.args.kind c.in_ok-column.column c.requires.fresh c.in_ok-column.ensures.counted k
    split Whole = refl

pub returns-in_err-column-clause-opens : goal.returns-in_err-column-clause-opens
returns-in_err-column-clause-opens c = opens_none c.args.top c.args.self.now c.requires.upto

pub returns-in_err-reserve_exact-clause-opens : goal.returns-in_err-reserve_exact-clause-opens
returns-in_err-reserve_exact-clause-opens c = opens_same c.args.self.now _ refl c.reserve_exact.ensures.items c.args.top c.requires.upto
