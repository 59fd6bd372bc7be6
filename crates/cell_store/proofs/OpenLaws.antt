-- Columns that come to a name and change no cell.
use Rattle.std.proofs.Common.{◌≡◌, ◌≤◌, ℕ, Option, false, List, map, refl, sym, ap, ◌∙◌, subst}
use Rattle.std.specs.Prelude.{◌+◌, nat_eq, is_some, IfSome}
use Rattle.std.specs.List.{AllByRecursion, IsDistinct}
use Rattle.std.specs.Option.{option_map_or}
use Rattle.ranked.specs.declared.find.Scope.{Scope}
use Rattle.ranked.specs.declared.find.Scope.TheVariants.{One, Whole}
use Rattle.cell_store.specs.declared.owner.KindColumn.{KindColumn}
use Rattle.cell_store.specs.declared.owner.WholeFind.{WholeFind}
use Rattle.cell_store.specs.declared.owner.OwnerCells.{OwnerCells}
use Rattle.cell_store.specs.Owner.{column_of, column_held, CanSettleColumn, IsLeftWithin, IsOwn, IsUpTo, IsWholeUpTo}
use Rattle.cell_store.specs.Count.{count_kinds, count_of, has_place, is_counted, one_if, HasSameContent, OpensColumns}

module _ (old new : OwnerCells) (whole : new.whole ≡ old.whole) (kinds : new.kinds.items ≡ old.kinds.items) where
  same_count : count_of new ≡ count_of old
  same_count =
      ap (λ (w : Option WholeFind). one_if (is_some w) + count_kinds new.kinds.items) whole ∙ ap (λ (l : List KindColumn). one_if (is_some old.whole) + count_kinds l) kinds

  same_places : (scope : Scope) → has_place new scope ≡ has_place old scope
  same_places (One kind) = ap (λ (l : List KindColumn). option_map_or is_counted (column_of l kind) false) kinds
  same_places Whole = ap (λ (w : Option WholeFind). is_some w) whole

  -- A name with the same columns and the same find of the whole name has the same content.
  pub same_content : HasSameContent old new
  same_content = record {
    cells = λ k v.
        ap (λ (w : Option WholeFind). column_held w (column_of new.kinds.items k) v) whole ∙ ap (λ (l : List KindColumn). column_held old.whole (column_of l k) v) kinds;
    places = record { count = same_count; places = same_places };
    settles = λ n k is.
        subst (λ (l : List KindColumn). CanSettleColumn n new.whole (column_of l k)) (sym kinds) (subst (λ (w : Option WholeFind). CanSettleColumn n w (column_of old.kinds.items k)) (sym whole) is);
  }

  same_upto : (top : ℕ) → IsUpTo top old → IsUpTo top new
  same_upto top is = record {
    whole = subst (λ (w : Option WholeFind). IsWholeUpTo top w) (sym whole) is.whole;
    kinds = subst (λ (l : List KindColumn). AllByRecursion (λ own. own.column.upto ≤ top) l) (sym kinds) is.kinds;
    left = subst (λ (l : List KindColumn). AllByRecursion (λ own. IsLeftWithin new.whole own.column) l) (sym kinds)
        (subst (λ (w : Option WholeFind). AllByRecursion (λ own. IsLeftWithin w own.column) old.kinds.items) (sym whole) is.left);
    once = subst (λ (l : List KindColumn). IsDistinct nat_eq (map (λ own. own.kind) l)) (sym kinds) is.once;
    wide = subst (λ (w : Option WholeFind). IfSome w (λ find. find.find.scope ≡ Whole)) (sym whole) is.wide;
    own = subst (λ (l : List KindColumn). AllByRecursion (λ own. IsOwn own.kind own.column) l) (sym kinds) is.own;
  }

  -- And it has opened none.
  pub opens_same : (top : ℕ) → IsUpTo top old → OpensColumns top old new
  opens_same top is = record { same = same_content; upto = same_upto top is }

-- A name as it was has opened no column.
pub opens_none : (top : ℕ) (cells : OwnerCells) → IsUpTo top cells → OpensColumns top cells cells
opens_none top cells is = opens_same cells cells refl refl top is
