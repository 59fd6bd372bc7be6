use Rattle.std.proofs.Common.{◌≡◌, ◌≤◌, true, None, List, [], length, refl, sym, ap, subst, arith}
use Rattle.std.specs.Prelude.{IfSome}
use Rattle.std.specs.List.{AllByRecursion}
use Rattle.std.specs.Map.{lookup}
use Rattle.dns_name.specs.Labels.{Labels}
use Rattle.dns_name.specs.Order.{name_eq}
use Rattle.ranked.specs.Find.{touches}
use Rattle.cell_store.specs.declared.owner.OwnerCells.{OwnerCells}
use Rattle.cell_store.specs.Count.{count_entries}
use Rattle.cell_store.specs.Owner.{IsUpTo}
use Rattle.cell_store.specs.Store.{cell_by_owner, EachCounts}
use Rattle.shelf.specs.declared.shelf.KeptFlush.{KeptFlush}
use Rattle.shelf.specs.Clean.{AreEnds}
use Rattle.shelf.specs.Told.{CanSettleFlush, IsAscending}
use Rattle.shelf.specs.declared.settling.Settling.{Settling}
use Rattle.shelf.specs.Settling.{settled_version, AreUseful, IsSettling}
use Rattle.shelf.proofs.shelf.Shelf.seeded.Goals as goal

pub returns-clause-empty : goal.returns-clause-empty
returns-clause-empty c =
    let owners = c.no_names.result in
    let kept = c.new.result.items in
    let empty : c.no_names.result.entries ≡ [] = c.no_names.ensures.empty in
    let none : c.new.result.items ≡ [] = c.new.ensures.items in
    record {
      cells = λ q v there.
          subst (λ (l : List (Labels × OwnerCells)). cell_by_owner (lookup (name_eq q.owner) l) q.kind (settled_version c.new-3.result.items q.owner v) ≡ None) (sym empty) refl;
      whole = record {
        upto = λ name. subst (λ (l : List (Labels × OwnerCells)). IfSome (lookup (name_eq name) l) (IsUpTo 0)) (sym empty) tt;
        about = λ q v. subst (λ (l : List (Labels × OwnerCells)). IfSome (cell_by_owner (lookup (name_eq q.owner) l) q.kind v) (λ held. touches held.body q ≡ true)) (sym empty) tt;
        numbers = subst (λ (l : List KeptFlush). AllByRecursion (λ own. own.number ≤ 0) l) (sym none) tt;
        ascending = subst (λ (l : List KeptFlush). IsAscending l) (sym none) tt;
        settles = subst (λ (l : List KeptFlush). AllByRecursion (λ own. CanSettleFlush owners own.number own.flush) l) (sym none) tt;
        counted = sym (ap count_entries empty);
        few = omega arith;
        small = c.requires;
        room = omega (arith, ap length none);
        ends = subst (λ (l : List (Labels × OwnerCells)). AreEnds kept l c.no_ends.result) (sym empty) (c.no_ends.ensures.ends kept);
        settling = subst (λ (l : List Settling). AllByRecursion (IsSettling 0 owners) l) (sym c.new-3.ensures.items) tt;
        space = omega (arith, ap length none, ap length c.new-3.ensures.items);
        named = subst (λ (l : List (Labels × OwnerCells)). EachCounts l) (sym empty) (λ i. tt);
        useful = subst (λ (l : List Settling). AreUseful l) (sym c.new-3.ensures.items) tt;
        doubt = omega (arith, c.no_ends.ensures.left);
      };
      kept = none;
      top = refl;
      stored = refl;
      limit = refl;
    }
