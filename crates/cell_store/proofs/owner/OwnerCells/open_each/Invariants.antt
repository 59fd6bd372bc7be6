use Rattle.std.proofs.Common.{◌≡◌, ℕ, None, take}
use Rattle.std.specs.List.{AllByRecursion}
use Rattle.cell_store.specs.Count.{HasSameContent}
use Rattle.cell_store.specs.Owner.{CanSettle, IsUpTo}
use Rattle.cell_store.proofs.owner.OwnerCells.open_each.Given as goal

-- the first types have a column so far, and what is held stays
abbrev pub invariant-loop-kind : goal.invariant-loop-kind
invariant-loop-kind l = record {
  same : HasSameContent l.fn.self l.self;
  upto : IsUpTo l.top l.self;
  opened : AllByRecursion (λ kind. (n : ℕ) → CanSettle n kind l.self) (take l.kind-index l.kinds);
  still : l.fn.self.whole ≡ None → l.self ≡ l.fn.self;
}
