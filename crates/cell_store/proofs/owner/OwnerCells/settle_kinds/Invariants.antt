use Rattle.std.proofs.Common.{◌≡◌, ℕ, max, cond, take}
use Rattle.std.specs.Prelude.{◌==◌}
use Rattle.std.specs.List.{list_any}
use Rattle.cell_store.specs.Count.{GainsNothing}
use Rattle.cell_store.specs.Owner.{cell_in}
use Rattle.cell_store.proofs.owner.OwnerCells.settle_kinds.Given as goal

-- the first types are settled so far
abbrev pub invariant-loop-kind : goal.invariant-loop-kind
invariant-loop-kind l = record {
  cells : (k v : ℕ) → cell_in l.self k v ≡ cell_in l.fn.self k (cond (list_any (λ kind. kind == k) (take l.kind-index l.kinds)) (max l.number v) v);
  gains : GainsNothing l.fn.self l.self;
}
