use Rattle.std.proofs.Common.{ℕ, refl, ap, ◌∙◌}
use Rattle.cell_store.specs.declared.owner.OwnerCells.{OwnerCells}
use Rattle.cell_store.specs.Owner.{CanSettle}
use Rattle.cell_store.proofs.OpenLaws.{opens_none}
use Rattle.cell_store.proofs.SettleLaws.{all_more}
use Rattle.cell_store.proofs.owner.OwnerCells.open_each.Goals as goal

pub loop-kind-init : goal.loop-kind-init
loop-kind-init c = record { same = (opens_none c.args.top c.args.self.now c.requires.upto).same; upto = c.requires.upto; opened = tt; still = λ none. refl }

pub loop-kind-preserved : goal.loop-kind-preserved
loop-kind-preserved c =
    let was = c.loop-kind.invariant in
    let now = c.open.ensures.opens in
    record {
      same = record {
        cells = λ k v. now.same.cells k v ∙ was.same.cells k v;
        places = record { count = now.same.places.count ∙ was.same.places.count; places = λ scope. now.same.places.places scope ∙ was.same.places.places scope };
        settles = λ n k settles. now.same.settles n k (was.same.settles n k settles);
      };
      upto = now.upto;
      opened = all_more (λ kind. (n : ℕ) → CanSettle n kind c.loop-kind.self) (λ kind. (n : ℕ) → CanSettle n kind c.open.new.self) c.args.kinds.now c.loop-kind.kind-index 0 c.loop-kind-test.true
          (λ kind settles n. now.same.settles n kind (settles n)) was.opened c.in_ok-open.ensures.opened;
      still = λ none. c.open.ensures.still (ap (λ (cells : OwnerCells). cells.whole) (was.still none) ∙ none) ∙ was.still none;
    }
