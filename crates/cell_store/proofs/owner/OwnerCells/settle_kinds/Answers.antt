use Rattle.std.proofs.Common.{max, cond, take, get_or, sym, ap, ◌∙◌, arith}
use Rattle.std.specs.Prelude.{◌==◌}
use Rattle.std.specs.List.{list_any}
use Rattle.cell_store.specs.Owner.{cell_in, CanSettle}
use Rattle.cell_store.proofs.SettleLaws.{settled_twice, any_more, all_read}
use Rattle.cell_store.proofs.owner.OwnerCells.settle_kinds.Goals as goal

pub settle_kind-requires : goal.settle_kind-requires
settle_kind-requires c = record {
  settles = c.loop-kind.invariant.gains.settles c.args.number (get_or c.args.kinds.now c.loop-kind.kind-index 0)
      (all_read (λ kind. CanSettle c.args.number kind c.args.self.now) c.args.kinds.now c.loop-kind.kind-index 0 c.requires.settles c.loop-kind-test.true);
}

pub loop-kind-preserved : goal.loop-kind-preserved
loop-kind-preserved c =
    let kinds = c.args.kinds.now in
    let i = c.loop-kind.kind-index in
    let n = c.args.number in
    let was = c.loop-kind.invariant.gains in
    let now = c.settle_kind.ensures.gains in
    record {
      cells = λ k v. c.settle_kind.ensures.cells k v ∙ (c.loop-kind.invariant.cells k (cond (get_or kinds i 0 == k) (max n v) v)
          ∙ ap (cell_in c.args.self.now k) (settled_twice (list_any (λ kind. kind == k) (take i kinds)) (get_or kinds i 0 == k) n v ∙ ap (λ b. cond b (max n v) v) (sym (any_more (λ kind. kind == k) kinds i 0 c.loop-kind-test.true))));
      gains = record {
        upto = λ top is. now.upto top (was.upto top is);
        settles = λ m k settles. now.settles m k (was.settles m k settles);
        count = omega (arith, now.count, was.count);
        places = λ scope has. was.places scope (now.places scope has);
      };
    }
