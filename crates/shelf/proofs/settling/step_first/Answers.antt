use Rattle.std.proofs.Common.{length, ap, ◌∙◌, arith}
use Rattle.std.proofs.Math.ListN.{set}
use Rattle.shelf.proofs.SettlingLaws.{is_none, is_some}
use Rattle.shelf.proofs.LeftLaws.{first_gone, first_put, no_first}
use Rattle.shelf.proofs.settling.step_first.Goals as goal

pub returns-then-is_empty-clause-items : goal.returns-then-is_empty-clause-items
returns-then-is_empty-clause-items c = no_first c.args.left c.args.settlings.now.items (is_none _ (length c.args.settlings.now.items) c.is_empty.result c.is_empty.ensures (omega arith) c.if-is_empty.true)

pub returns-then-left-eq0-clause-items : goal.returns-then-left-eq0-clause-items
returns-then-left-eq0-clause-items c = c.remove.ensures.items ∙ first_gone c.args.left c.args.settlings.now.items (omega arith) (omega arith)

pub returns-clause-items : goal.returns-clause-items
returns-clause-items c =
    ap (set c.args.settlings.now.items 0) c.set_left.ensures
    ∙ first_put c.args.left c.args.settlings.now.items c.index_mut.result.now (is_some _ (length c.args.settlings.now.items) c.is_empty.result c.is_empty.ensures (omega arith) c.if-is_empty.false) c.index_mut.ensures.value (omega (arith, c.if-left-eq0.false))
