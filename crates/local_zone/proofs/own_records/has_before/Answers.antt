use Rattle.std.proofs.Common.{true, false, sym, ◌∙◌}
use Rattle.local_zone.proofs.OtherSetLaws.{has_before}
use Rattle.local_zone.proofs.own_records.has_before.Goals as goal

pub returns-then-is_new_of : goal.returns-then-is_new_of
returns-then-is_new_of c records goes is =
    has_before c.args.owner.now c.args.added.now records goes c.args.count is true (sym c.if-is_new_of.true ∙ c.is_new_of.ensures)

pub returns : goal.returns
returns c records goes is =
    has_before c.args.owner.now c.args.added.now records goes c.args.count is false (sym c.if-is_new_of.false ∙ c.is_new_of.ensures)
