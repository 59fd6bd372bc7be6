use Rattle.std.proofs.Common.{sym, ◌∙◌}
use Rattle.local_zone.proofs.OtherSetLaws.{back_none, back_some, no_items, some_items}
use Rattle.local_zone.proofs.own_records.set_back.Goals as goal

pub returns-then-is_empty : goal.returns-then-is_empty
returns-then-is_empty c records apart is =
    c.same.ensures
    ∙ c.set_of.ensures
    ∙ back_none c.args.owner.now c.args.kind c.args.removed.now records apart (sym is ∙ no_items c.args.own.now (sym c.is_empty.ensures ∙ c.if-is_empty.true))

pub returns : goal.returns
returns c records apart is =
    c.same-2.ensures
    ∙ is
    ∙ back_some c.args.owner.now c.args.kind c.args.removed.now records apart (λ none. some_items c.args.own.now (sym c.is_empty.ensures ∙ c.if-is_empty.false) (is ∙ none))
